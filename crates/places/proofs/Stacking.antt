-- Lists left.
use Rattle.std.proofs.Common.{◌≡◌, List, [], ◌∷◌, ◌++◌, refl, ap, ◌∙◌}
use Rattle.std.proofs.lemmas.List.{append_assoc}
use Rattle.arrivals.specs.Points.{Left}
use Rattle.places.specs.declared.point.Rest.{Rest}
use Rattle.places.specs.View.{opened, stacked}

-- one list more, the innermost
pub stacked_more : (rs : List Rest) (r : Rest) (around : List Left) → stacked (rs ++ r ∷ []) around ≡ opened r (stacked rs around)
stacked_more [] r around = refl
stacked_more (q ∷ rs) r around = stacked_more rs r (opened q around)

-- what two add, and what three add of which the first adds one
pub two : {A : Type 0} (a b c x y : List A) → b ≡ a ++ x → c ≡ b ++ y → c ≡ a ++ (x ++ y)
two a b c x y h k = k ∙ ap (λ l. l ++ y) h ∙ append_assoc a x y

pub three : {A : Type 0} (a b c d : List A) (p : A) (x y : List A) → b ≡ a ++ p ∷ [] → c ≡ b ++ x → d ≡ c ++ y → d ≡ a ++ (p ∷ (x ++ y))
three a b c d p x y g h k = two b c d x y h k ∙ ap (λ l. l ++ (x ++ y)) g ∙ append_assoc a (p ∷ []) (x ++ y)
