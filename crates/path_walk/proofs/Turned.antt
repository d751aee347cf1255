-- A loop that turns once more.
use Rattle.std.proofs.Common.{◌≡◌, ℕ, List, [], ◌∷◌, ◌++◌, reverse, ap, ◌∙◌}
use Rattle.std.proofs.lemmas.List.{reverse-append}

pub turned_more : (before after : List ℕ) (n : ℕ) → after ≡ before ++ n ∷ [] → reverse after ≡ n ∷ reverse before
turned_more before after n e = ap reverse e ∙ reverse-append before (n ∷ [])
