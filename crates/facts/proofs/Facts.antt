-- Lists of facts that grow at the end.
use Rattle.std.proofs.Common.{◌≡◌, ◌++◌, List, [], ◌∷◌, map, append_assoc, ap, ◌∙◌}
use Rattle.std.proofs.lemmas.List.{map-append}
use Rattle.linear.specs.Forms.{form, forms}
use Rattle.linear.specs.declared.form.Form.{Form}
use Rattle.linear.proofs.FormLists.{forms_more}
use Rattle.facts.specs.Launching as launching
use Rattle.facts.specs.View.{buffer_bound}
use Rattle.facts.specs.declared.contents.BufferBound.{BufferBound}

pub two_more : (a b c : List Form) (f g : Form) → b ≡ a ++ f ∷ [] → c ≡ b ++ g ∷ [] → forms c ≡ forms a ++ form f ∷ form g ∷ []
two_more a b c f g d e = forms_more b c g e ∙ ap (λ fs. fs ++ form g ∷ []) (forms_more a b f d) ∙ append_assoc (forms a) (form f ∷ []) (form g ∷ [])

-- one part more
pub carried : {A : Type 0} (out out' part rest all : List A) → out' ≡ out ++ part → out ++ (part ++ rest) ≡ all → out' ++ rest ≡ all
carried out out' part rest all d e = ap (λ l. l ++ rest) d ∙ append_assoc out part rest ∙ e

-- one line more
pub bounds_more : (a b : List BufferBound) (x : BufferBound) (y : launching.BufferBound) → b ≡ a ++ x ∷ [] → buffer_bound x ≡ y → map buffer_bound b ≡ map buffer_bound a ++ y ∷ []
bounds_more a b x y e d = ap (map buffer_bound) e ∙ map-append buffer_bound a (x ∷ []) ∙ ap (λ z. map buffer_bound a ++ z ∷ []) d

pub ruleset facts = (two_more, carried, forms_more)

pub ruleset copies = (two_more, forms_more)
