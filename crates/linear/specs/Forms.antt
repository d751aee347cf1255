-- The code's forms, as the definitions have them.
use Rattle.std.specs.Prelude.{ℕ, List, [], ◌∷◌}
use Rattle.linear.specs.Linear as meaning
use Rattle.linear.specs.declared.form.Form.{Form}
use Rattle.linear.specs.Terms.{terms}

abbrev pub form : Form → meaning.Form ℕ
form f = record { terms = terms f.terms.terms.items; constant = f.constant }

abbrev pub forms : List Form → List (meaning.Form ℕ)
forms [] = []
forms (f ∷ fs) = form f ∷ forms fs
