-- Forms that are looked up by their spellings.
use Rattle.std.specs.Prelude.{◌≡◌, ℕ, String, List, map, bytes_eq, position}
use Rattle.std.specs.BTreeMap.{BTreeMap, get_by_text}
use Rattle.std.specs.declared.alloc.Global.{Global}
use Rattle.linear.specs.Linear as linear
use Rattle.certificate_text.specs.Certificate as certificate
use Rattle.certificate_text.specs.Text.{form_text}
use Rattle.certificate.specs.declared.tree.Form.{Form}
use Rattle.certificate.specs.View as view

abbrev pub forms_in : List Form → List (linear.Form certificate.Name)
forms_in forms = map view.form forms

-- at each spelling stands the index of the form that has it
abbrev pub AreIndexed : BTreeMap (String Global) ℕ → List Form → Type 0
AreIndexed indices forms = (spelling : List ℕ) → get_by_text indices spelling ≡ position (λ f. bytes_eq spelling (form_text f)) (forms_in forms)
