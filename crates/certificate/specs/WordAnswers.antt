-- What the code's answers stand for.
use Rattle.std.specs.Prelude.{◌≡◌, List, ℕ, Option, None, Some, Result, Ok, Err}
use Rattle.std.specs.Option.{option_map}
use Rattle.certificate_text.specs.Certificate as certificate
use Rattle.lines.specs.declared.pieces.Pieces.{Pieces}
use Rattle.lines.specs.Left.{left}
use Rattle.certificate.specs.declared.tree.Descent.{Descent}
use Rattle.certificate.specs.View as view
use Rattle.certificate.specs.declared.line_error.LineError.{LineError}
use Rattle.certificate.specs.declared.line_error.LineError.TheVariants as errors

-- a line that says nothing has no meaning; where memory was refused nothing is said
abbrev pub Fails : {B : Type 0} → LineError → Option B → Type 0
Fails errors.Bad meaning = meaning ≡ None
Fails errors.Memory meaning = Unit {0}

abbrev pub Means : {A B : Type 0} → (A → B) → Result A LineError → Option B → Type 0
Means view (Ok a) meaning = meaning ≡ Some (view a)
Means view (Err e) meaning = Fails e meaning

abbrev pub descent_left : Option (Descent × Pieces) → Option (certificate.Descent × List (List ℕ))
descent_left r = option_map (λ p. (view.descent p.0, left p.1)) r
