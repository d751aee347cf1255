-- Launches that lane code is for: sizes are exact, and what the device gives for an operation that is not reckoned does not heed
-- when it is done.
use Rattle.std.specs.Prelude.{◌≡◌, ℕ, ℤ, List}
use Rattle.semantics.specs.Word.{Exact}
use Rattle.semantics.specs.Launch.{Operation}
use Rattle.semantics.specs.Setup.{Setup}

abbrev pub operation : (operation place item : ℕ) (moment : List ℕ) (first second third : ℤ) → Operation
operation n at i t a b c = record { operation = n; place = at; item = i; moment = t; first = a; second = b; third = c }

abbrev pub IsTimeless : Setup → Type 0
IsTimeless s = (n at i : ℕ) (a b c : ℤ) (t u : List ℕ) → s.launch.machine (operation n at i t a b c) ≡ s.launch.machine (operation n at i u a b c)

abbrev pub IsPlain : Setup → Type 0
IsPlain s = (s.width ≡ Exact) × IsTimeless s
