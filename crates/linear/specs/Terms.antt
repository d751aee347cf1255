-- The code's terms, as the definitions have them.
use Rattle.std.specs.Prelude.{ℕ, Bool, List, [], ◌∷◌}
use Rattle.linear.specs.Linear.{Weighted}
use Rattle.linear.specs.declared.term.Symbol.{Symbol}
use Rattle.linear.specs.declared.term.Term.{Term}
use Rattle.linear.specs.Exact.{Terms, is_rising, fits_terms}

abbrev pub term : Term → Weighted ℕ
term t = record { coefficient = t.coefficient; symbol = t.symbol.number }

abbrev pub terms : List Term → Terms
terms [] = []
terms (t ∷ ts) = term t ∷ terms ts

abbrev pub are_rising : List Term → Bool
are_rising ts = is_rising 0 (terms ts)

abbrev pub are_i64 : List Term → Bool
are_i64 ts = fits_terms (terms ts)

abbrev pub numbers : List Symbol → List ℕ
numbers [] = []
numbers (s ∷ ss) = s.number ∷ numbers ss
