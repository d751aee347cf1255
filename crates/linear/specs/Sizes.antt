-- How large the numbers of a form are together.
use Rattle.std.specs.Prelude.{ℕ, ◌+◌, unsigned_abs, [], ◌∷◌}
use Rattle.linear.specs.Linear.{Form}
use Rattle.linear.specs.Exact.{Terms}

abbrev pub terms_size : Terms → ℕ
terms_size [] = 0
terms_size (t ∷ ts) = unsigned_abs t.coefficient + terms_size ts

-- the sum of the sizes of the coefficients and the constant
abbrev pub size : Form ℕ → ℕ
size f = unsigned_abs f.constant + terms_size f.terms
