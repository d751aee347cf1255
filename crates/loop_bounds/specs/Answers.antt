-- What a count answers.
use Rattle.std.specs.Prelude.{◌≡◌, ◌≤◌, ◌^◌, ℕ, Result, MatchResult}
use Rattle.loop_bounds.specs.declared.error.BoundError.{BoundError}

-- the number where it is one of 64 bits, and the error exactly where it is not
abbrev pub Counts : Result ℕ BoundError → ℕ → Type 0
Counts result n = MatchResult result (λ m. m ≡ n) (λ e. 2 ^ 64 ≤ n)
