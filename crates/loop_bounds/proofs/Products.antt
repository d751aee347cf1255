-- The steps of a loop, turn by turn.
use Rattle.std.proofs.Common.{◌≡◌, ℕ, ◌+◌, ◌*◌, ◌<◌, ◌≤◌, arith, add-mul, mul-add}
use Rattle.std.proofs.lemmas.Grind.{common_steps}
use Rattle.std.proofs.lemmas.Nat.{mul-le}

-- each turn with its test, and the test once more
pub once_more : (n t b : ℕ) → (n + 1) * t + n * b ≡ n * (t + b) + t
once_more n t b = grind (arith, common_steps, mul-add n t b, add-mul n 1 t)

-- a loop with a turn takes no less than a turn
pub a_turn : (n x : ℕ) → 0 < n → x ≤ n * x
a_turn n x h = grind (arith, common_steps, mul-le 1 x n x)

pub ruleset turning = (once_more, a_turn)

-- nor less than what a turn repeats
pub a_body : (m n t b u : ℕ) → 0 < n → m ≤ b → m ≤ (n + 1) * t + n * (b + u)
a_body m n t b u h k = omega (arith, a_turn n (b + u) h)

pub an_update : (m n t b u : ℕ) → 0 < n → m ≤ u → m ≤ (n + 1) * t + n * (b + u)
an_update m n t b u h k = omega (arith, a_turn n (b + u) h)
