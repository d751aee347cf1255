-- How often a loop turns, by what is said of it.
use Rattle.std.specs.Prelude.{ℕ}
use Rattle.rankings.specs.Limits as rankings
use Rattle.rankings.specs.Limits.{Limit, IsLimit, turns_within}
use Rattle.obligations.specs.Notes.{Bound, Down, Halving, Doubling, Notes}

abbrev pub limit : Bound → Limit
limit (Down step n) = rankings.Down step n
limit (Halving n) = rankings.Halve n
limit (Doubling least n) = rankings.Double least n

abbrev pub limit_at : Notes → (loop : ℕ) → Limit
limit_at n m = limit (n.ranking m).bound

-- how often its test is true at most
abbrev pub turns_at : Notes → (loop : ℕ) → ℕ
turns_at n m = turns_within (limit_at n m)

-- steps are 1 at least, and so is what is doubled; numbers that are halved or doubled are of 64 bits
abbrev pub AreLimits : Notes → Type 0
AreLimits n = (m : ℕ) → IsLimit (limit_at n m)
