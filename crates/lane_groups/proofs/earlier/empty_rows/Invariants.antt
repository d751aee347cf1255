use Rattle.std.proofs.Common.{◌≡◌, ℕ, None}
use Rattle.lane_groups.specs.Earlier.{stored_in}
use Rattle.lane_groups.proofs.earlier.empty_rows.Given as goal

abbrev pub invariant-loop-array : goal.invariant-loop-array
invariant-loop-array l = (array index : ℕ) → stored_in l.rows.items array index ≡ None
