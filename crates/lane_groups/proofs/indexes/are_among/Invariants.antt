use Rattle.std.proofs.Common.{◌≡◌, ◌<◌, ℕ, true}
use Rattle.lane_groups.specs.Registers.{lane_word}
use Rattle.lane_groups.specs.Sources.{IsAmong}
use Rattle.lane_groups.proofs.indexes.are_among.Given as goal

abbrev pub invariant-loop-lane : goal.invariant-loop-lane
invariant-loop-lane l = l.all ≡ true → (k : ℕ) → k < l.lane → IsAmong l.length (lane_word l.indexes k)
