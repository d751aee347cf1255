use Rattle.std.proofs.Common.{◌≡◌, length}
use Rattle.lane_groups.specs.Owns.{own_in}
use Rattle.lane_groups.specs.Strips.{strip_at}
use Rattle.lane_groups.proofs.Spilled.{Spilled}
use Rattle.lane_groups.proofs.round.spill.Given as goal

abbrev pub invariant-loop-lane : goal.invariant-loop-lane
invariant-loop-lane l =
    Spilled (own_in l.fn.own.items) (strip_at l.strip) l.lane (own_in l.own.items)
    × (length l.own.items ≡ length l.fn.own.items)
