use Rattle.std.proofs.Common.{◌≡◌, drop}
use Rattle.loop_bounds.specs.Turns.{turns_of}
use Rattle.loop_bounds.proofs.turning.turns_of.Given as goal

abbrev pub invariant-loop-one : goal.invariant-loop-one
invariant-loop-one l = turns_of (drop l.one-index l.bounds) l.number ≡ turns_of l.bounds l.number
