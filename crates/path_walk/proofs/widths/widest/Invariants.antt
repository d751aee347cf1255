use Rattle.std.proofs.Common.{◌≡◌}
use Rattle.walk_trees.specs.Bits as bits
use Rattle.path_walk.proofs.widths.widest.Given as goal

abbrev pub invariant-loop-smaller : goal.invariant-loop-smaller
invariant-loop-smaller l = l.found ≡ bits.widest l.smaller l.number
