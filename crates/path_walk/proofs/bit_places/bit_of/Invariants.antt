use Rattle.std.proofs.Common.{◌≡◌}
use Rattle.walk_trees.specs.Bits as bits
use Rattle.path_walk.proofs.bit_places.bit_of.Given as goal

abbrev pub invariant-loop-smaller : goal.invariant-loop-smaller
invariant-loop-smaller l = l.found ≡ bits.bit_of l.smaller l.number
