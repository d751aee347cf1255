use Rattle.std.proofs.Common.{◌≡◌}
use Rattle.words.specs.View.{kind}
use Rattle.walk_trees.specs.Bits as bits
use Rattle.path_walk.proofs.bit_places.run_of.Given as goal

abbrev pub invariant-loop-smaller : goal.invariant-loop-smaller
invariant-loop-smaller l = l.found ≡ bits.run_of l.smaller (kind l.kind) l.number
