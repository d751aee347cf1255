use Rattle.std.proofs.Common.{◌≡◌, drop, map}
use Rattle.words.specs.View.{kind as kind_seen}
use Rattle.opencl_reading.specs.Kinds.{are_same}
use Rattle.opencl_reading.proofs.kinds.are_same.Given as goal

abbrev pub invariant-loop-kind : goal.invariant-loop-kind
invariant-loop-kind l = are_same (map kind_seen (drop l.kind-index l.left)) (map kind_seen l.rest) ≡ are_same (map kind_seen l.left) (map kind_seen l.right)
