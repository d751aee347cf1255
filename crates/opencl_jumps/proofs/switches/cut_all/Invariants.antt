use Rattle.std.proofs.Common.{◌≡◌, length}
use Rattle.opencl_tree.specs.View.{statements}
use Rattle.opencl_jumps.specs.Switches.{cut}
use Rattle.opencl_jumps.specs.View as seen
use Rattle.opencl_jumps.proofs.Reversed.{cut_behind}
use Rattle.opencl_jumps.proofs.switches.cut_all.Given as goal

abbrev pub invariant-loop-statement : goal.invariant-loop-statement
invariant-loop-statement l = cut_behind (statements l.left.items) (seen.cut l.so) ≡ cut (statements l.fn.body.items)

abbrev pub decreases-loop-statement : goal.decreases-loop-statement
decreases-loop-statement l = length l.left.items
