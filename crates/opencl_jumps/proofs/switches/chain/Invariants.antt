use Rattle.std.proofs.Common.{◌≡◌, map}
use Rattle.core_code.specs.View.{site}
use Rattle.opencl_tree.specs.View.{statements}
use Rattle.opencl_jumps.specs.Switches as rules
use Rattle.opencl_jumps.specs.View as seen
use Rattle.opencl_jumps.proofs.switches.chain.Given as goal

abbrev pub invariant-loop-group : goal.invariant-loop-group
invariant-loop-group l = statements l.all.items ≡ rules.chain (site l.at) (map seen.group l.yielded) (statements l.fn.so.items)
