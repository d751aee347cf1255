use Rattle.std.proofs.Common.{ap, ◌∙◌}
use Rattle.opencl_tree.specs.View.{statements}
use Rattle.opencl_jumps.proofs.Reversed.{followed-last}
use Rattle.opencl_jumps.proofs.functions.followed.Goals as goal

pub returns : goal.returns
returns c = ap statements c.in_ok-push.ensures.items ∙ followed-last c.args.first.items c.args.last
