use Rattle.opencl_tree.proofs.Rows.{seen_do}
use Rattle.opencl_jumps.proofs.made.done.Goals as goal

pub returns : goal.returns
returns c = seen_do c.args.number c.args.site c.args.body c.args.test
