use Rattle.opencl_tree.proofs.Rows.{seen_for}
use Rattle.opencl_jumps.proofs.made.counting.Goals as goal

pub returns : goal.returns
returns c = seen_for c.args.number c.args.site c.args.head.first c.args.head.test c.args.head.update c.args.body
