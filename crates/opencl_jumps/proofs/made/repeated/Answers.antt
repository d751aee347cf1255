use Rattle.opencl_tree.proofs.Rows.{seen_while}
use Rattle.opencl_jumps.proofs.made.repeated.Goals as goal

pub returns : goal.returns
returns c = seen_while c.args.number c.args.site c.args.test c.args.body
