use Rattle.opencl_tree.proofs.Rows.{seen_switch}
use Rattle.opencl_jumps.proofs.made.selected.Goals as goal

pub returns : goal.returns
returns c = seen_switch c.args.number c.args.site c.args.test c.args.body
