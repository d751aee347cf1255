use Rattle.opencl_tree.proofs.Rows.{seen_block}
use Rattle.opencl_jumps.proofs.made.block.Goals as goal

pub returns : goal.returns
returns c = seen_block c.args.number c.args.site c.args.body
