use Rattle.opencl_tree.proofs.Rows.{seen_if}
use Rattle.opencl_jumps.proofs.made.choice.Goals as goal

pub returns : goal.returns
returns c = seen_if c.args.number c.args.site c.args.test c.args.taken c.args.skipped
