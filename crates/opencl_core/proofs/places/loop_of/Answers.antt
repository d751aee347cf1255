use Rattle.core_code.proofs.Rows.{seen_loop}
use Rattle.opencl_core.proofs.places.loop_of.Goals as goal

pub returns : goal.returns
returns c = seen_loop c.args.number c.args.test c.args.body c.args.update
