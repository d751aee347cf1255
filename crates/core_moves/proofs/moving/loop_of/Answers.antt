use Rattle.core_code.proofs.Rows.{seen_loop}
use Rattle.core_moves.proofs.moving.loop_of.Goals as goal

pub returns : goal.returns
returns c = seen_loop c.args.number c.args.test c.args.body c.args.update
