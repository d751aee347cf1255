use Rattle.core_code.proofs.Rows.{seen_if}
use Rattle.core_moves.proofs.moving.if_of.Goals as goal

pub returns : goal.returns
returns c = seen_if c.args.number c.args.test c.args.taken c.args.skipped
