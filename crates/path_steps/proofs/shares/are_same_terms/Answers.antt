use Rattle.path_steps.proofs.Alike.{unlike}
use Rattle.path_steps.proofs.shares.are_same_terms.Goals as goal

pub returns-then-left-right : goal.returns-then-left-right
returns-then-left-right c = unlike c.args.left.now c.args.right.now c.if-left-right.true
