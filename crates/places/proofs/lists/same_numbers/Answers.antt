use Rattle.places.proofs.Joins.{unlike}
use Rattle.places.proofs.lists.same_numbers.Goals as goal

pub returns-then-left-right : goal.returns-then-left-right
returns-then-left-right c = unlike c.args.left.now c.args.right.now c.if-left-right.true
