use Rattle.linear.specs.Forms.{form}
use Rattle.core_code.specs.View.{relation}
use Rattle.path_steps.specs.Sides.{side}
use Rattle.path_steps.proofs.tests.leaves_out_side.Goals as goal

pub returns : goal.returns
returns g c = c.leaves_out.ensures (side (relation c.args.way.relation) c.args.way.first (form c.args.left.now) (form c.args.right.now)) c.side_fact-fact.ensures
