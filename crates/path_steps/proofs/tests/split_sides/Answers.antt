use Rattle.linear.specs.Forms.{form}
use Rattle.core_code.specs.View.{relation}
use Rattle.path_steps.specs.View.{followed, setting as seen}
use Rattle.path_steps.proofs.Testing.{sides_lead, sides_halt, halted}
use Rattle.path_steps.proofs.tests.split_sides.Goals as goal

pub returns : goal.returns
returns g c = sides_lead (seen g.D.Domain c.args.setting.now) c.args.by_elements (relation c.args.relation) c.in_ok-first.first (form c.args.left.now) (form c.args.right.now) (followed c.args.path.now) (followed c.choose_side.new.path) (followed c.know_side.new.path) c.in_ok-first.ensures c.in_ok-know_side.ensures

pub returns-in_err-know_side : goal.returns-in_err-know_side
returns-in_err-know_side g c =
    let k = sides_halt (seen g.D.Domain c.args.setting.now) c.args.by_elements (relation c.args.relation) c.in_ok-first.first (form c.args.left.now) (form c.args.right.now) (followed c.args.path.now) (followed c.choose_side.new.path) (followed c.know_side.new.path) c.in_err-know_side.field-0.0 c.in_ok-first.ensures c.in_err-know_side.ensures in
    halted c.from_residual-in_err-know_side.result c.in_err-know_side.field-0.0 _ _ c.from_residual-in_err-know_side.ensures k
