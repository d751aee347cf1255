use Rattle.linear.specs.Forms.{form}
use Rattle.facts.specs.Symbols.{minus}
use Rattle.facts.proofs.Unmade.{handed}
use Rattle.path_steps.specs.View.{followed, setting as seen}
use Rattle.path_steps.proofs.Told.{tell_stops}
use Rattle.path_steps.proofs.telling.tell_order.Goals as goal

pub returns-in_err-fact : goal.returns-in_err-fact
returns-in_err-fact g c =
    let k = tell_stops (seen g.D.Domain c.args.setting.now) (minus (form c.args.greater.now) (form c.args.lesser.now)) (followed c.args.path.now) c.in_err-fact.field-0.0 c.in_err-fact.ensures in
    handed c.from_residual.result c.in_err-fact.field-0.0 _ _ c.from_residual.ensures k
