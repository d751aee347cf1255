use Rattle.std.proofs.Common.{rules, SFits, w64}
use Rattle.std.proofs.lemmas.Int.{to_z-of_z}
use Rattle.linear.specs.Forms.{form}
use Rattle.words.specs.View.{kind}
use Rattle.facts.proofs.Unmade.{handed}
use Rattle.path_steps.specs.View.{followed, setting as seen}
use Rattle.path_steps.proofs.Quotients.{left_alone, left_stops}
use Rattle.path_steps.proofs.dividing.left_by.Goals as goal

pub returns : goal.returns
returns g c =
    let z : SFits w64 c.args.number = search rules in
    let parts = simp to_z-of_z at c.in_ok-parts.ensures in
    left_alone (seen g.D.Domain c.args.setting.now) (kind c.args.kind) (form c.args.of.now) c.args.number (form c.in_ok-parts.parts.0) (form c.in_ok-parts.parts.1) (followed c.args.path.now) (followed c.quotient.new.path) parts c.if-setting.false

pub returns-in_err-parts : goal.returns-in_err-parts
returns-in_err-parts g c =
    let z : SFits w64 c.args.number = search rules in
    let stops = simp to_z-of_z at c.in_err-parts.ensures in
    let k = left_stops (seen g.D.Domain c.args.setting.now) (kind c.args.kind) (form c.args.of.now) c.args.number (followed c.args.path.now) c.in_err-parts.field-0.0 stops in
    handed c.from_residual.result c.in_err-parts.field-0.0 _ _ c.from_residual.ensures k
