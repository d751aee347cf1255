use Rattle.std.proofs.Common.{rules, SFits, w64}
use Rattle.std.proofs.lemmas.Int.{to_z-of_z}
use Rattle.linear.specs.Forms.{form}
use Rattle.words.specs.View.{kind}
use Rattle.facts.proofs.Unmade.{handed}
use Rattle.path_steps.specs.View.{followed, setting as seen}
use Rattle.path_steps.proofs.Quotients.{left_named, left_stops}
use Rattle.path_steps.proofs.dividing.name_left.Goals as goal

pub returns-clause-leads : goal.returns-clause-leads
returns-clause-leads g c =
    let z : SFits w64 c.args.number = search rules in
    let parts = simp to_z-of_z at c.in_ok-parts.ensures in
    let named = simp to_z-of_z at c.named.ensures.leads in
    left_named (seen g.D.Domain c.args.setting.now) (kind c.args.kind) (form c.args.of.now) c.args.number (form c.in_ok-parts.parts.0) (form c.in_ok-parts.parts.1) (followed c.args.path.now) (followed c.quotient.new.path) (followed c.named.new.path) c.named.result parts c.requires.wide named

pub returns-in_err-parts-clause-leads : goal.returns-in_err-parts-clause-leads
returns-in_err-parts-clause-leads g c =
    let z : SFits w64 c.args.number = search rules in
    let stops = simp to_z-of_z at c.in_err-parts.ensures in
    let k = left_stops (seen g.D.Domain c.args.setting.now) (kind c.args.kind) (form c.args.of.now) c.args.number (followed c.args.path.now) c.in_err-parts.field-0.0 stops in
    handed c.from_residual.result c.in_err-parts.field-0.0 _ _ c.from_residual.ensures k
