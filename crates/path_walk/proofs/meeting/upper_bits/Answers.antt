use Rattle.std.proofs.Common.{rules, SFits, w64, ◌∙◌}
use Rattle.std.proofs.lemmas.Int.{to_z-of_z}
use Rattle.linear.specs.Forms.{form}
use Rattle.words.specs.View.{kind}
use Rattle.facts.proofs.Unmade.{handed}
use Rattle.path_steps.specs.View.{followed, setting as seen}
use Rattle.path_walk.proofs.BitSteps.{upper_leads, upper_stops}
use Rattle.path_walk.proofs.meeting.upper_bits.Goals as goal

pub returns-in_err-parts-clause-leads : goal.returns-in_err-parts-clause-leads
returns-in_err-parts-clause-leads g c =
    let z : SFits w64 c.power_of.result = search rules in
    let k = upper_stops (seen g.D.Domain c.args.setting.now) (kind c.args.kind) (form c.args.of.now) c.args.lowest _ (followed c.args.path.now) c.in_err-parts.field-0.0 c.requires.above (to_z-of_z w64 c.power_of.result z ∙ c.power_of.ensures.exact) c.in_err-parts.ensures.leads in
    handed c.from_residual.result c.in_err-parts.field-0.0 _ _ c.from_residual.ensures k

pub returns-clause-leads : goal.returns-clause-leads
returns-clause-leads g c =
    let z : SFits w64 c.power_of.result = search rules in
    upper_leads (seen g.D.Domain c.args.setting.now) (kind c.args.kind) (form c.args.of.now) c.args.lowest _ (form c.in_ok-parts.parts.0) (form c.in_ok-parts.parts.1) (followed c.args.path.now) (followed c.sized_quotient.new.path) c.requires.above (to_z-of_z w64 c.power_of.result z ∙ c.power_of.ensures.exact) c.in_ok-parts.ensures.leads
