use Rattle.std.proofs.Common.{◌^◌, ◌∙◌, subst, rules, SFits, w64}
use Rattle.std.specs.Prelude.{pos}
use Rattle.std.proofs.lemmas.Int.{to_z-of_z}
use Rattle.linear.specs.Forms.{form}
use Rattle.words.specs.View.{kind}
use Rattle.facts.proofs.Unmade.{handed}
use Rattle.path_steps.specs.Leads.{Leads}
use Rattle.path_steps.specs.Refusals.{Stops}
use Rattle.path_steps.specs.View.{followed, setting as seen}
use Rattle.path_walk.specs.OperatorSteps.{quotient_alone}
use Rattle.path_walk.proofs.Operating.{as_value, as_value_stops}
use Rattle.path_walk.proofs.shifts.halved.Goals as goal

pub returns : goal.returns
returns g c =
    let z : SFits w64 c.power_of-divisor.result = search rules in
    let h = subst (λ n. Leads (followed c.args.path.now) (followed c.quotient_alone.new.path) (quotient_alone (seen g.D.Domain c.args.setting.now) (kind c.args.kind) (form c.args.of.now) n) (form c.in_ok-form.form)) (to_z-of_z w64 c.power_of-divisor.result z ∙ c.power_of-divisor.ensures.exact) c.in_ok-form.ensures in
    as_value (quotient_alone (seen g.D.Domain c.args.setting.now) (kind c.args.kind) (form c.args.of.now) (pos (2 ^ c.args.count))) (kind c.args.kind) (form c.in_ok-form.form) (followed c.args.path.now) (followed c.quotient_alone.new.path) h

pub returns-in_err-form : goal.returns-in_err-form
returns-in_err-form g c =
    let z : SFits w64 c.power_of-divisor.result = search rules in
    let h = subst (λ n. Stops (followed c.args.path.now) c.in_err-form.field-0.0 (quotient_alone (seen g.D.Domain c.args.setting.now) (kind c.args.kind) (form c.args.of.now) n)) (to_z-of_z w64 c.power_of-divisor.result z ∙ c.power_of-divisor.ensures.exact) c.in_err-form.ensures in
    let k = as_value_stops (quotient_alone (seen g.D.Domain c.args.setting.now) (kind c.args.kind) (form c.args.of.now) (pos (2 ^ c.args.count))) (kind c.args.kind) (followed c.args.path.now) c.in_err-form.field-0.0 h in
    handed c.from_residual.result c.in_err-form.field-0.0 _ _ c.from_residual.ensures k
