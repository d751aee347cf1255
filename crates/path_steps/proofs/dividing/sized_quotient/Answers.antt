use Rattle.std.proofs.Common.{rules, SFits, w64}
use Rattle.std.proofs.lemmas.Int.{to_z-of_z}
use Rattle.linear.specs.Forms.{form}
use Rattle.words.specs.View.{kind}
use Rattle.facts.proofs.Unmade.{handed}
use Rattle.path_steps.specs.View.{followed, setting as seen}
use Rattle.path_steps.proofs.Quotients.{quotient_leads, quotient_new_stops, quotient_left_stops, quotient_under_stops}
use Rattle.path_steps.proofs.dividing.sized_quotient.Goals as goal

pub returns-clause-leads : goal.returns-clause-leads
returns-clause-leads g c =
    let z : SFits w64 c.args.number = search rules in
    let left_is = simp to_z-of_z at c.in_ok-left.ensures.left in
    let known = simp to_z-of_z at c.in_ok-left.ensures.known in
    let under = simp to_z-of_z at c.in_ok-know_under.ensures in
    quotient_leads (seen g.D.Domain c.args.setting.now) (kind c.args.kind) (form c.args.of.now) c.args.number c.any_of.result (form c.in_ok-quotient.quotient) (form c.in_ok-left.left) (followed c.args.path.now) (followed c.invent.new.path) (followed c.know_left.new.path) (followed c.know_under.new.path) c.any_of.ensures c.in_ok-quotient.ensures.leads left_is known under

pub returns-in_err-quotient-clause-leads : goal.returns-in_err-quotient-clause-leads
returns-in_err-quotient-clause-leads g c =
    let k = quotient_new_stops (seen g.D.Domain c.args.setting.now) (kind c.args.kind) (form c.args.of.now) c.args.number c.any_of.result (followed c.args.path.now) c.in_err-quotient.field-0.0 c.any_of.ensures c.in_err-quotient.ensures.leads in
    handed c.from_residual.result c.in_err-quotient.field-0.0 _ _ c.from_residual.ensures k

pub returns-in_err-left-clause-leads : goal.returns-in_err-left-clause-leads
returns-in_err-left-clause-leads g c =
    let z : SFits w64 c.args.number = search rules in
    let no_left = simp to_z-of_z at c.in_err-left.ensures.known in
    let k = quotient_left_stops (seen g.D.Domain c.args.setting.now) (kind c.args.kind) (form c.args.of.now) c.args.number c.any_of.result (form c.in_ok-quotient.quotient) (followed c.args.path.now) (followed c.invent.new.path) c.in_err-left.field-0.0 c.any_of.ensures c.in_ok-quotient.ensures.leads no_left in
    handed c.from_residual-in_err-left.result c.in_err-left.field-0.0 _ _ c.from_residual-in_err-left.ensures k

pub returns-in_err-know_under-clause-leads : goal.returns-in_err-know_under-clause-leads
returns-in_err-know_under-clause-leads g c =
    let z : SFits w64 c.args.number = search rules in
    let left_is = simp to_z-of_z at c.in_ok-left.ensures.left in
    let known = simp to_z-of_z at c.in_ok-left.ensures.known in
    let no_under = simp to_z-of_z at c.in_err-know_under.ensures in
    let k = quotient_under_stops (seen g.D.Domain c.args.setting.now) (kind c.args.kind) (form c.args.of.now) c.args.number c.any_of.result (form c.in_ok-quotient.quotient) (form c.in_ok-left.left) (followed c.args.path.now) (followed c.invent.new.path) (followed c.know_left.new.path) c.in_err-know_under.field-0.0 c.any_of.ensures c.in_ok-quotient.ensures.leads left_is known no_under in
    handed c.from_residual-in_err-know_under.result c.in_err-know_under.field-0.0 _ _ c.from_residual-in_err-know_under.ensures k
