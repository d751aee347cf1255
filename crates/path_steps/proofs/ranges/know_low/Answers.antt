use Rattle.std.proofs.Common.{◌∙◌, ap, rules, SFits, w64}
use Rattle.std.proofs.lemmas.Int.{to_z-of_z}
use Rattle.linear.specs.Forms.{form}
use Rattle.path_steps.specs.View.{followed}
use Rattle.path_steps.specs.Paths.{with_fact}
use Rattle.path_steps.proofs.Leading.{knows_low}
use Rattle.path_steps.proofs.Refusing.{low_refused}
use Rattle.facts.proofs.Unmade.{handed}
use Rattle.path_steps.proofs.ranges.know_low.Goals as goal

pub returns-in_ok-know-clause-leads : goal.returns-in_ok-know-clause-leads
returns-in_ok-know-clause-leads g c =
    let f : SFits w64 c.in-Some.low = search rules in
    let e = simp to_z-of_z at c.in_ok-fact.ensures in
    knows_low (form c.args.of.now) c.args.low _ (followed c.args.path.now) (followed c.know.new.self) c.in-Some.is (c.in_ok-know.ensures ∙ ap (with_fact (followed c.args.path.now)) e)

pub returns-in_err-fact-clause-refused : goal.returns-in_err-fact-clause-refused
returns-in_err-fact-clause-refused g c =
    let f : SFits w64 c.in-Some.low = search rules in
    let h = simp to_z-of_z at c.in_err-fact.ensures in
    let k = low_refused (form c.args.of.now) c.args.low _ (followed c.args.path.now) c.in_err-fact.field-0.0 c.in-Some.is h in
    handed c.from_residual.result c.in_err-fact.field-0.0 _ _ c.from_residual.ensures k
