use Rattle.std.proofs.Common.{sym, ◌∙◌}
use Rattle.linear.specs.Forms.{form}
use Rattle.facts.specs.View.{buffer_bound}
use Rattle.facts.proofs.Unmade.{handed}
use Rattle.walk_trees.specs.Contents.{content_fact}
use Rattle.path_steps.specs.View.{followed, setting as seen}
use Rattle.path_steps.proofs.Lines.{told_not, told_so, told_unfit}
use Rattle.path_steps.proofs.Told.{tell_stops}
use Rattle.path_steps.proofs.contents.know_content.Goals as goal

pub returns : goal.returns
returns g c = told_so (seen g.D.Domain c.args.setting.now) _ (sym c.is_of.ensures ∙ c.if-not-is_of.false) (content_fact (buffer_bound c.args.bound.now) (form c.args.form.now)) (form c.in_ok-fact.fact) (followed c.args.path.now) (followed c.tell.new.path) c.tell.result c.in_ok-fact.ensures c.tell.ensures

pub returns-then-not-is_of : goal.returns-then-not-is_of
returns-then-not-is_of g c = told_not (seen g.D.Domain c.args.setting.now) _ (content_fact (buffer_bound c.args.bound.now) (form c.args.form.now)) (followed c.args.path.now) (sym c.is_of.ensures ∙ c.if-not-is_of.true)

pub returns-in_err-fact : goal.returns-in_err-fact
returns-in_err-fact g c =
    let s = seen g.D.Domain c.args.setting.now in
    let f = content_fact (buffer_bound c.args.bound.now) (form c.args.form.now) in
    let k = told_unfit s _ (sym c.is_of.ensures ∙ c.if-not-is_of.false) f (followed c.args.path.now) c.in_err-fact.field-0.0 (tell_stops s f (followed c.args.path.now) c.in_err-fact.field-0.0 c.in_err-fact.ensures) in
    handed c.from_residual.result c.in_err-fact.field-0.0 _ _ c.from_residual.ensures k
