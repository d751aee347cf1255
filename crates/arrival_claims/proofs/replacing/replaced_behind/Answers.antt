use Rattle.std.proofs.Common.{sym, ap, ◌∙◌, ◌+◌, ◌++◌, drop, get_or}
use Rattle.linear.specs.Forms.{form, forms}
use Rattle.linear.specs.Terms.{term, terms}
use Rattle.linear.proofs.Lists.{terms-drop, no_term}
use Rattle.facts.proofs.Unmade.{handed}
use Rattle.path_steps.specs.View.{followed}
use Rattle.obligations.specs.Replacing.{made, made_from}
use Rattle.obligations.specs.Walking.{on_path}
use Rattle.arrival_claims.specs.View.{placed}
use Rattle.arrival_claims.proofs.Making.{part_unfit, sum_unfit}
use Rattle.arrival_claims.proofs.replacing.replaced_behind.Goals as goal

pub returns-in_err-part : goal.returns-in_err-part
returns-in_err-part g c =
    let by = on_path (placed g.D.Domain c.args.placing.now) (followed c.args.path.now).state in
    let items = c.terms-term-items.result.now in
    let i = c.loop-term.term-index in
    let d = ap (λ x. forms c.loop-term.made.items ++ made_from by (form c.loop-term.so_far) x) (sym (terms-drop items i no_term c.loop-term-test.true)) ∙ c.loop-term.invariant.made in
    let k = part_unfit by (form c.loop-term.so_far) (term (get_or items i no_term)) (terms (drop (i + 1) items)) (forms c.loop-term.made.items) (forms c.args.before.items ++ made by (form c.args.form.now)) d c.in_err-part.field-0.0 c.in_err-part.ensures in
    handed c.from_residual.result c.in_err-part.field-0.0 _ _ c.from_residual.ensures k

pub returns-in_err-so_far : goal.returns-in_err-so_far
returns-in_err-so_far g c =
    let by = on_path (placed g.D.Domain c.args.placing.now) (followed c.args.path.now).state in
    let items = c.terms-term-items.result.now in
    let i = c.loop-term.term-index in
    let d = ap (λ x. forms c.loop-term.made.items ++ made_from by (form c.loop-term.so_far) x) (sym (terms-drop items i no_term c.loop-term-test.true)) ∙ c.loop-term.invariant.made in
    let k = sum_unfit by (form c.loop-term.so_far) (term (get_or items i no_term)) (terms (drop (i + 1) items)) (forms c.loop-term.made.items) (forms c.args.before.items ++ made by (form c.args.form.now)) d c.in_err-so_far.field-0.0 (form c.in_ok-part.part) c.in_ok-part.ensures c.in_err-so_far.ensures.made in
    handed c.from_residual-in_err-so_far.result c.in_err-so_far.field-0.0 _ _ c.from_residual-in_err-so_far.ensures k
