use Rattle.std.proofs.Common.{sym, ◌∙◌}
use Rattle.linear.specs.Forms.{form}
use Rattle.path_steps.specs.View.{followed}
use Rattle.obligations.specs.Walking.{on_path}
use Rattle.arrival_claims.specs.View.{placed}
use Rattle.arrival_claims.proofs.Digits.{some_is, none_is, next_factor, no_factor}
use Rattle.arrival_claims.proofs.factors.factors_form.Goals as goal

pub returns-in_default : goal.returns-in_default
returns-in_default g c =
    let by = on_path (placed g.D.Domain c.args.placing.now) (followed c.args.path.now).state in
    sym c.loop-most.invariant ∙ no_factor by (form c.loop-most.so_far) c.loop-most.most c.loop-most.left c.loop-most-test.true c.if-digit-eq0-2.false (none_is _ _ c.in_ok-product.field-0 c.in_default.is c.in_ok-product.ensures)

pub loop-most-preserved : goal.loop-most-preserved
loop-most-preserved g c =
    let by = on_path (placed g.D.Domain c.args.placing.now) (followed c.args.path.now).state in
    next_factor by (form c.loop-most.so_far) (form c.in-Some.product) c.loop-most.most c.loop-most.left c.loop-most-test.true c.if-digit-eq0-2.false (some_is _ _ c.in_ok-product.field-0 c.in-Some.product c.in-Some.is c.in_ok-product.ensures)
    ∙ c.loop-most.invariant
