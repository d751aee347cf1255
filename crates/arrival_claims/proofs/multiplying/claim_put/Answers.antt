use Rattle.std.proofs.Common.{None, Some}
use Rattle.linear.specs.Forms.{form, forms}
use Rattle.path_steps.specs.View.{followed}
use Rattle.arrival_claims.specs.View.{placed}
use Rattle.arrival_claims.proofs.Digits.{some_is, none_is}
use Rattle.arrival_claims.proofs.Lines.{by_product}
use Rattle.arrival_claims.proofs.multiplying.claim_put.Goals as goal

pub returns-in-Some : goal.returns-in-Some
returns-in-Some g c =
    let w = placed g.D.Domain c.args.placing.now in
    let l = followed c.args.path.now in
    by_product w (forms c.args.told.made.items) (form c.args.told.form) (form c.args.told.of) l (followed c.claim_divided.new.path) c.claim_divided.result (Some (form c.in-Some.product)) (some_is _ _ c.in_ok-product.field-0 c.in-Some.product c.in-Some.is c.in_ok-product.ensures) c.claim_divided.ensures

pub returns : goal.returns
returns g c =
    let w = placed g.D.Domain c.args.placing.now in
    let l = followed c.args.path.now in
    by_product w (forms c.args.told.made.items) (form c.args.told.form) (form c.args.told.of) l (followed c.claim_none.new.path) c.claim_none.result None (none_is _ _ c.in_ok-product.field-0 c.in-None.is c.in_ok-product.ensures) c.claim_none.ensures
