use Rattle.linear.specs.Forms.{form, forms}
use Rattle.facts.proofs.Unmade.{handed}
use Rattle.path_steps.specs.View.{followed}
use Rattle.arrival_claims.specs.View.{placed}
use Rattle.arrival_claims.proofs.Lines.{product_does, product_unfit}
use Rattle.arrival_claims.proofs.dividing.claim_put.Goals as goal

pub returns : goal.returns
returns g c =
    let w = placed g.D.Domain c.args.placing.now in
    let l = followed c.args.path.now in
    product_does w c.args.modulus (forms c.args.told.made.items) (form c.args.told.form) l c.divides_form-settled.result (form c.in_ok-product.product) (followed c.claim_divided.new.path) c.claim_divided.result c.divides_form-settled.ensures c.in_ok-product.ensures c.claim_divided.ensures

pub returns-in_err-product : goal.returns-in_err-product
returns-in_err-product g c =
    let w = placed g.D.Domain c.args.placing.now in
    let l = followed c.args.path.now in
    let k = product_unfit w c.args.modulus (forms c.args.told.made.items) (form c.args.told.form) l c.in_err-product.field-0.0 c.in_err-product.ensures in
    handed c.from_residual.result c.in_err-product.field-0.0 _ _ c.from_residual.ensures k
