use Rattle.std.proofs.Common.{◌≡◌}
use Rattle.std.specs.Prelude.{Some}
use Rattle.linear.specs.Forms.{form}
use Rattle.facts.proofs.Unmade.{handed, matched_some}
use Rattle.walk_trees.specs.Operators.{small_product}
use Rattle.path_steps.specs.View.{followed}
use Rattle.path_steps.proofs.Joining.{product_known, product_stops}
use Rattle.path_steps.proofs.joins.know_product.Goals as goal

pub returns-in_ok-know : goal.returns-in_ok-know
returns-in_ok-know g c =
    let d = matched_some _ c.in-Some.product _ (λ x. small_product (form c.args.first.now) (form c.args.second.now) ≡ Some (form x)) c.in-Some.is c.in_ok-product.ensures in
    product_known (form c.args.first.now) (form c.args.second.now) (form c.in-Some.product) (form c.in_ok-fact.fact) (followed c.args.path.now) (followed c.know.new.self) d c.in_ok-fact.ensures c.in_ok-know.ensures

pub returns-in_err-fact : goal.returns-in_err-fact
returns-in_err-fact g c =
    let d = matched_some _ c.in-Some.product _ (λ x. small_product (form c.args.first.now) (form c.args.second.now) ≡ Some (form x)) c.in-Some.is c.in_ok-product.ensures in
    let k = product_stops (form c.args.first.now) (form c.args.second.now) (form c.in-Some.product) (followed c.args.path.now) c.in_err-fact.field-0.0 d c.in_err-fact.ensures in
    handed c.from_residual-in_err-fact.result c.in_err-fact.field-0.0 _ _ c.from_residual-in_err-fact.ensures k
