use Rattle.std.proofs.Common.{◌∙◌, ap, subst}
use Rattle.linear.specs.Forms.{form}
use Rattle.facts.specs.Symbols.{minus}
use Rattle.facts.specs.Refusals.{IsUnfit}
use Rattle.facts.proofs.Unmade.{handed}
use Rattle.walk_trees.specs.Trees.{Know}
use Rattle.walk_trees.specs.SharedQuotients.{below_divisor}
use Rattle.path_steps.specs.Paths.{with_fact}
use Rattle.path_steps.specs.View.{followed}
use Rattle.path_steps.proofs.Refusing.{unfit_fact}
use Rattle.path_steps.proofs.SharedParts.{knows_two, second_refused}
use Rattle.path_steps.proofs.sharing.know_parts.Goals as goal

pub returns-in_err-left-clause-refused : goal.returns-in_err-left-clause-refused
returns-in_err-left-clause-refused g c =
    let x = minus (form c.args.dividend.now) (form c.args.product.now) in
    let e = c.in_err-left.field-0.0 in
    handed c.from_residual.result e _ _ c.from_residual.ensures (λ rest. unfit_fact e (followed c.args.path.now).found x (Know (below_divisor (form c.args.divisor.now) x) rest) c.in_err-left.ensures)

pub returns-in_err-below-clause-refused : goal.returns-in_err-below-clause-refused
returns-in_err-below-clause-refused g c =
    let x = minus (form c.args.dividend.now) (form c.args.product.now) in
    let y = form c.args.divisor.now in
    let e = c.in_err-below.field-0.0 in
    let known = c.in_ok-know.ensures ∙ ap (with_fact (followed c.args.path.now)) (c.in_ok-copied.ensures ∙ c.in_ok-left.ensures) in
    let unfit = subst (λ z. IsUnfit e (below_divisor y z)) c.in_ok-left.ensures c.in_err-below.ensures in
    handed c.from_residual-in_err-below.result e _ _ c.from_residual-in_err-below.ensures (second_refused x (below_divisor y x) (followed c.args.path.now) (followed c.know.new.self) e known unfit)

pub returns-clause-leads : goal.returns-clause-leads
returns-clause-leads g c =
    let x = minus (form c.args.dividend.now) (form c.args.product.now) in
    let y = form c.args.divisor.now in
    let known = c.in_ok-know.ensures ∙ ap (with_fact (followed c.args.path.now)) (c.in_ok-copied.ensures ∙ c.in_ok-left.ensures) in
    let below = c.in_ok-know-2.ensures ∙ ap (with_fact (followed c.know.new.self)) (c.in_ok-below.ensures ∙ ap (below_divisor y) c.in_ok-left.ensures) in
    knows_two x (below_divisor y x) (followed c.args.path.now) (followed c.know.new.self) (followed c.know-2.new.self) known below
