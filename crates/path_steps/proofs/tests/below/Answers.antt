use Rattle.std.proofs.Common.{◌≡◌, ◌∙◌, ap, subst, rules, SFits, w64}
use Rattle.std.proofs.lemmas.Int.{to_z-of_z}
use Rattle.std.specs.Prelude.{pos, MatchResult}
use Rattle.linear.specs.Forms.{form}
use Rattle.linear.proofs.FormLists.{form-fits}
use Rattle.facts.specs.Symbols.{Fact, constant, minus}
use Rattle.facts.specs.Refusals.{IsUnfit}
use Rattle.facts.proofs.Unmade.{handed}
use Rattle.path_steps.proofs.PastEnds.{below_other, most_error, below_error}
use Rattle.path_steps.proofs.tests.below.Goals as goal

pub returns : goal.returns
returns c =
    let x = form c.args.left.now in
    let y = form c.args.right.now in
    subst (λ (d : Fact). MatchResult c.difference-2.result (λ f. form f ≡ d) (λ e. IsUnfit e d)) (ap (λ m. minus m x) c.in_ok-most.ensures ∙ below_other x y) c.difference-2.ensures

pub returns-then-is_negative : goal.returns-then-is_negative
returns-then-is_negative c =
    subst (λ (d : Fact). MatchResult c.less_number.result (λ f. form f ≡ minus d (constant (pos 1))) (λ e. IsUnfit e (minus d (constant (pos 1))))) c.in_ok-form.ensures c.less_number.ensures

pub returns-in_err-most : goal.returns-in_err-most
returns-in_err-most c =
    let f : SFits w64 c.constant_part.result = search rules in
    let k = most_error c.in_err-most.field-0.0 _ c.is_negative.result (form c.args.left.now) (form c.args.right.now) (to_z-of_z w64 c.constant_part.result f ∙ c.constant_part.ensures) c.is_negative.ensures c.if-is_negative.false (form-fits c.args.right.now) c.in_err-most.ensures in
    handed c.from_residual-in_err-most.result c.in_err-most.field-0.0 _ _ c.from_residual-in_err-most.ensures k

pub returns-in_err-form : goal.returns-in_err-form
returns-in_err-form c =
    let f : SFits w64 c.constant_part.result = search rules in
    let k = below_error c.in_err-form.field-0.0 _ c.is_negative.result (form c.args.left.now) (form c.args.right.now) (to_z-of_z w64 c.constant_part.result f ∙ c.constant_part.ensures) c.is_negative.ensures c.if-is_negative.true (form-fits c.args.left.now) c.in_err-form.ensures in
    handed c.from_residual.result c.in_err-form.field-0.0 _ _ c.from_residual.ensures k
