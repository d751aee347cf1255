use Rattle.std.proofs.Common.{◌∙◌, sym, ap, true, false, nat_le, length}
use Rattle.std.proofs.lemmas.Bool.{le-leb, lt-leb}
use Rattle.linear.specs.Forms.{form}
use Rattle.path_steps.proofs.Exactly.{counted, as_made}
use Rattle.path_steps.proofs.exact.small_product.Goals as goal

pub returns-then-terms-le24 : goal.returns-then-terms-le24
returns-then-terms-le24 c =
    let e = counted c.terms.result.now c.in-Some.form.terms.terms.items c.terms.ensures in
    as_made (form c.args.left.now) (form c.args.right.now) true c.in_ok-form.field-0 c.in-Some.form c.in-Some.is c.in_ok-form.ensures.exact (ap (λ n. nat_le n 24) (sym e) ∙ le-leb (length c.terms.result.now) 24 c.if-terms-le24.true)

pub returns : goal.returns
returns c =
    let e = counted c.terms.result.now c.in-Some.form.terms.terms.items c.terms.ensures in
    as_made (form c.args.left.now) (form c.args.right.now) false c.in_ok-form.field-0 c.in-Some.form c.in-Some.is c.in_ok-form.ensures.exact (ap (λ n. nat_le n 24) (sym e) ∙ lt-leb (length c.terms.result.now) 24 c.if-terms-le24.false)
