use Rattle.linear.specs.Forms.{form, forms}
use Rattle.facts.specs.Symbols.{minus}
use Rattle.facts.proofs.Unmade.{handed}
use Rattle.path_walk.proofs.Unrooted.{unrooted_among, unrooted_second}
use Rattle.path_walk.proofs.products.push_equal.Goals as goal

pub returns-in_err-over : goal.returns-in_err-over
returns-in_err-over c =
    let e = c.in_err-over.field-0.0 in
    handed c.from_residual.result e _ _ c.from_residual.ensures (unrooted_among e (forms c.args.into.now.items) _ (minus (form c.args.form.now) (form c.args.other.now)) c.in_err-over.ensures)

pub returns-in_err-under : goal.returns-in_err-under
returns-in_err-under c =
    let e = c.in_err-under.field-0.0 in
    handed c.from_residual-in_err-under.result e _ _ c.from_residual-in_err-under.ensures (unrooted_second e (forms c.args.into.now.items) (form c.args.form.now) (form c.args.other.now) c.in_err-under.ensures)
