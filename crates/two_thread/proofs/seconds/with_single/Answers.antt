use Rattle.std.proofs.Common.{◌≡◌, rules, SFits, w64, ap, ◌∙◌}
use Rattle.std.proofs.lemmas.Int.{to_z-of_z}
use Rattle.std.proofs.lemmas.Bool.{and_from}
use Rattle.linear.specs.Exact.{sum, fits, fits_i64, fits_terms}
use Rattle.linear.specs.Forms.{form}
use Rattle.linear.specs.Terms.{terms}
use Rattle.linear.proofs.Lists.{fits_signed}
use Rattle.two_thread.specs.Seconds.{one_term}
use Rattle.two_thread.proofs.Ordering.{fits_with, is_memory}
use Rattle.two_thread.proofs.seconds.with_single.Goals as goal

pub returns-in_err-form : goal.returns-in_err-form
returns-in_err-form c =
    let f : SFits w64 c.args.term.coefficient = search rules in
    let copy = c.args.copy.now in
    let one : form c.in_ok-one.one ≡ one_term c.args.symbol.number c.args.term.coefficient = simp to_z-of_z at c.in_ok-one.ensures in
    is_memory c.from_residual-in_err-form.result c.in_err-form.field-0.0 _ (fits (sum (form c.in_ok-one.one) (form copy))) c.from_residual-in_err-form.ensures c.in_err-form.ensures.too_large
    (ap (λ x. fits (sum x (form copy))) one ∙ fits_with c.args.term.coefficient c.args.symbol.number (form copy) c.requires.apart (fits_signed c.args.term.coefficient f)
    (and_from (fits_i64 copy.constant) (fits_terms (terms copy.terms.terms.items)) copy.constant_in_range copy.in_range))
