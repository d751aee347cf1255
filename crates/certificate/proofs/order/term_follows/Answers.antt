use Rattle.std.proofs.Common.{◌≡◌, ◌+◌, ◌-◌, length, sym, subst, arith}
use Rattle.std.specs.Prelude.{IfOk}
use Rattle.certificate_text.specs.Forms.{term_is_before}
use Rattle.certificate.specs.View as view
use Rattle.certificate.proofs.Last.{last_follows}
use Rattle.certificate.proofs.order.term_follows.Goals as goal

pub returns-in-Some : goal.returns-in-Some
returns-in-Some c =
    let some = c.in-Some.ensures.item in
    let count : (length c.args.terms.now - 1) + 1 ≡ length c.args.terms.now = omega (arith, some.3.0) in
    subst (λ q. IfOk c.term_is_before.result (λ b. b ≡ q)) (sym (last_follows term_is_before view.term c.args.terms.now (length c.args.terms.now - 1) c.in-Some.last.now (view.term c.args.term.now) count some.1)) c.term_is_before.ensures
