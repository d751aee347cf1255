use Rattle.std.proofs.Common.{◌≡◌, ap, sym, ◌∙◌, length}
use Rattle.linear.specs.Terms.{terms, numbers}
use Rattle.two_thread.specs.Seconds.{seconds}
use Rattle.two_thread.proofs.Copies.{length-numbers, length-seconds, length-terms}
use Rattle.two_thread.proofs.Ordering.{over_is, rising-seconds}
use Rattle.two_thread.proofs.seconds.second_form.Goals as goal

pub in_order-requires-clause-seconds : goal.in_order-requires-clause-seconds
in_order-requires-clause-seconds c = ap numbers c.as_slice-others.ensures.value ∙ c.in_ok-symbols.ensures

pub with_symbols-requires-clause-each : goal.with_symbols-requires-clause-each
with_symbols-requires-clause-each c =
    let ts = c.args.form.now.terms.terms.items in
    ap length c.as_slice-others.ensures.value ∙ sym (length-numbers c.in_ok-symbols.symbols.items) ∙ ap length c.in_ok-symbols.ensures ∙ length-seconds (terms ts) ∙ length-terms ts

pub with_symbols-requires-clause-rising : goal.with_symbols-requires-clause-rising
with_symbols-requires-clause-rising c =
    rising-seconds (numbers c.as_slice-others.result.now) (terms c.args.form.now.terms.terms.items) (ap numbers c.as_slice-others.ensures.value ∙ c.in_ok-symbols.ensures) (sym c.rise.ensures ∙ c.if-not-rise.false) c.args.form.now.rising

pub returns : goal.returns
returns c =
    let ts = terms c.args.form.now.terms.terms.items in
    let e : numbers c.as_slice-others.result.now ≡ seconds ts = ap numbers c.as_slice-others.ensures.value ∙ c.in_ok-symbols.ensures in
    c.in_ok-copy.ensures ∙ (λ j. record { terms = over_is (numbers c.as_slice-others.result.now) ts e (sym c.rise.ensures ∙ c.if-not-rise.false) j; constant = c.args.form.now.constant })
