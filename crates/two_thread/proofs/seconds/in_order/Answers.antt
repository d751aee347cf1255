use Rattle.std.proofs.Common.{◌≡◌, ◌-◌, refl, ap, sym, ◌∙◌, arith, length, slice_index_or}
use Rattle.std.specs.Prelude.{pos}
use Rattle.linear.specs.Exact.{is_rising}
use Rattle.linear.specs.Terms.{terms, numbers}
use Rattle.linear.specs.declared.term.Symbol.{Symbol}
use Rattle.linear.specs.declared.term.Term.{Term}
use Rattle.two_thread.specs.Seconds.{seconds}
use Rattle.walk_trees.specs.Seconds.{are_own_terms}
use Rattle.two_thread.proofs.Copies.{length-numbers, length-seconds, length-terms}
use Rattle.two_thread.proofs.Ordering.{some_at, apart_at, symbol_at, more_in_order}
use Rattle.two_thread.proofs.seconds.in_order.Goals as goal

abbrev no_symbol : Symbol
no_symbol = record { number = 0 }

abbrev no_term : Term
no_term = record { symbol = record { number = 0 }; coefficient = pos 0 }

pub bounds-symbols-left : goal.bounds-symbols-left
bounds-symbols-left c =
    let ts = c.terms-terms.result.now in
    let e : numbers c.args.symbols.now ≡ seconds (terms ts) = c.requires.seconds ∙ ap seconds (sym c.terms-terms.ensures) in
    omega (arith, sym (length-numbers c.args.symbols.now) ∙ ap length e ∙ length-seconds (terms ts) ∙ length-terms ts, c.loop-left.invariant.within)

pub with_single-requires-clause-some : goal.with_single-requires-clause-some
with_single-requires-clause-some c =
    let ts = c.terms-terms.result.now in
    some_at ts (c.loop-left.left - 1) no_term (omega arith) (ap (is_rising 0) c.terms-terms.ensures ∙ c.args.form.now.rising) (ap are_own_terms c.terms-terms.ensures ∙ c.requires.own)

pub with_single-requires-clause-apart : goal.with_single-requires-clause-apart
with_single-requires-clause-apart c =
    let ts = c.terms-terms.result.now in
    let i = c.loop-left.left - 1 in
    let e : numbers c.args.symbols.now ≡ seconds (terms ts) = c.requires.seconds ∙ ap seconds (sym c.terms-terms.ensures) in
    apart_at ts c.loop-left.left i no_term (slice_index_or c.args.symbols.now i no_symbol).number _ (omega arith) (omega arith) (ap (is_rising 0) c.terms-terms.ensures ∙ c.args.form.now.rising) (ap are_own_terms c.terms-terms.ensures ∙ c.requires.own)
    (symbol_at c.args.symbols.now ts i no_symbol no_term (omega arith) e) (λ j. (c.loop-left.invariant.is j).terms)

pub loop-left-preserved : goal.loop-left-preserved
loop-left-preserved c =
    let ts = c.terms-terms.result.now in
    let i = c.loop-left.left - 1 in
    let e : numbers c.args.symbols.now ≡ seconds (terms ts) = c.requires.seconds ∙ ap seconds (sym c.terms-terms.ensures) in
    record {
      within = omega arith;
      is = c.in_ok-copy.ensures ∙ more_in_order ts c.loop-left.left i no_term (slice_index_or c.args.symbols.now i no_symbol).number (slice_index_or ts i no_term).coefficient _ c.args.form.now.constant (omega arith) (omega arith)
          (symbol_at c.args.symbols.now ts i no_symbol no_term (omega arith) e) refl c.loop-left.invariant.is;
    }
