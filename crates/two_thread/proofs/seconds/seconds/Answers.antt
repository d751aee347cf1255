use Rattle.std.proofs.Common.{slice_index_or}
use Rattle.std.specs.Prelude.{pos}
use Rattle.linear.specs.declared.term.Term.{Term}
use Rattle.two_thread.proofs.Copies.{any-default, own-front, seconds_step}
use Rattle.two_thread.proofs.seconds.seconds.Goals as goal

abbrev no_term : Term
no_term = record { symbol = record { number = 0 }; coefficient = pos 0 }

pub second-symbol-requires : goal.second-symbol-requires
second-symbol-requires c =
    let ts = c.terms-term-items.result.now in
    let t = slice_index_or ts c.loop-term.term-index no_term in
    (own-front ts c.loop-term.term-index t c.loop-term-test.true (any-default ts c.loop-term.term-index no_term t c.loop-term-test.true) c.loop-term.invariant.own).0

pub loop-term-preserved : goal.loop-term-preserved
loop-term-preserved c =
    let ts = c.terms-term-items.result.now in
    let i = c.loop-term.term-index in
    let t = slice_index_or ts i no_term in
    let e = any-default ts i no_term t c.loop-term-test.true in
    record {
      is = c.loop-term.invariant.is;
      own = (own-front ts i t c.loop-term-test.true e c.loop-term.invariant.own).1;
      same = seconds_step ts i t c.loop-term.symbols.items c.push.new.self.items c.second-symbol.result _ c.loop-term-test.true e c.second-symbol.ensures c.in_ok-push.ensures.items c.loop-term.invariant.same;
    }
