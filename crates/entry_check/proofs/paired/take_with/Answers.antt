use Rattle.std.proofs.Common.{◌<◌, [], drop, length, subst, sym}
use Rattle.std.specs.Prelude.{IfOk, IfErr}
use Rattle.entry_check.specs.Rows.{CutsPairs, TakesPairs, held_row, held_rows, pairs_with}
use Rattle.entry_check.proofs.paired.take_with.Goals as goal

pub take_meetings_with-requires-clause-first : goal.take_meetings_with-requires-clause-first
take_meetings_with-requires-clause-first g c = subst (λ k. c.args.i < length (held_rows k c.args.met.now)) c.in-Ends.is c.requires.first

pub take_crossings_with-requires-clause-first : goal.take_crossings_with-requires-clause-first
take_crossings_with-requires-clause-first g c = subst (λ k. c.args.i < length (held_rows k c.args.met.now)) c.in-Accesses.is c.requires.first

pub returns-in-Ends-clause-takes : goal.returns-in-Ends-clause-takes
returns-in-Ends-clause-takes g c =
    let t = c.args.terrain.now in
    let a = c.args.asked.now in
    let m = c.args.met.now in
    subst (λ k. IfOk c.take_meetings_with.result (λ _. TakesPairs g.D.Domain a k (pairs_with a t k (held_row k m c.args.i) (drop c.args.from (held_rows k m))) [] c.args.tally.now c.take_meetings_with.new.tally)) (sym c.in-Ends.is) c.take_meetings_with.ensures.takes

pub returns-in-Ends-clause-cuts : goal.returns-in-Ends-clause-cuts
returns-in-Ends-clause-cuts g c =
    let t = c.args.terrain.now in
    let a = c.args.asked.now in
    let m = c.args.met.now in
    subst (λ k. IfErr c.take_meetings_with.result (CutsPairs g.D.Domain a k (pairs_with a t k (held_row k m c.args.i) (drop c.args.from (held_rows k m))) c.args.tally.now)) (sym c.in-Ends.is) c.take_meetings_with.ensures.cuts

pub returns-in-Accesses-clause-takes : goal.returns-in-Accesses-clause-takes
returns-in-Accesses-clause-takes g c =
    let t = c.args.terrain.now in
    let a = c.args.asked.now in
    let m = c.args.met.now in
    subst (λ k. IfOk c.take_crossings_with.result (λ _. TakesPairs g.D.Domain a k (pairs_with a t k (held_row k m c.args.i) (drop c.args.from (held_rows k m))) [] c.args.tally.now c.take_crossings_with.new.tally)) (sym c.in-Accesses.is) c.take_crossings_with.ensures.takes

pub returns-in-Accesses-clause-cuts : goal.returns-in-Accesses-clause-cuts
returns-in-Accesses-clause-cuts g c =
    let t = c.args.terrain.now in
    let a = c.args.asked.now in
    let m = c.args.met.now in
    subst (λ k. IfErr c.take_crossings_with.result (CutsPairs g.D.Domain a k (pairs_with a t k (held_row k m c.args.i) (drop c.args.from (held_rows k m))) c.args.tally.now)) (sym c.in-Accesses.is) c.take_crossings_with.ensures.cuts
