use Rattle.std.proofs.Common.{rules, arith, ◌≡◌, ◌++◌, [], drop, ap, ◌∙◌, inr}
use Rattle.std.specs.Prelude.{None}
use Rattle.facts.proofs.Unmade.{passed}
use Rattle.walk.proofs.AtHand.{gave, gave_none}
use Rattle.entry_check.specs.Rows.{FailsPairs, held_row, held_rows, left_rows, pair_fits, pair_owed, pairs_with}
use Rattle.entry_check.specs.View.{said}
use Rattle.entry_check.proofs.Pairing.{gives_rows, over_rows, pairs_behind, still_row, with_none}
use Rattle.entry_check.proofs.Taking.{cuts_step, takes_end, takes_step}
use Rattle.entry_check.proofs.pairs.take_behind.Goals as goal

pub put_last-requires-clause-accesses : goal.put_last-requires-clause-accesses
put_last-requires-clause-accesses g c = (gave g.D.Domain c.args.terrain.now c.loop-path.next c.next.new.self c.in_ok-path.field-0 c.in-Some.path c.in-Some.is (c.in_ok-path.ensures.next c.loop-path.invariant.starts)).0.own_accesses

pub put_last-requires-clause-ends : goal.put_last-requires-clause-ends
put_last-requires-clause-ends g c = (gave g.D.Domain c.args.terrain.now c.loop-path.next c.next.new.self c.in_ok-path.field-0 c.in-Some.path c.in-Some.is (c.in_ok-path.ensures.next c.loop-path.invariant.starts)).0.own_ends

pub take_with-requires-clause-first : goal.take_with-requires-clause-first
take_with-requires-clause-first g c =
    still_row c.args.kind c.args.met.now.paths.items c.loop-path.met.paths.items c.put_last.new.met.paths.items c.in-Some.path c.args.i c.loop-path.invariant.held c.in_ok-put_last.ensures.paths c.requires.first

pub loop-path-smaller : goal.loop-path-smaller
loop-path-smaller g c = let v = gave g.D.Domain c.args.terrain.now c.loop-path.next c.next.new.self c.in_ok-path.field-0 c.in-Some.path c.in-Some.is (c.in_ok-path.ensures.next c.loop-path.invariant.starts) in omega (arith, v.0.count)

pub loop-path-preserved : goal.loop-path-preserved
loop-path-preserved g c =
    let t = c.args.terrain.now in
    let a = c.args.asked.now in
    let k = c.args.kind in
    let v = gave g.D.Domain c.args.terrain.now c.loop-path.next c.next.new.self c.in_ok-path.field-0 c.in-Some.path c.in-Some.is (c.in_ok-path.ensures.next c.loop-path.invariant.starts) in
    let u = held_row k c.args.met.now c.args.i in
    let all = pairs_with a t k u (left_rows g.D.Domain t k c.args.next.now) in
    let xs = pairs_with a t k u (left_rows g.D.Domain t k c.loop-path.next) in
    let us = pairs_with a t k (held_row k c.put_last.new.met c.args.i) (drop c.row_count-own.result (held_rows k c.put_last.new.met)) in
    let ys = pairs_with a t k u (left_rows g.D.Domain t k c.next.new.self) in
    let start = c.args.met.now.paths.items in
    let old = c.loop-path.met.paths.items in
    let put = c.in_ok-put_last.ensures.paths in
    let e : xs ≡ us ++ ys = pairs_behind a t k start old c.put_last.new.met.paths.items c.in-Some.path c.args.i c.loop-path.invariant.held put c.requires.first c.row_count-own.result (left_rows g.D.Domain t k c.loop-path.next) (left_rows g.D.Domain t k c.next.new.self) c.row_count-own.ensures (gives_rows g.D.Domain t k c.loop-path.next c.next.new.self c.in-Some.path v.0) in
    record {
      stands = c.in_ok-path.ensures.stands;
      starts = v.1;
      held = c.in_ok-drop_last.ensures.paths old c.in-Some.path put ∙ c.loop-path.invariant.held;
      sound = c.in_ok-take_with.ensures.sound;
      takes = takes_step (said a.said.now) (pair_owed g.D.Domain a k) (pair_fits a k) all xs us ys c.args.tally.now c.loop-path.tally c.take_with.new.tally c.loop-path.invariant.takes e c.in_ok-take_with.ensures.takes;
    }

pub returns-in_err-take_with-clause-fails : goal.returns-in_err-take_with-clause-fails
returns-in_err-take_with-clause-fails g c =
    let t = c.args.terrain.now in
    let a = c.args.asked.now in
    let k = c.args.kind in
    let v = gave g.D.Domain c.args.terrain.now c.loop-path.next c.next.new.self c.in_ok-path.field-0 c.in-Some.path c.in-Some.is (c.in_ok-path.ensures.next c.loop-path.invariant.starts) in
    let u = held_row k c.args.met.now c.args.i in
    let all = pairs_with a t k u (left_rows g.D.Domain t k c.args.next.now) in
    let xs = pairs_with a t k u (left_rows g.D.Domain t k c.loop-path.next) in
    let us = pairs_with a t k (held_row k c.put_last.new.met c.args.i) (drop c.row_count-own.result (held_rows k c.put_last.new.met)) in
    let ys = pairs_with a t k u (left_rows g.D.Domain t k c.next.new.self) in
    let start = c.args.met.now.paths.items in
    let old = c.loop-path.met.paths.items in
    let put = c.in_ok-put_last.ensures.paths in
    let e : xs ≡ us ++ ys = pairs_behind a t k start old c.put_last.new.met.paths.items c.in-Some.path c.args.i c.loop-path.invariant.held put c.requires.first c.row_count-own.result (left_rows g.D.Domain t k c.loop-path.next) (left_rows g.D.Domain t k c.next.new.self) c.row_count-own.ensures (gives_rows g.D.Domain t k c.loop-path.next c.next.new.self c.in-Some.path v.0) in
    let z = c.in_err-take_with.field-0.0 in
    passed c.from_residual-in_err-take_with.result z (FailsPairs g.D.Domain a t k all c.args.tally.now) c.from_residual-in_err-take_with.ensures.1
    (inr (cuts_step (said a.said.now) (pair_owed g.D.Domain a k) (pair_fits a k) all xs us ys c.args.tally.now c.loop-path.tally z c.loop-path.invariant.takes e c.in_err-take_with.ensures.cuts))

pub returns-clause-takes : goal.returns-clause-takes
returns-clause-takes g c =
    let t = c.args.terrain.now in
    let a = c.args.asked.now in
    let k = c.args.kind in
    let u = held_row k c.args.met.now c.args.i in
    let none : c.in_ok-path.field-0 ≡ None = search rules in
    let over : left_rows g.D.Domain t k c.loop-path.next ≡ [] = over_rows g.D.Domain t k c.loop-path.next (gave_none g.D.Domain t c.loop-path.next c.next.new.self c.in_ok-path.field-0 none (c.in_ok-path.ensures.next c.loop-path.invariant.starts)).0 in
    takes_end (said a.said.now) (pair_owed g.D.Domain a k) (pair_fits a k) (pairs_with a t k u (left_rows g.D.Domain t k c.args.next.now)) (pairs_with a t k u (left_rows g.D.Domain t k c.loop-path.next)) c.args.tally.now c.loop-path.tally (ap (pairs_with a t k u) over ∙ with_none a t k u) c.loop-path.invariant.takes
