use Rattle.std.proofs.Common.{rules, arith, ◌≡◌, ◌++◌, [], ap, sym, subst}
use Rattle.std.specs.Prelude.{None}
use Rattle.facts.proofs.Unmade.{passed}
use Rattle.walk.proofs.AtHand.{gave, gave_none}
use Rattle.entry_check.specs.Rows.{FailsPairs, TakesPairs, all_pairs, held_rows, left_rows, pair_fits, pair_owed}
use Rattle.entry_check.specs.View.{said}
use Rattle.entry_check.proofs.Pairing.{holds_rows, no_pairs, over_rows}
use Rattle.entry_check.proofs.Taking.{fails_then, takes_end, takes_then}
use Rattle.entry_check.proofs.pairs.take_left.Goals as goal

pub hold_from-requires-clause-accesses : goal.hold_from-requires-clause-accesses
hold_from-requires-clause-accesses g c = (gave g.D.Domain c.args.terrain.now c.loop-path.next c.next.new.self c.in_ok-path.field-0 c.in-Some.path c.in-Some.is (c.in_ok-path.ensures.next c.loop-path.invariant.starts)).0.own_accesses

pub hold_from-requires-clause-ends : goal.hold_from-requires-clause-ends
hold_from-requires-clause-ends g c = (gave g.D.Domain c.args.terrain.now c.loop-path.next c.next.new.self c.in_ok-path.field-0 c.in-Some.path c.in-Some.is (c.in_ok-path.ensures.next c.loop-path.invariant.starts)).0.own_ends

pub hold_from-requires-clause-starts : goal.hold_from-requires-clause-starts
hold_from-requires-clause-starts g c = (gave g.D.Domain c.args.terrain.now c.loop-path.next c.next.new.self c.in_ok-path.field-0 c.in-Some.path c.in-Some.is (c.in_ok-path.ensures.next c.loop-path.invariant.starts)).1

pub loop-path-smaller : goal.loop-path-smaller
loop-path-smaller g c = let v = gave g.D.Domain c.args.terrain.now c.loop-path.next c.next.new.self c.in_ok-path.field-0 c.in-Some.path c.in-Some.is (c.in_ok-path.ensures.next c.loop-path.invariant.starts) in omega (arith, v.0.count, c.in_ok-met.ensures.holds.count)

pub loop-path-preserved : goal.loop-path-preserved
loop-path-preserved g c =
    let t = c.args.terrain.now in
    let a = c.args.asked.now in
    let k = c.args.kind in
    let v = gave g.D.Domain c.args.terrain.now c.loop-path.next c.next.new.self c.in_ok-path.field-0 c.in-Some.path c.in-Some.is (c.in_ok-path.ensures.next c.loop-path.invariant.starts) in
    let all = all_pairs a t k (left_rows g.D.Domain t k c.args.next.now) in
    let xs = all_pairs a t k (left_rows g.D.Domain t k c.loop-path.next) in
    let ys = all_pairs a t k (left_rows g.D.Domain t k c.hold_from.new.next) in
    let ws = all_pairs a t k (held_rows k c.in_ok-met.met ++ left_rows g.D.Domain t k c.hold_from.new.next) in
    let e : xs ≡ ws = ap (all_pairs a t k) (holds_rows g.D.Domain t k c.loop-path.next c.next.new.self c.hold_from.new.next c.in-Some.path c.in_ok-met.met.paths.items v.0 c.in_ok-met.ensures.holds) in
    let s = said a.said.now in
    let f = pair_owed g.D.Domain a k in
    let p = pair_fits a k in
    let before = c.args.tally.now in
    let now = c.loop-path.tally in
    record {
      stands = c.in_ok-met.ensures.stands;
      starts = c.in_ok-met.ensures.starts;
      sound = c.in_ok-take_held.ensures.sound;
      takes = takes_then s f p all xs ys before now c.take_held.new.tally c.loop-path.invariant.takes (subst (λ l. TakesPairs g.D.Domain a k l ys now c.take_held.new.tally) (sym e) c.in_ok-take_held.ensures.takes);
    }

pub returns-in_err-take_held-clause-fails : goal.returns-in_err-take_held-clause-fails
returns-in_err-take_held-clause-fails g c =
    let t = c.args.terrain.now in
    let a = c.args.asked.now in
    let k = c.args.kind in
    let v = gave g.D.Domain c.args.terrain.now c.loop-path.next c.next.new.self c.in_ok-path.field-0 c.in-Some.path c.in-Some.is (c.in_ok-path.ensures.next c.loop-path.invariant.starts) in
    let all = all_pairs a t k (left_rows g.D.Domain t k c.args.next.now) in
    let xs = all_pairs a t k (left_rows g.D.Domain t k c.loop-path.next) in
    let ys = all_pairs a t k (left_rows g.D.Domain t k c.hold_from.new.next) in
    let ws = all_pairs a t k (held_rows k c.in_ok-met.met ++ left_rows g.D.Domain t k c.hold_from.new.next) in
    let e : xs ≡ ws = ap (all_pairs a t k) (holds_rows g.D.Domain t k c.loop-path.next c.next.new.self c.hold_from.new.next c.in-Some.path c.in_ok-met.met.paths.items v.0 c.in_ok-met.ensures.holds) in
    let s = said a.said.now in
    let f = pair_owed g.D.Domain a k in
    let p = pair_fits a k in
    let before = c.args.tally.now in
    let now = c.loop-path.tally in
    let z = c.in_err-take_held.field-0.0 in
    passed c.from_residual-in_err-take_held.result z (FailsPairs g.D.Domain a t k all before) c.from_residual-in_err-take_held.ensures.1
    (fails_then s f p g.D.Domain t all xs before now z c.loop-path.invariant.takes (subst (λ l. FailsPairs g.D.Domain a t k l now z) (sym e) c.in_err-take_held.ensures.fails))

pub returns-clause-takes : goal.returns-clause-takes
returns-clause-takes g c =
    let t = c.args.terrain.now in
    let a = c.args.asked.now in
    let k = c.args.kind in
    let none : c.in_ok-path.field-0 ≡ None = search rules in
    let left = left_rows g.D.Domain t k c.loop-path.next in
    let over : left ≡ [] = over_rows g.D.Domain t k c.loop-path.next (gave_none g.D.Domain t c.loop-path.next c.next.new.self c.in_ok-path.field-0 none (c.in_ok-path.ensures.next c.loop-path.invariant.starts)).0 in
    takes_end (said a.said.now) (pair_owed g.D.Domain a k) (pair_fits a k) (all_pairs a t k (left_rows g.D.Domain t k c.args.next.now)) (all_pairs a t k left) c.args.tally.now c.loop-path.tally (no_pairs a t k left over) c.loop-path.invariant.takes
