use Rattle.std.proofs.Common.{rules, ◌≡◌, ◌++◌, [], drop, subst, inr}
use Rattle.std.specs.Prelude.{true, false}
use Rattle.facts.proofs.Unmade.{passed}
use Rattle.entry_check.specs.Rows.{FailsPairs, TakesPairs, held_has_pairs, held_row, held_rows, left_rows, pair_fits, pair_owed, pairs_from, pairs_with}
use Rattle.entry_check.specs.View.{said}
use Rattle.entry_check.proofs.Pairing.{copied_rows, from_none, from_two}
use Rattle.entry_check.proofs.Taking.{cuts_step, fails_then, takes_end, takes_none, takes_step, takes_then}
use Rattle.entry_check.proofs.Unshown.{mapped, ok_mapped}
use Rattle.entry_check.proofs.pairs.take_row.Goals as goal

pub returns-then-not-has_pairs_at-clause-takes : goal.returns-then-not-has_pairs_at-clause-takes
returns-then-not-has_pairs_at-clause-takes g c =
    let t = c.args.terrain.now in
    let a = c.args.asked.now in
    let k = c.args.kind in
    let u = held_row k c.args.met.now c.args.i in
    let xs = drop c.args.i (held_rows k c.args.met.now) in
    let left = left_rows g.D.Domain t k c.args.behind.now in
    let whole = pairs_from a t k u (xs ++ left) in
    let none : held_has_pairs k c.args.met.now c.args.i ≡ false = search rules in
    takes_end (said a.said.now) (pair_owed g.D.Domain a k) (pair_fits a k) whole whole c.args.tally.now c.args.tally.now (from_none a t k u (xs ++ left) none) (takes_none (said a.said.now) (pair_owed g.D.Domain a k) (pair_fits a k) whole c.args.tally.now)

pub returns-in_err-take_with-clause-fails : goal.returns-in_err-take_with-clause-fails
returns-in_err-take_with-clause-fails g c =
    let t = c.args.terrain.now in
    let a = c.args.asked.now in
    let k = c.args.kind in
    let u = held_row k c.args.met.now c.args.i in
    let xs = drop c.args.i (held_rows k c.args.met.now) in
    let left = left_rows g.D.Domain t k c.args.behind.now in
    let whole = pairs_from a t k u (xs ++ left) in
    let us = pairs_with a t k u xs in
    let ys = pairs_with a t k u left in
    let has : held_has_pairs k c.args.met.now c.args.i ≡ true = search rules in
    let e : whole ≡ us ++ ys = from_two a t k u xs left has in
    let s = said a.said.now in
    let f = pair_owed g.D.Domain a k in
    let p = pair_fits a k in
    let before = c.args.tally.now in
    let z = c.in_err-take_with.field-0.0 in
    passed c.from_residual-in_err-take_with.result z (FailsPairs g.D.Domain a t k whole before) c.from_residual-in_err-take_with.ensures.1
    (inr (cuts_step s f p whole whole us ys before before z (takes_none s f p whole before) e c.in_err-take_with.ensures.cuts))

pub returns-clause-takes : goal.returns-clause-takes
returns-clause-takes g c =
    let t = c.args.terrain.now in
    let a = c.args.asked.now in
    let k = c.args.kind in
    let u = held_row k c.args.met.now c.args.i in
    let xs = drop c.args.i (held_rows k c.args.met.now) in
    let left = left_rows g.D.Domain t k c.args.behind.now in
    let whole = pairs_from a t k u (xs ++ left) in
    let us = pairs_with a t k u xs in
    let ys = pairs_with a t k u left in
    let has : held_has_pairs k c.args.met.now c.args.i ≡ true = search rules in
    let e : whole ≡ us ++ ys = from_two a t k u xs left has in
    let s = said a.said.now in
    let f = pair_owed g.D.Domain a k in
    let p = pair_fits a k in
    let before = c.args.tally.now in
    let first = takes_step s f p whole whole us ys before before c.take_with.new.tally (takes_none s f p whole before) e c.in_ok-take_with.ensures.takes in
    let same = copied_rows g.D.Domain t k c.args.behind.now c.in_ok-next.next c.in_ok-next.ensures.accesses c.in_ok-next.ensures.ends in
    let last = c.take_behind.new.tally in
    ok_mapped c.take_behind.result _ _ (λ _ h. takes_then s f p whole ys [] before c.take_with.new.tally last first (subst (λ l. TakesPairs g.D.Domain a k (pairs_with a t k u l) [] c.take_with.new.tally last) same h)) c.take_behind.ensures.takes

pub returns-clause-fails : goal.returns-clause-fails
returns-clause-fails g c =
    let t = c.args.terrain.now in
    let a = c.args.asked.now in
    let k = c.args.kind in
    let u = held_row k c.args.met.now c.args.i in
    let xs = drop c.args.i (held_rows k c.args.met.now) in
    let left = left_rows g.D.Domain t k c.args.behind.now in
    let whole = pairs_from a t k u (xs ++ left) in
    let us = pairs_with a t k u xs in
    let ys = pairs_with a t k u left in
    let has : held_has_pairs k c.args.met.now c.args.i ≡ true = search rules in
    let e : whole ≡ us ++ ys = from_two a t k u xs left has in
    let s = said a.said.now in
    let f = pair_owed g.D.Domain a k in
    let p = pair_fits a k in
    let before = c.args.tally.now in
    let first = takes_step s f p whole whole us ys before before c.take_with.new.tally (takes_none s f p whole before) e c.in_ok-take_with.ensures.takes in
    let same = copied_rows g.D.Domain t k c.args.behind.now c.in_ok-next.next c.in_ok-next.ensures.accesses c.in_ok-next.ensures.ends in
    mapped c.take_behind.result _ _ (λ z h. fails_then s f p g.D.Domain t whole ys before c.take_with.new.tally z first (subst (λ l. FailsPairs g.D.Domain a t k (pairs_with a t k u l) c.take_with.new.tally z) same h)) c.take_behind.ensures.fails
