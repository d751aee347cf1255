use Rattle.std.proofs.Common.{◌≡◌, ◌++◌, [], subst, sym, ◌∙◌}
use Rattle.std.specs.Prelude.{true}
use Rattle.facts.proofs.Unmade.{passed}
use Rattle.entry_check.specs.Rows.{FailsPairs, TakesPairs, all_alone, all_pairs, held_rows, left_rows, pair_fits, pair_owed}
use Rattle.entry_check.specs.View.{said}
use Rattle.entry_check.proofs.Pairing.{alone_none, copied_rows}
use Rattle.entry_check.proofs.Taking.{fails_then, takes_end, takes_none, takes_then}
use Rattle.entry_check.proofs.Unshown.{mapped, ok_mapped}
use Rattle.entry_check.proofs.pairs.take_pairs.Goals as goal

pub returns-then-branch-clause-takes : goal.returns-then-branch-clause-takes
returns-then-branch-clause-takes g c =
    let t = c.args.terrain.now in
    let a = c.args.asked.now in
    let k = c.args.kind in
    let us = held_rows k c.args.met.now ++ left_rows g.D.Domain t k c.args.behind.now in
    let all = all_pairs a t k us in
    let alone : all_alone t k us ≡ true = sym c.in_ok-are_all_alone.ensures.exact ∙ c.if-branch.true in
    takes_end (said a.said.now) (pair_owed g.D.Domain a k) (pair_fits a k) all all c.args.tally.now c.args.tally.now (alone_none a t k us alone) (takes_none (said a.said.now) (pair_owed g.D.Domain a k) (pair_fits a k) all c.args.tally.now)

pub returns-in_err-take_held-clause-fails : goal.returns-in_err-take_held-clause-fails
returns-in_err-take_held-clause-fails g c =
    let t = c.args.terrain.now in
    let a = c.args.asked.now in
    let k = c.args.kind in
    let all = all_pairs a t k (held_rows k c.args.met.now ++ left_rows g.D.Domain t k c.args.behind.now) in
    passed c.from_residual-in_err-take_held.result c.in_err-take_held.field-0.0 (FailsPairs g.D.Domain a t k all c.args.tally.now) c.from_residual-in_err-take_held.ensures.1 c.in_err-take_held.ensures.fails

pub returns-clause-takes : goal.returns-clause-takes
returns-clause-takes g c =
    let t = c.args.terrain.now in
    let a = c.args.asked.now in
    let k = c.args.kind in
    let all = all_pairs a t k (held_rows k c.args.met.now ++ left_rows g.D.Domain t k c.args.behind.now) in
    let ys = all_pairs a t k (left_rows g.D.Domain t k c.args.behind.now) in
    let s = said a.said.now in
    let f = pair_owed g.D.Domain a k in
    let p = pair_fits a k in
    let before = c.args.tally.now in
    let now = c.take_held.new.tally in
    let same = copied_rows g.D.Domain t k c.args.behind.now c.in_ok-next.next c.in_ok-next.ensures.accesses c.in_ok-next.ensures.ends in
    let last = c.take_left.new.tally in
    ok_mapped c.take_left.result _ _ (λ _ h. takes_then s f p all ys [] before now last c.in_ok-take_held.ensures.takes (subst (λ l. TakesPairs g.D.Domain a k (all_pairs a t k l) [] now last) same h)) c.take_left.ensures.takes

pub returns-clause-fails : goal.returns-clause-fails
returns-clause-fails g c =
    let t = c.args.terrain.now in
    let a = c.args.asked.now in
    let k = c.args.kind in
    let all = all_pairs a t k (held_rows k c.args.met.now ++ left_rows g.D.Domain t k c.args.behind.now) in
    let ys = all_pairs a t k (left_rows g.D.Domain t k c.args.behind.now) in
    let s = said a.said.now in
    let f = pair_owed g.D.Domain a k in
    let p = pair_fits a k in
    let before = c.args.tally.now in
    let now = c.take_held.new.tally in
    let same = copied_rows g.D.Domain t k c.args.behind.now c.in_ok-next.next c.in_ok-next.ensures.accesses c.in_ok-next.ensures.ends in
    mapped c.take_left.result _ _ (λ z h. fails_then s f p g.D.Domain t all ys before now z c.in_ok-take_held.ensures.takes (subst (λ l. FailsPairs g.D.Domain a t k (all_pairs a t k l) now z) same h)) c.take_left.ensures.fails
