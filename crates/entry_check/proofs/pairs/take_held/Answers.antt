use Rattle.std.proofs.Common.{rules, ◌≡◌, ◌<◌, ◌≤◌, ◌++◌, [], ◌+◌, drop, length, refl, ap, sym, subst, ◌∙◌}
use Rattle.facts.proofs.Unmade.{passed}
use Rattle.entry_check.specs.Rows.{FailsPairs, TakesPairs, all_pairs, all_rows, left_rows, nth_row, pair_fits, pair_owed, pairs_from}
use Rattle.entry_check.specs.View.{said}
use Rattle.entry_check.proofs.Holding.{past_all}
use Rattle.entry_check.proofs.Pairing.{pairs_next}
use Rattle.entry_check.proofs.Taking.{fails_step, takes_same, takes_step}
use Rattle.entry_check.proofs.pairs.take_held.Goals as goal

pub take_row-requires-clause-first : goal.take_row-requires-clause-first
take_row-requires-clause-first g c =
    let within : c.loop-i.i < length (all_rows c.args.kind c.args.met.now.paths.items) = search rules in
    subst (λ ts. c.loop-i.i < length (all_rows c.args.kind ts)) (sym c.loop-i.invariant.held) within

pub loop-i-preserved : goal.loop-i-preserved
loop-i-preserved g c =
    let t = c.args.terrain.now in
    let a = c.args.asked.now in
    let k = c.args.kind in
    let i = c.loop-i.i in
    let ts = c.args.met.now.paths.items in
    let left = left_rows g.D.Domain t k c.args.behind.now in
    let all = all_pairs a t k (all_rows k ts ++ left) in
    let xs = all_pairs a t k (drop i (all_rows k ts) ++ left) in
    let us = pairs_from a t k (nth_row k ts i) (drop i (all_rows k ts) ++ left) in
    let ys = all_pairs a t k (drop (i + 1) (all_rows k ts) ++ left) in
    let within : i < length (all_rows k ts) = search rules in
    let e : xs ≡ us ++ ys = pairs_next a t k ts left i within in
    let s = said a.said.now in
    let f = pair_owed g.D.Domain a k in
    let p = pair_fits a k in
    let before = c.args.tally.now in
    let now = c.loop-i.tally in
    let taken = subst (λ ts. TakesPairs g.D.Domain a k (pairs_from a t k (nth_row k ts i) (drop i (all_rows k ts) ++ left)) [] now c.take_row.new.tally) c.loop-i.invariant.held c.in_ok-take_row.ensures.takes in
    record {
      held = c.in_ok-take_row.ensures.held ∙ c.loop-i.invariant.held;
      sound = c.in_ok-take_row.ensures.sound;
      takes = takes_step s f p all xs us ys before now c.take_row.new.tally c.loop-i.invariant.takes e taken;
    }

pub returns-in_err-take_row-clause-fails : goal.returns-in_err-take_row-clause-fails
returns-in_err-take_row-clause-fails g c =
    let t = c.args.terrain.now in
    let a = c.args.asked.now in
    let k = c.args.kind in
    let i = c.loop-i.i in
    let ts = c.args.met.now.paths.items in
    let left = left_rows g.D.Domain t k c.args.behind.now in
    let all = all_pairs a t k (all_rows k ts ++ left) in
    let xs = all_pairs a t k (drop i (all_rows k ts) ++ left) in
    let us = pairs_from a t k (nth_row k ts i) (drop i (all_rows k ts) ++ left) in
    let ys = all_pairs a t k (drop (i + 1) (all_rows k ts) ++ left) in
    let within : i < length (all_rows k ts) = search rules in
    let e : xs ≡ us ++ ys = pairs_next a t k ts left i within in
    let s = said a.said.now in
    let f = pair_owed g.D.Domain a k in
    let p = pair_fits a k in
    let before = c.args.tally.now in
    let now = c.loop-i.tally in
    let z = c.in_err-take_row.field-0.0 in
    let failed = subst (λ ts. FailsPairs g.D.Domain a t k (pairs_from a t k (nth_row k ts i) (drop i (all_rows k ts) ++ left)) now z) c.loop-i.invariant.held c.in_err-take_row.ensures.fails in
    passed c.from_residual.result z (FailsPairs g.D.Domain a t k all before) c.from_residual.ensures.1 (fails_step s f p g.D.Domain t all xs us ys before now z c.loop-i.invariant.takes e failed)

pub returns-clause-takes : goal.returns-clause-takes
returns-clause-takes g c =
    let t = c.args.terrain.now in
    let a = c.args.asked.now in
    let k = c.args.kind in
    let i = c.loop-i.i in
    let rows = all_rows k c.args.met.now.paths.items in
    let left = left_rows g.D.Domain t k c.args.behind.now in
    let over : length rows ≤ i = search rules in
    let all = all_pairs a t k (rows ++ left) in
    takes_same (said a.said.now) (pair_owed g.D.Domain a k) (pair_fits a k) all all (all_pairs a t k (drop i rows ++ left)) (all_pairs a t k left) c.args.tally.now c.loop-i.tally refl (ap (all_pairs a t k) (past_all rows left i over)) c.loop-i.invariant.takes
