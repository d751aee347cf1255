use Rattle.std.proofs.Common.{◌+◌}
use Rattle.walk_trees.specs.Shown.{IsShownWithProducts}
use Rattle.two_thread.specs.Refusals.{DoNotFit}
use Rattle.entry_check.specs.Hand.{fits_at, obligation_at}
use Rattle.entry_check.specs.Lacking.{IsStopped, Passes, TellsBy}
use Rattle.entry_check.specs.Supplied.{ahead}
use Rattle.entry_check.specs.Tallies.{GoesOn, Stops}
use Rattle.entry_check.specs.View.{said}
use Rattle.entry_check.proofs.Stepping.{goes_on, joined, stops_at}
use Rattle.entry_check.proofs.Unshown.{mapped}
use Rattle.entry_check.proofs.tally.show_next.Goals as goal

pub returns-clause-on : goal.returns-clause-on
returns-clause-on g c =
    let s = said c.args.asked.now.said.now in
    let o = obligation_at g.D.Domain c.args.asked.now.premises c.args.met.now c.args.owed in
    let b = fits_at c.args.met.now c.args.owed in
    let n = c.args.count in
    let x = c.args.supply.now in
    let y = c.pass.new.self in
    joined c.show_one.result (IsShownWithProducts o) (Passes s (ahead y) b (n + 1) o) (GoesOn s o b n x y)
    (λ shown passes. λ es os fs on next. goes_on s es os fs n o b next.0 next.1 next.2 next.3 x y on c.in_ok-pass.ensures.ready shown passes c.in_ok-pass.ensures.later c.in_ok-pass.ensures.past)
    c.show_one.ensures.shown c.show_one.ensures.passes

pub returns-clause-stops : goal.returns-clause-stops
returns-clause-stops g c =
    let s = said c.args.asked.now.said.now in
    let o = obligation_at g.D.Domain c.args.asked.now.premises c.args.met.now c.args.owed in
    let b = fits_at c.args.met.now c.args.owed in
    let n = c.args.count in
    let x = c.args.supply.now in
    let y = c.pass.new.self in
    mapped c.show_one.result (TellsBy (IsStopped s (ahead y) b (n + 1) o) (λ _. ⊥) (DoNotFit b)) (Stops s o b n x)
    (λ e t. λ es fit os fs yes on next. stops_at s es os fs n o b next.0 next.1 next.2 next.3 fit x y yes on c.in_ok-pass.ensures.later e t)
    c.show_one.ensures.lacks
