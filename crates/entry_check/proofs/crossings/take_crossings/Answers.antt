use Rattle.std.proofs.Common.{◌+◌, drop, get_or, arith}
use Rattle.std.proofs.lemmas.List.{drop_all}
use Rattle.facts.proofs.Unmade.{passed}
use Rattle.std.specs.Prelude.{false}
use Rattle.two_thread.specs.declared.crossings.Scope.TheVariants.{Within}
use Rattle.two_thread.specs.declared.crossings.Order.TheVariants.{Below}
use Rattle.two_thread.specs.declared.crossings.Crossing.{Crossing}
use Rattle.entry_check.specs.Pairs.{crossing_at, crossing_fits_at}
use Rattle.entry_check.specs.Tallies.{Cuts}
use Rattle.entry_check.specs.View.{said}
use Rattle.entry_check.proofs.Taking.{cuts_next, next_at, takes_end, takes_next}
use Rattle.entry_check.proofs.crossings.take_crossings.Goals as goal

pub loop-k-preserved : goal.loop-k-preserved
loop-k-preserved g c =
    let p = c.args.asked.now.premises in
    let all = c.args.crossings.now in
    let k = c.loop-k.k in
    let d : Crossing = record { first = 0; second = 0; scope = Within; dimension = 0; order = Below; alike = false } in
    record {
      sound = c.in_ok-take.ensures.sound;
      takes = takes_next (said c.args.asked.now.said.now) (crossing_at g.D.Domain p c.args.met.now) (crossing_fits_at c.args.met.now) all (drop k all) (drop (k + 1) all) (get_or all k d) c.args.tally.now c.loop-k.tally c.take.new.self c.loop-k.invariant.takes (next_at all k d c.loop-k-test.true) c.in_ok-take.ensures.takes;
    }

pub returns-clause-takes : goal.returns-clause-takes
returns-clause-takes g c =
    let all = c.args.crossings.now in
    let k = c.loop-k.k in
    takes_end (said c.args.asked.now.said.now) (crossing_at g.D.Domain c.args.asked.now.premises c.args.met.now) (crossing_fits_at c.args.met.now) all (drop k all) c.args.tally.now c.loop-k.tally (drop_all k all (omega (arith, c.loop-k-test.false))) c.loop-k.invariant.takes

pub returns-in_err-take-clause-cuts : goal.returns-in_err-take-clause-cuts
returns-in_err-take-clause-cuts g c =
    let p = c.args.asked.now.premises in
    let s = said c.args.asked.now.said.now in
    let all = c.args.crossings.now in
    let k = c.loop-k.k in
    let e = c.in_err-take.field-0.0 in
    let d : Crossing = record { first = 0; second = 0; scope = Within; dimension = 0; order = Below; alike = false } in
    passed c.from_residual.result e (Cuts s (crossing_at g.D.Domain p c.args.met.now) (crossing_fits_at c.args.met.now) all c.args.tally.now) c.from_residual.ensures.1
    (cuts_next s (crossing_at g.D.Domain p c.args.met.now) (crossing_fits_at c.args.met.now) all (drop k all) (drop (k + 1) all) (get_or all k d) c.args.tally.now c.loop-k.tally e c.loop-k.invariant.takes (next_at all k d c.loop-k-test.true) c.in_err-take.ensures.cuts)
