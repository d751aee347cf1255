use Rattle.std.proofs.Common.{arith, ◌≡◌, ◌≤◌, ◌++◌, [], ◌+◌, drop, length, refl, ap, subst, ◌∙◌}
use Rattle.core_code.specs.View.{space}
use Rattle.facts.proofs.Unmade.{passed}
use Rattle.obligations.specs.Fitting.{crossing_fits}
use Rattle.two_thread.specs.Paths.{all_accesses}
use Rattle.two_thread.specs.View.{met_accesses}
use Rattle.walk.specs.Cursors.{conditions_of, kernel_of, left_accesses}
use Rattle.entry_check.specs.Hand.{crossing_owed}
use Rattle.entry_check.specs.Pairs.{crossings_of_array, crossings_of_arrays}
use Rattle.entry_check.specs.Tallies.{Fails}
use Rattle.entry_check.specs.View.{said}
use Rattle.std.proofs.lemmas.List.{drop_all}
use Rattle.two_thread.proofs.ArrayLists.{from_front}
use Rattle.entry_check.proofs.Taking.{fails_step, takes_end, takes_same, takes_step}
use Rattle.entry_check.proofs.accesses.take_arrays.Goals as goal

pub loop-number-preserved : goal.loop-number-preserved
loop-number-preserved g c =
    let t = c.args.terrain.now in
    let L = left_accesses g.D.Domain t c.args.behind.now in
    let us = met_accesses c.args.met.now ++ L in
    let sp = space c.args.space in
    let i = c.loop-number.number in
    let f = c.args.fenced in
    let all = crossings_of_arrays t f us sp 0 c.args.arrays.now in
    let xs = crossings_of_arrays t f us sp i (drop i c.args.arrays.now) in
    let ws = crossings_of_array t f us sp i in
    let ys = crossings_of_arrays t f us sp (i + 1) (drop (i + 1) c.args.arrays.now) in
    let a = c.args.tally.now in
    let b = c.loop-number.tally in
    let e : xs ≡ ws ++ ys = from_front (kernel_of t).sizes (conditions_of t) us (λ _. f) sp c.args.arrays.now i i c.loop-number-test.true in
    let same : (crossings_of_array t f ((met_accesses c.loop-number.met) ++ L) sp i) ≡ ws = ap (λ l. crossings_of_array t f (l ++ L) sp i) (ap all_accesses c.loop-number.invariant.held) in
    record {
      held = c.in_ok-take_array.ensures.held ∙ c.loop-number.invariant.held;
      sound = c.in_ok-take_array.ensures.sound;
      takes = takes_step (said c.args.asked.now.said.now) (crossing_owed g.D.Domain c.args.asked.now.premises) crossing_fits all xs ws ys a b c.take_array.new.tally c.loop-number.invariant.takes e (takes_same (said c.args.asked.now.said.now) (crossing_owed g.D.Domain c.args.asked.now.premises) crossing_fits ((crossings_of_array t f ((met_accesses c.loop-number.met) ++ L) sp i)) ws [] [] b c.take_array.new.tally same refl c.in_ok-take_array.ensures.takes);
    }

pub returns-in_err-take_array-clause-fails : goal.returns-in_err-take_array-clause-fails
returns-in_err-take_array-clause-fails g c =
    let t = c.args.terrain.now in
    let L = left_accesses g.D.Domain t c.args.behind.now in
    let us = met_accesses c.args.met.now ++ L in
    let sp = space c.args.space in
    let i = c.loop-number.number in
    let f = c.args.fenced in
    let all = crossings_of_arrays t f us sp 0 c.args.arrays.now in
    let xs = crossings_of_arrays t f us sp i (drop i c.args.arrays.now) in
    let ws = crossings_of_array t f us sp i in
    let ys = crossings_of_arrays t f us sp (i + 1) (drop (i + 1) c.args.arrays.now) in
    let a = c.args.tally.now in
    let b = c.loop-number.tally in
    let e : xs ≡ ws ++ ys = from_front (kernel_of t).sizes (conditions_of t) us (λ _. f) sp c.args.arrays.now i i c.loop-number-test.true in
    let same : (crossings_of_array t f ((met_accesses c.loop-number.met) ++ L) sp i) ≡ ws = ap (λ l. crossings_of_array t f (l ++ L) sp i) (ap all_accesses c.loop-number.invariant.held) in
    let z = c.in_err-take_array.field-0.0 in
    passed c.from_residual.result z (Fails g.D.Domain t (said c.args.asked.now.said.now) (crossing_owed g.D.Domain c.args.asked.now.premises) crossing_fits all a) c.from_residual.ensures.1
    (fails_step (said c.args.asked.now.said.now) (crossing_owed g.D.Domain c.args.asked.now.premises) crossing_fits g.D.Domain t all xs ws ys a b z c.loop-number.invariant.takes e (subst (λ l. Fails g.D.Domain t (said c.args.asked.now.said.now) (crossing_owed g.D.Domain c.args.asked.now.premises) crossing_fits l b z) same c.in_err-take_array.ensures.fails))

pub returns-clause-takes : goal.returns-clause-takes
returns-clause-takes g c =
    let t = c.args.terrain.now in
    let L = left_accesses g.D.Domain t c.args.behind.now in
    let us = met_accesses c.args.met.now ++ L in
    let sp = space c.args.space in
    let i = c.loop-number.number in
    let f = c.args.fenced in
    let all = crossings_of_arrays t f us sp 0 c.args.arrays.now in
    let xs = crossings_of_arrays t f us sp i (drop i c.args.arrays.now) in
    let ws = crossings_of_array t f us sp i in
    let ys = crossings_of_arrays t f us sp (i + 1) (drop (i + 1) c.args.arrays.now) in
    let a = c.args.tally.now in
    let b = c.loop-number.tally in
    let over : length c.args.arrays.now ≤ i = omega (arith, c.loop-number-test.false) in
    takes_end (said c.args.asked.now.said.now) (crossing_owed g.D.Domain c.args.asked.now.premises) crossing_fits all xs a b (ap (λ l. crossings_of_arrays t f us sp i l) (drop_all i c.args.arrays.now over)) c.loop-number.invariant.takes
