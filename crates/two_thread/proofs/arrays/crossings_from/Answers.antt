use Rattle.std.proofs.Common.{◌+◌, drop, map}
use Rattle.core_code.specs.View.{space}
use Rattle.facts.proofs.Unmade.{handed}
use Rattle.launch.specs.View.{conditions}
use Rattle.facts.specs.View.{three}
use Rattle.obligations.specs.Crossings.{crossings_of, crossings_from}
use Rattle.two_thread.specs.View.{crossing, met_accesses}
use Rattle.two_thread.proofs.ArrayLists.{from_front, from_step}
use Rattle.two_thread.proofs.Limits.{over_in}
use Rattle.two_thread.proofs.arrays.crossings_from.Goals as goal

pub loop-number-preserved : goal.loop-number-preserved
loop-number-preserved g c =
    let us = met_accesses c.args.pairing.now.met.now in
    record {
      found = from_step (three c.args.pairing.now.sizes) (conditions c.args.pairing.now.conditions.now) us (λ _. c.args.fenced) (space c.args.space) c.args.arrays.now c.loop-number.number (map (crossing us) c.loop-number.found.items) (map (crossing us) c.crossings_of.new.found.items) _ c.loop-number-test.true c.in_ok-crossings_of.ensures.exact c.loop-number.invariant.found;
      inside = λ a. c.in_ok-crossings_of.ensures.inside (c.loop-number.invariant.inside a);
    }

pub returns-in_err-crossings_of-clause-exact : goal.returns-in_err-crossings_of-clause-exact
returns-in_err-crossings_of-clause-exact g c =
    let us = met_accesses c.args.pairing.now.met.now in
    let i = c.loop-number.number in
    let sp = space c.args.space in
    handed c.from_residual.result c.in_err-crossings_of.field-0.0 _ _ c.from_residual.ensures
    (over_in (crossing us) c.args.pairing.now.most c.in_err-crossings_of.field-0.0 c.args.found.now.items c.loop-number.found.items (crossings_from (three c.args.pairing.now.sizes) (conditions c.args.pairing.now.conditions.now) (λ _. c.args.fenced) us sp i (drop i c.args.arrays.now)) (crossings_of (three c.args.pairing.now.sizes) (conditions c.args.pairing.now.conditions.now) (λ _. c.args.fenced) us sp i) (crossings_from (three c.args.pairing.now.sizes) (conditions c.args.pairing.now.conditions.now) (λ _. c.args.fenced) us sp (i + 1) (drop (i + 1) c.args.arrays.now)) (crossings_from (three c.args.pairing.now.sizes) (conditions c.args.pairing.now.conditions.now) (λ _. c.args.fenced) us sp 0 c.args.arrays.now) c.loop-number.invariant.found (from_front (three c.args.pairing.now.sizes) (conditions c.args.pairing.now.conditions.now) us (λ _. c.args.fenced) sp c.args.arrays.now i i c.loop-number-test.true) c.in_err-crossings_of.ensures.exact)
