use Rattle.std.proofs.Common.{arith, ◌<◌, ◌≤◌, length, map, drop, ◌+◌}
use Rattle.facts.proofs.Unmade.{handed}
use Rattle.launch.specs.View.{conditions}
use Rattle.facts.specs.View.{three}
use Rattle.obligations.specs.Crossings.{with_each, crossings_in}
use Rattle.two_thread.specs.View.{nth_access, scope, crossing, sought_array, met_accesses}
use Rattle.two_thread.proofs.Nth.{length_met}
use Rattle.two_thread.proofs.Growing.{in_front, in_step, in_end}
use Rattle.two_thread.proofs.Limits.{over_in}
use Rattle.two_thread.proofs.crossings.crossings_in.Goals as goal

pub loop-i-preserved : goal.loop-i-preserved
loop-i-preserved g c =
    let us = met_accesses c.args.pairing.now.met.now in
    let h : c.loop-i.i < length us = omega (arith, length_met c.args.pairing.now.met.now, c.loop-i-test.true, c.len-i-end.ensures) in
    record {
      found = in_step (three c.args.pairing.now.sizes) (conditions c.args.pairing.now.conditions.now) c.args.sought.fenced (sought_array c.args.sought) (scope c.args.sought.scope) us c.loop-i.i (map (crossing us) c.loop-i.found.items) (map (crossing us) c.with_each.new.found.items) _ h c.in_ok-with_each.ensures.exact c.loop-i.invariant.found;
      inside = λ a. c.in_ok-with_each.ensures.inside (c.loop-i.invariant.inside a);
    }

pub returns-clause-exact : goal.returns-clause-exact
returns-clause-exact g c =
    let us = met_accesses c.args.pairing.now.met.now in
    let h : length us ≤ c.loop-i.i = omega (arith, length_met c.args.pairing.now.met.now, c.loop-i-test.false, c.len-i-end.ensures) in
    in_end (three c.args.pairing.now.sizes) (conditions c.args.pairing.now.conditions.now) c.args.sought.fenced (sought_array c.args.sought) (scope c.args.sought.scope) us c.loop-i.i _ _ h c.loop-i.invariant.found

pub returns-in_err-with_each-clause-exact : goal.returns-in_err-with_each-clause-exact
returns-in_err-with_each-clause-exact g c =
    let us = met_accesses c.args.pairing.now.met.now in
    let i = c.loop-i.i in
    let h : i < length us = omega (arith, length_met c.args.pairing.now.met.now, c.loop-i-test.true, c.len-i-end.ensures) in
    handed c.from_residual.result c.in_err-with_each.field-0.0 _ _ c.from_residual.ensures
    (over_in (crossing us) c.args.pairing.now.most c.in_err-with_each.field-0.0 c.args.found.now.items c.loop-i.found.items (crossings_in (three c.args.pairing.now.sizes) (conditions c.args.pairing.now.conditions.now) c.args.sought.fenced (sought_array c.args.sought) (scope c.args.sought.scope) (drop i us)) (with_each (three c.args.pairing.now.sizes) (conditions c.args.pairing.now.conditions.now) c.args.sought.fenced (sought_array c.args.sought) (scope c.args.sought.scope) (nth_access us i) (drop i us)) (crossings_in (three c.args.pairing.now.sizes) (conditions c.args.pairing.now.conditions.now) c.args.sought.fenced (sought_array c.args.sought) (scope c.args.sought.scope) (drop (i + 1) us)) (crossings_in (three c.args.pairing.now.sizes) (conditions c.args.pairing.now.conditions.now) c.args.sought.fenced (sought_array c.args.sought) (scope c.args.sought.scope) us) c.loop-i.invariant.found (in_front (three c.args.pairing.now.sizes) (conditions c.args.pairing.now.conditions.now) c.args.sought.fenced (sought_array c.args.sought) (scope c.args.sought.scope) us i h) c.in_err-with_each.ensures.exact)
