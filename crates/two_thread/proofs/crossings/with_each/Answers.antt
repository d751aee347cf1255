use Rattle.std.proofs.Common.{arith, ◌<◌, ◌≤◌, length, map, drop, ◌+◌}
use Rattle.facts.proofs.Unmade.{handed}
use Rattle.launch.specs.View.{conditions}
use Rattle.facts.specs.View.{three}
use Rattle.obligations.specs.Crossings.{with_one, with_each}
use Rattle.two_thread.specs.View.{scope, crossing, sought_array, nth_access, met_accesses}
use Rattle.two_thread.proofs.Nth.{length_met}
use Rattle.two_thread.proofs.Growing.{each_front, each_step, each_end}
use Rattle.two_thread.proofs.Limits.{over_in}
use Rattle.two_thread.proofs.crossings.with_each.Goals as goal

pub loop-j-preserved : goal.loop-j-preserved
loop-j-preserved g c =
    let us = met_accesses c.args.pairing.now.met.now in
    let h : c.loop-j.j < length us = omega (arith, length_met c.args.pairing.now.met.now, c.loop-j-test.true, c.len-j-end.ensures) in
    record {
      found = each_step (three c.args.pairing.now.sizes) (conditions c.args.pairing.now.conditions.now) c.args.sought.fenced (sought_array c.args.sought) (scope c.args.sought.scope) (nth_access us c.args.i) us c.loop-j.j (map (crossing us) c.loop-j.found.items) (map (crossing us) c.with_one.new.found.items) _ h c.in_ok-with_one.ensures.exact c.loop-j.invariant.found;
      inside = λ a. c.in_ok-with_one.ensures.inside (c.loop-j.invariant.inside a);
    }

pub returns-clause-exact : goal.returns-clause-exact
returns-clause-exact g c =
    let us = met_accesses c.args.pairing.now.met.now in
    let h : length us ≤ c.loop-j.j = omega (arith, length_met c.args.pairing.now.met.now, c.loop-j-test.false, c.len-j-end.ensures) in
    each_end (three c.args.pairing.now.sizes) (conditions c.args.pairing.now.conditions.now) c.args.sought.fenced (sought_array c.args.sought) (scope c.args.sought.scope) (nth_access us c.args.i) us c.loop-j.j _ _ h c.loop-j.invariant.found

pub returns-in_err-with_one-clause-exact : goal.returns-in_err-with_one-clause-exact
returns-in_err-with_one-clause-exact g c =
    let us = met_accesses c.args.pairing.now.met.now in
    let u = nth_access us c.args.i in
    let h : c.loop-j.j < length us = omega (arith, length_met c.args.pairing.now.met.now, c.loop-j-test.true, c.len-j-end.ensures) in
    handed c.from_residual.result c.in_err-with_one.field-0.0 _ _ c.from_residual.ensures
    (over_in (crossing us) c.args.pairing.now.most c.in_err-with_one.field-0.0 c.args.found.now.items c.loop-j.found.items (with_each (three c.args.pairing.now.sizes) (conditions c.args.pairing.now.conditions.now) c.args.sought.fenced (sought_array c.args.sought) (scope c.args.sought.scope) u (drop c.loop-j.j us)) (with_one (three c.args.pairing.now.sizes) (conditions c.args.pairing.now.conditions.now) c.args.sought.fenced (sought_array c.args.sought) (scope c.args.sought.scope) u (nth_access us c.loop-j.j)) (with_each (three c.args.pairing.now.sizes) (conditions c.args.pairing.now.conditions.now) c.args.sought.fenced (sought_array c.args.sought) (scope c.args.sought.scope) u (drop (c.loop-j.j + 1) us)) (with_each (three c.args.pairing.now.sizes) (conditions c.args.pairing.now.conditions.now) c.args.sought.fenced (sought_array c.args.sought) (scope c.args.sought.scope) u (drop c.args.i us)) c.loop-j.invariant.found (each_front (three c.args.pairing.now.sizes) (conditions c.args.pairing.now.conditions.now) c.args.sought.fenced (sought_array c.args.sought) (scope c.args.sought.scope) u us c.loop-j.j h) c.in_err-with_one.ensures.exact)
