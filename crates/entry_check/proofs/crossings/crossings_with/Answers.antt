use Rattle.std.proofs.Common.{rules, ◌<◌, length, map}
use Rattle.two_thread.specs.View.{crossing, met_access, met_accesses, scope, sought_array}
use Rattle.two_thread.proofs.Growing.{each_step}
use Rattle.walk.specs.Cursors.{conditions_of, kernel_of}
use Rattle.entry_check.proofs.crossings.crossings_with.Goals as goal

pub loop-j-preserved : goal.loop-j-preserved
loop-j-preserved g c =
    let t = c.args.terrain.now in
    let us = met_accesses c.args.met.now in
    let v = crossing us in
    let j = c.loop-j.j in
    let h : j < length us = search rules in
    record {
      found = each_step (kernel_of t).sizes (conditions_of t) c.args.sought.fenced (sought_array c.args.sought) (scope c.args.sought.scope) (met_access c.args.met.now c.args.i) us j (map v c.loop-j.found.items) (map v c.with_one.new.found.items) _ h c.in_ok-with_one.ensures.exact c.loop-j.invariant.found;
      inside = c.in_ok-with_one.ensures.inside c.loop-j.invariant.inside;
    }
