use Rattle.std.proofs.Common.{arith, ◌<◌, ◌≤◌, ◌+◌, length, map, drop}
use Rattle.facts.proofs.Unmade.{handed}
use Rattle.two_thread.specs.Alike.{notes_of}
use Rattle.two_thread.specs.Meetings.{meeting_seen, two_meet, meet_each}
use Rattle.two_thread.specs.View.{nth_end, met_ends}
use Rattle.two_thread.proofs.NthEnd.{length_met_ends}
use Rattle.two_thread.proofs.MeetingLists.{each_front, each_step, each_end}
use Rattle.two_thread.proofs.Limits.{over_in}
use Rattle.two_thread.proofs.meetings.meet_each.Goals as goal

pub loop-j-preserved : goal.loop-j-preserved
loop-j-preserved g c =
    let us = met_ends c.args.met.now in
    let h : c.loop-j.j < length us = omega (arith, length_met_ends c.args.met.now, c.loop-j-test.true, c.len-j-end.ensures) in
    record {
      found = each_step (notes_of c.args.alike.now) (nth_end us c.args.i) us c.loop-j.j (map (meeting_seen us) c.loop-j.found.items) (map (meeting_seen us) c.two_meet.new.found.items) _ h c.in_ok-two_meet.ensures.exact c.loop-j.invariant.found;
      inside = λ a. c.in_ok-two_meet.ensures.inside (c.loop-j.invariant.inside a);
    }

pub returns-clause-exact : goal.returns-clause-exact
returns-clause-exact g c =
    let us = met_ends c.args.met.now in
    let h : length us ≤ c.loop-j.j = omega (arith, length_met_ends c.args.met.now, c.loop-j-test.false, c.len-j-end.ensures) in
    each_end (notes_of c.args.alike.now) (nth_end us c.args.i) us c.loop-j.j _ _ h c.loop-j.invariant.found

pub returns-in_err-two_meet-clause-exact : goal.returns-in_err-two_meet-clause-exact
returns-in_err-two_meet-clause-exact g c =
    let us = met_ends c.args.met.now in
    let n = notes_of c.args.alike.now in
    let u = nth_end us c.args.i in
    let j = c.loop-j.j in
    let h : j < length us = omega (arith, length_met_ends c.args.met.now, c.loop-j-test.true, c.len-j-end.ensures) in
    handed c.from_residual.result c.in_err-two_meet.field-0.0 _ _ c.from_residual.ensures
    (over_in (meeting_seen us) c.args.most c.in_err-two_meet.field-0.0 c.args.found.now.items c.loop-j.found.items (meet_each n u (drop j us)) (two_meet n u (nth_end us j)) (meet_each n u (drop (j + 1) us)) (meet_each n u (drop c.args.i us)) c.loop-j.invariant.found (each_front n u us j h) c.in_err-two_meet.ensures.exact)
