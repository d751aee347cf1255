use Rattle.std.proofs.Common.{arith, ◌<◌, ◌≤◌, ◌+◌, length, map, drop}
use Rattle.facts.proofs.Unmade.{handed}
use Rattle.two_thread.specs.Alike.{notes_of}
use Rattle.two_thread.specs.Meetings.{meeting_seen, meet_from, all_meetings}
use Rattle.two_thread.specs.View.{nth_end, met_ends}
use Rattle.two_thread.proofs.NthEnd.{length_met_ends}
use Rattle.two_thread.proofs.MeetingLists.{all_front, all_step, all_end}
use Rattle.two_thread.proofs.Limits.{over_whole}
use Rattle.two_thread.proofs.meetings.all_meetings.Goals as goal

pub loop-i-preserved : goal.loop-i-preserved
loop-i-preserved g c =
    let us = met_ends c.args.met.now in
    let h : c.loop-i.i < length us = omega (arith, length_met_ends c.args.met.now, c.loop-i-test.true, c.len-i-end.ensures) in
    record {
      found = all_step (notes_of c.args.alike.now) us c.loop-i.i (map (meeting_seen us) c.loop-i.found.items) (map (meeting_seen us) c.meet_from.new.found.items) _ h c.in_ok-meet_from.ensures.exact c.loop-i.invariant.found;
      inside = c.in_ok-meet_from.ensures.inside c.loop-i.invariant.inside;
    }

pub returns-clause-exact : goal.returns-clause-exact
returns-clause-exact g c =
    let us = met_ends c.args.met.now in
    let h : length us ≤ c.loop-i.i = omega (arith, length_met_ends c.args.met.now, c.loop-i-test.false, c.len-i-end.ensures) in
    all_end (notes_of c.args.alike.now) us c.loop-i.i _ _ h c.loop-i.invariant.found

pub returns-in_err-meet_from-clause-exact : goal.returns-in_err-meet_from-clause-exact
returns-in_err-meet_from-clause-exact g c =
    let us = met_ends c.args.met.now in
    let n = notes_of c.args.alike.now in
    let i = c.loop-i.i in
    let h : i < length us = omega (arith, length_met_ends c.args.met.now, c.loop-i-test.true, c.len-i-end.ensures) in
    handed c.from_residual.result c.in_err-meet_from.field-0.0 _ _ c.from_residual.ensures
    (over_whole (meeting_seen us) c.args.most c.in_err-meet_from.field-0.0 c.loop-i.found.items (all_meetings n (drop i us)) (meet_from n (nth_end us i) (drop i us)) (all_meetings n (drop (i + 1) us)) (all_meetings n us) c.loop-i.invariant.found (all_front n us i h) c.in_err-meet_from.ensures.exact)
