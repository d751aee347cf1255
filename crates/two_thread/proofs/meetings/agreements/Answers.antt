use Rattle.std.proofs.Common.{◌+◌, drop, map, get_or, arith, ◌<◌, length, refl}
use Rattle.facts.proofs.Unmade.{handed}
use Rattle.two_thread.specs.Meetings.{meeting_seen, agree_on, agreements}
use Rattle.two_thread.specs.View.{met_end, met_ends}
use Rattle.two_thread.proofs.MeetingLists.{agree_front, agree_step}
use Rattle.two_thread.proofs.Limits.{over_in}
use Rattle.two_thread.proofs.meetings.agreements.Goals as goal

pub loop-i-preserved : goal.loop-i-preserved
loop-i-preserved g c =
    let us = met_ends c.args.met.now in
    let u = met_end c.args.met.now c.args.at.first in
    let v = met_end c.args.met.now c.args.at.second in
    let h : c.loop-i.i < length c.args.slots.now = omega (arith, c.loop-i-test.true) in
    record {
      found = agree_step u v c.args.slots.now c.loop-i.i (get_or c.args.slots.now c.loop-i.i 0) (map (meeting_seen us) c.loop-i.found.items) (map (meeting_seen us) c.agree_on.new.found.items) _ h refl c.in_ok-agree_on.ensures.exact c.loop-i.invariant.found;
      inside = λ n h a. c.in_ok-agree_on.ensures.inside n h (c.loop-i.invariant.inside n h a);
    }

pub returns-in_err-agree_on-clause-exact : goal.returns-in_err-agree_on-clause-exact
returns-in_err-agree_on-clause-exact g c =
    let us = met_ends c.args.met.now in
    let u = met_end c.args.met.now c.args.at.first in
    let v = met_end c.args.met.now c.args.at.second in
    let i = c.loop-i.i in
    let xs = c.args.slots.now in
    let h : c.loop-i.i < length c.args.slots.now = omega (arith, c.loop-i-test.true) in
    handed c.from_residual.result c.in_err-agree_on.field-0.0 _ _ c.from_residual.ensures
    (over_in (meeting_seen us) c.args.most c.in_err-agree_on.field-0.0 c.args.found.now.items c.loop-i.found.items (agreements u v (drop i xs)) (agree_on u v (get_or xs i 0)) (agreements u v (drop (i + 1) xs)) (agreements u v xs) c.loop-i.invariant.found (agree_front u v xs i h) c.in_err-agree_on.ensures.exact)
