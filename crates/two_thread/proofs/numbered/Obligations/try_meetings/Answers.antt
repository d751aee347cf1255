use Rattle.std.proofs.Common.{rules, ◌≡◌, ◌≤◌, ◌<◌, length, get_or}
use Rattle.std.specs.Prelude.{true}
use Rattle.facts.proofs.Unmade.{handed}
use Rattle.two_thread.specs.Meetings.{meeting_seen, meeting_fits}
use Rattle.two_thread.specs.View.{met_ends}
use Rattle.two_thread.proofs.Listing.{meeting_unfit, meetings-next, meetings-end}
use Rattle.two_thread.proofs.numbered.Obligations.try_meetings.Goals as goal

pub returns-in_err-try_meeting : goal.returns-in_err-try_meeting
returns-in_err-try_meeting g c =
    let o = c.args.self.now in
    let r = c.index-meeting.result.now in
    let h : c.loop-i.i < length o.meetings.items = search rules in
    let q : r ≡ get_or o.meetings.items c.loop-i.i r = search rules in
    handed c.from_residual.result c.in_err-try_meeting.field-0.0 _ _ c.from_residual.ensures (meeting_unfit o.met o.meetings.items c.loop-i.i r c.in_err-try_meeting.field-0.0 h q c.in_err-try_meeting.ensures)

pub loop-i-preserved : goal.loop-i-preserved
loop-i-preserved g c =
    let o = c.args.self.now in
    let r = c.index-meeting.result.now in
    let h : c.loop-i.i < length o.meetings.items = search rules in
    let q : r ≡ get_or o.meetings.items c.loop-i.i r = search rules in
    let f : meeting_fits (meeting_seen (met_ends o.met) r) ≡ true = search rules in
    meetings-next o.met o.meetings.items c.loop-i.i r _ h q f c.loop-i.invariant

pub returns : goal.returns
returns g c =
    let o = c.args.self.now in
    let h : length o.meetings.items ≤ c.loop-i.i = search rules in
    meetings-end o.met o.meetings.items c.loop-i.i _ h c.loop-i.invariant
