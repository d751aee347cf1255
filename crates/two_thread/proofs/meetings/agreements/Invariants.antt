use Rattle.std.proofs.Common.{◌≡◌, ◌++◌, ℕ, drop, map}
use Rattle.std.specs.List.{All}
use Rattle.two_thread.specs.Meetings as meetings
use Rattle.two_thread.specs.View.{met_end, met_ends}
use Rattle.two_thread.proofs.meetings.agreements.Given as goal

abbrev pub invariant-loop-i : goal.invariant-loop-i
invariant-loop-i g l = record {
  found : map (meetings.meeting_seen (met_ends l.met)) l.found.items ++ meetings.agreements (met_end l.met l.at.first) (met_end l.met l.at.second) (drop l.i l.slots) ≡ map (meetings.meeting_seen (met_ends l.met)) l.fn.found.items ++ meetings.agreements (met_end l.met l.at.first) (met_end l.met l.at.second) l.slots;
  inside : (n : ℕ) → meetings.IsInside n l.at → All (meetings.IsInside n) l.fn.found.items → All (meetings.IsInside n) l.found.items;
}
