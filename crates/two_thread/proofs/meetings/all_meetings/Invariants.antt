use Rattle.std.proofs.Common.{length, ◌≡◌, ◌++◌, drop, map}
use Rattle.std.specs.List.{All}
use Rattle.two_thread.specs.Alike.{notes_of}
use Rattle.two_thread.specs.Meetings as meetings
use Rattle.two_thread.specs.View.{met_ends}
use Rattle.two_thread.proofs.meetings.all_meetings.Given as goal

abbrev pub invariant-loop-i : goal.invariant-loop-i
invariant-loop-i g l = record {
  found : map (meetings.meeting_seen (met_ends l.met)) l.found.items ++ meetings.all_meetings (notes_of l.alike) (drop l.i (met_ends l.met)) ≡ meetings.all_meetings (notes_of l.alike) (met_ends l.met);
  inside : All (meetings.IsInside (length l.met.ends.items)) l.found.items;
}
