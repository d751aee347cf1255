use Rattle.std.proofs.Common.{length, ◌≡◌, ◌++◌, drop, map}
use Rattle.std.specs.List.{All}
use Rattle.two_thread.specs.Alike.{notes_of}
use Rattle.two_thread.specs.Meetings as meetings
use Rattle.two_thread.specs.View.{met_end, met_ends}
use Rattle.two_thread.proofs.meetings.meet_each.Given as goal

abbrev pub invariant-loop-j : goal.invariant-loop-j
invariant-loop-j g l = record {
  found : map (meetings.meeting_seen (met_ends l.met)) l.found.items ++ meetings.meet_each (notes_of l.alike) (met_end l.met l.i) (drop l.j (met_ends l.met)) ≡ map (meetings.meeting_seen (met_ends l.met)) l.fn.found.items ++ meetings.meet_each (notes_of l.alike) (met_end l.met l.i) (drop l.i (met_ends l.met));
  inside : All (meetings.IsInside (length l.met.ends.items)) l.fn.found.items → All (meetings.IsInside (length l.met.ends.items)) l.found.items;
}
