use Rattle.std.proofs.Common.{◌≡◌, ◌++◌, drop, length, map}
use Rattle.std.specs.List.{All}
use Rattle.two_thread.specs.Meetings.{IsInside, meet_each, meeting_seen}
use Rattle.two_thread.specs.View.{met_end, met_ends}
use Rattle.entry_check.specs.Hand.{notes_in}
use Rattle.entry_check.proofs.meetings.meetings_with.Given as goal

abbrev pub invariant-loop-j : goal.invariant-loop-j
invariant-loop-j g l = record {
  found : map (meeting_seen (met_ends l.met)) l.found.items ++ meet_each (notes_in l.asked.premises) (met_end l.met l.i) (drop l.j (met_ends l.met)) ≡ meet_each (notes_in l.asked.premises) (met_end l.met l.i) (drop l.from (met_ends l.met));
  inside : All (IsInside (length l.met.ends.items)) l.found.items;
}
