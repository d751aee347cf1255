use Rattle.std.proofs.Common.{◌≡◌, drop}
use Rattle.two_thread.specs.Meetings.{meetings_fit}
use Rattle.two_thread.specs.Listed.{found_meetings}
use Rattle.two_thread.proofs.numbered.Obligations.try_meetings.Given as goal

abbrev pub invariant-loop-i : goal.invariant-loop-i
invariant-loop-i g l = meetings_fit (drop l.i (found_meetings l.self.met l.self.meetings.items)) ≡ meetings_fit (found_meetings l.self.met l.self.meetings.items)
