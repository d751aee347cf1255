use Rattle.std.proofs.Common.{◌≡◌, drop}
use Rattle.arrivals.specs.Places.{same_numbers}
use Rattle.two_thread.proofs.meetings.same_numbers.Given as goal

abbrev pub invariant-loop-i : goal.invariant-loop-i
invariant-loop-i l = same_numbers (drop l.i l.left) (drop l.i l.right) ≡ same_numbers l.left l.right
