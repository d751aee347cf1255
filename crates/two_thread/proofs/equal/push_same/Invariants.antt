use Rattle.std.proofs.Common.{◌≡◌, ◌++◌, drop}
use Rattle.linear.specs.Forms.{forms}
use Rattle.obligations.specs.Meetings.{same_facts}
use Rattle.two_thread.proofs.equal.push_same.Given as goal

abbrev pub invariant-loop-slot : goal.invariant-loop-slot
invariant-loop-slot l = forms l.facts.items ++ same_facts l.first l.second (drop l.slot-index l.slots) ≡ forms l.fn.facts.items ++ same_facts l.first l.second l.slots
