use Rattle.std.proofs.Common.{◌≡◌, length}
use Rattle.semantics.specs.Item.{leave}
use Rattle.work_item.specs.Left.{left}
use Rattle.work_item.proofs.left.Left.leave.Given as goal

abbrev pub invariant-loop-self : goal.invariant-loop-self
invariant-loop-self l = leave l.number (left l.self) ≡ leave l.number (left l.fn.self)

abbrev pub decreases-loop-self : goal.decreases-loop-self
decreases-loop-self l = length (left l.self)
