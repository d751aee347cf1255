use Rattle.std.proofs.Common.{◌≡◌, length}
use Rattle.semantics.specs.Item.{resume}
use Rattle.work_item.specs.Left.{left, HasRoom}
use Rattle.work_item.proofs.left.Left.resume.Given as goal

abbrev pub invariant-loop-self : goal.invariant-loop-self
invariant-loop-self l = (resume l.number (left l.self) ≡ resume l.number (left l.fn.self)) × HasRoom l.self 1

abbrev pub decreases-loop-self : goal.decreases-loop-self
decreases-loop-self l = length (left l.self)
