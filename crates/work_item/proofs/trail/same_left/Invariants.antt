use Rattle.std.proofs.Common.{◌≡◌, length}
use Rattle.std.specs.Prelude.{bytes_eq}
use Rattle.semantics.specs.Item.{trail}
use Rattle.work_item.specs.Left.{left}
use Rattle.work_item.specs.Rests.{rest}
use Rattle.work_item.proofs.trail.same_left.Given as goal

abbrev pub invariant-loop-one : goal.invariant-loop-one
invariant-loop-one l = bytes_eq (trail (rest l.one)) (trail (rest l.other)) ≡ bytes_eq (trail (left l.first)) (trail (left l.second))

abbrev pub decreases-loop-one : goal.decreases-loop-one
decreases-loop-one l = length (rest l.one)
