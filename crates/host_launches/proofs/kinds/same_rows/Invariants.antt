use Rattle.std.proofs.Common.{◌≡◌, drop, map}
use Rattle.words.specs.View.{kind}
use Rattle.host_launches.specs.Kinds.{same_rows}
use Rattle.host_launches.proofs.kinds.same_rows.Given as goal

abbrev pub invariant-loop-at : goal.invariant-loop-at
invariant-loop-at l = same_rows (map kind (drop l.at l.left)) (map kind (drop l.at l.right)) ≡ same_rows (map kind l.left) (map kind l.right)
