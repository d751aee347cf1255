use Rattle.std.proofs.Common.{◌≡◌, drop}
use Rattle.linear.specs.Terms.{terms}
use Rattle.walk_trees.specs.Shares.{are_same_terms}
use Rattle.path_steps.proofs.shares.are_same_terms.Given as goal

abbrev pub invariant-loop-i : goal.invariant-loop-i
invariant-loop-i l = are_same_terms (terms (drop l.i l.left)) (terms (drop l.i l.right)) ≡ are_same_terms (terms l.left) (terms l.right)
