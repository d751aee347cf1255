use Rattle.std.proofs.Common.{◌≡◌, drop}
use Rattle.linear.specs.Terms.{terms}
use Rattle.entry_check.specs.Entries.{same_terms}
use Rattle.entry_check.proofs.quotients.same_terms.Given as goal

abbrev pub invariant-loop-i : goal.invariant-loop-i
invariant-loop-i l = same_terms (terms (drop l.i l.left)) (terms (drop l.i l.right)) ≡ same_terms (terms l.left) (terms l.right)
