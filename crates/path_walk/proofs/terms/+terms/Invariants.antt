use Rattle.std.proofs.Common.{◌+◌, ◌*◌}
use Rattle.std.specs.Prelude.{max}
use Rattle.core_code.specs.declared.tree.Term.{size-Term}
use Rattle.path_walk.proofs.terms.+terms.Given as goal

abbrev pub decreases-both_values : goal.decreases-both_values
decreases-both_values g l = max (size-Term l.left.now) (size-Term l.right.now) * 8 + 2

abbrev pub decreases-compared : goal.decreases-compared
decreases-compared g l = max (size-Term l.left.now) (size-Term l.right.now) * 8 + 4

abbrev pub decreases-both_hold : goal.decreases-both_hold
decreases-both_hold g l = max (size-Term l.left.now) (size-Term l.right.now) * 8 + 4

abbrev pub decreases-either_holds : goal.decreases-either_holds
decreases-either_holds g l = max (size-Term l.left.now) (size-Term l.right.now) * 8 + 4

abbrev pub decreases-value_of : goal.decreases-value_of
decreases-value_of g l = size-Term l.term.now * 8

abbrev pub decreases-test_of : goal.decreases-test_of
decreases-test_of g l = size-Term l.term.now * 8 + 1
