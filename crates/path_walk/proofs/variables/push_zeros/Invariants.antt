use Rattle.std.proofs.Common.{◌≡◌, ◌++◌, drop, map}
use Rattle.words.specs.View.{kind}
use Rattle.walk_trees.specs.Statements.{zero_value}
use Rattle.path_steps.specs.View.{value}
use Rattle.path_walk.proofs.variables.push_zeros.Given as goal

abbrev pub invariant-loop-kind : goal.invariant-loop-kind
invariant-loop-kind l = map value l.values.items ++ map zero_value (map kind (drop l.kind-index l.kinds)) ≡ map value l.initial.values.items ++ map zero_value (map kind l.kinds)
