use Rattle.std.proofs.Common.{◌≡◌, ◌++◌, drop, length, map}
use Rattle.words.specs.View.{kind}
use Rattle.walk_trees.specs.Statements.{argument_values}
use Rattle.path_steps.specs.View.{value}
use Rattle.path_walk.proofs.variables.argument_values.Given as goal

abbrev pub invariant-loop-kind : goal.invariant-loop-kind
invariant-loop-kind l = record {
  many : length l.values.items ≡ l.kind-index;
  same : map value l.values.items ++ argument_values l.kind-index (map kind (drop l.kind-index l.kinds)) ≡ argument_values 0 (map kind l.kinds);
}
