use Rattle.std.proofs.Common.{◌≡◌, ◌++◌, true, drop}
use Rattle.linear.specs.Forms.{forms}
use Rattle.walk_trees.specs.Seconds.{are_own, second_forms}
use Rattle.two_thread.proofs.seconds.push_seconds.Given as goal

abbrev pub invariant-loop-form : goal.invariant-loop-form
invariant-loop-form l = record {
  own : are_own (forms (drop l.form-index l.of)) ≡ true;
  same : forms l.facts.items ++ second_forms (forms (drop l.form-index l.of)) ≡ forms l.fn.facts.items ++ second_forms (forms l.of);
}
