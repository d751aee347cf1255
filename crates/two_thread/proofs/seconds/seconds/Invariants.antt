use Rattle.std.proofs.Common.{◌≡◌, ◌++◌, true, drop}
use Rattle.linear.specs.Terms.{terms, numbers}
use Rattle.linear.specs.Forms.{form}
use Rattle.walk_trees.specs.Seconds.{are_own_terms}
use Rattle.two_thread.specs.Seconds.{seconds}
use Rattle.two_thread.proofs.seconds.seconds.Given as goal

abbrev pub invariant-loop-term : goal.invariant-loop-term
invariant-loop-term l = record {
  is : terms l.term-items ≡ (form l.form).terms;
  own : are_own_terms (terms (drop l.term-index l.term-items)) ≡ true;
  same : numbers l.symbols.items ++ seconds (terms (drop l.term-index l.term-items)) ≡ seconds (form l.form).terms;
}
