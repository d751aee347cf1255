use Rattle.std.proofs.Common.{◌≡◌, ◌≤◌, length, drop}
use Rattle.linear.specs.Forms.{form}
use Rattle.linear.specs.Terms.{terms}
use Rattle.walk_trees.specs.Seconds.{second_terms}
use Rattle.two_thread.proofs.seconds.in_order.Given as goal

abbrev pub invariant-loop-left : goal.invariant-loop-left
invariant-loop-left l = record {
  within : l.left ≤ length l.terms;
  is : form l.copy ≡ record { terms = second_terms (terms (drop l.left l.terms)); constant = l.form.constant };
}

abbrev pub decreases-loop-left : goal.decreases-loop-left
decreases-loop-left l = l.left
