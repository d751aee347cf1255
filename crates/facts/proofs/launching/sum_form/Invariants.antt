use Rattle.std.proofs.Common.{◌≡◌, ◌≤◌, ◌*◌, drop, map}
use Rattle.linear.specs.Forms.{form}
use Rattle.linear.specs.Sizes.{size}
use Rattle.launch.specs.View.{summand}
use Rattle.facts.specs.Launching as launching
use Rattle.facts.proofs.launching.sum_form.Given as goal

abbrev pub invariant-loop-summand : goal.invariant-loop-summand
invariant-loop-summand l = record {
  same : launching.sum_from (form l.total) (map summand (drop l.summand-index l.fn.sum.terms.items)) ≡ launching.sum_form (map summand l.fn.sum.terms.items);
  small : size (form l.total) ≤ l.summand-index * 4294967295;
}
