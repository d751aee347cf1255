use Rattle.std.proofs.Common.{◌≡◌, ◌++◌, drop, map}
use Rattle.linear.specs.Forms.{forms}
use Rattle.launch.specs.View.{length_sum}
use Rattle.facts.specs.Launching as launching
use Rattle.facts.proofs.launching.length_facts.Given as goal

abbrev pub invariant-loop-length : goal.invariant-loop-length
invariant-loop-length l = record {
  count : l.buffer ≡ l.length-index;
  same : forms l.facts.items ++ launching.length_facts l.buffer (map length_sum (drop l.length-index l.lengths)) ≡ forms l.fn.facts.items ++ launching.length_facts 0 (map length_sum l.lengths);
}
