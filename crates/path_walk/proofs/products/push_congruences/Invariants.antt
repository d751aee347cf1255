use Rattle.std.proofs.Common.{◌≡◌, ◌++◌, drop, map}
use Rattle.linear.specs.Forms.{forms}
use Rattle.obligations.specs.View.{congruence}
use Rattle.obligations.specs.Roots.{congruence_facts}
use Rattle.path_walk.proofs.products.push_congruences.Given as goal

abbrev pub invariant-loop-index : goal.invariant-loop-index
invariant-loop-index l = forms l.into.items ++ congruence_facts l.index (map congruence (drop l.index l.congruences)) ≡ forms l.fn.into.items ++ congruence_facts 0 (map congruence l.congruences)
