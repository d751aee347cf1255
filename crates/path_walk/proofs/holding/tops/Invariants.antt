use Rattle.std.proofs.Common.{◌≡◌, ◌++◌, drop, map}
use Rattle.path_steps.specs.View.{invented_seen}
use Rattle.obligations.specs.View.{congruence}
use Rattle.obligations.specs.Roots.{tops}
use Rattle.path_walk.proofs.holding.tops.Given as goal

abbrev pub invariant-loop : goal.invariant-loop
invariant-loop g l = map invented_seen l.elements.items ++ tops g.D.Domain (map congruence (drop l.index l.congruences)) ≡ tops g.D.Domain (map congruence l.congruences)
