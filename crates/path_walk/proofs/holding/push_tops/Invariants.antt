use Rattle.std.proofs.Common.{◌≡◌, ◌++◌, drop, map}
use Rattle.path_steps.specs.View.{invented_seen}
use Rattle.obligations.specs.View.{multiple}
use Rattle.obligations.specs.Roots.{tops}
use Rattle.path_walk.proofs.holding.push_tops.Given as goal

abbrev pub invariant-loop : goal.invariant-loop
invariant-loop g l = map invented_seen l.elements.items ++ tops g.D.Domain (map multiple (drop l.index l.multiples)) ≡ map invented_seen l.fn.elements.items ++ tops g.D.Domain (map multiple l.multiples)
