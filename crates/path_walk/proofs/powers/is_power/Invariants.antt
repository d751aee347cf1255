use Rattle.std.proofs.Common.{◌≡◌}
use Rattle.walk_trees.specs.Quotients as quotients
use Rattle.path_walk.proofs.powers.is_power.Given as goal

abbrev pub invariant-loop-smaller : goal.invariant-loop-smaller
invariant-loop-smaller l = l.found ≡ quotients.is_power l.smaller l.number
