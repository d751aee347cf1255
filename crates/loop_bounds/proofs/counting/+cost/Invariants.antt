use Rattle.std.proofs.Common.{◌≡◌, ◌+◌, drop}
use Rattle.core_code.specs.View.{statements}
use Rattle.loop_bounds.specs.Turns.{turns_of}
use Rattle.loop_bounds.specs.Costs.{cost}
use Rattle.loop_bounds.proofs.counting.+cost.Given as goal

abbrev pub invariant-body_cost-loop-statement : goal.invariant-body_cost-loop-statement
invariant-body_cost-loop-statement l = l.total + cost (turns_of l.bounds) (statements (drop l.statement-index l.body)) ≡ cost (turns_of l.bounds) (statements l.body)
