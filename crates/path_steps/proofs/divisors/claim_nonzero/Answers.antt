use Rattle.std.specs.Prelude.{pos, true}
use Rattle.std.proofs.Common.{ap, ◌∙◌}
use Rattle.linear.specs.Forms.{form}
use Rattle.facts.proofs.Unmade.{handed}
use Rattle.walk_trees.specs.Trees.{OfDivisor}
use Rattle.walk_trees.specs.Walks.{bounds_of}
use Rattle.walk_trees.specs.Operators.{lacks, divisor_goal}
use Rattle.path_steps.specs.View.{followed, goal_seen, setting as seen}
use Rattle.path_steps.proofs.Refusing.{goal_steps, goal_stops, unfit_goal}
use Rattle.path_steps.proofs.divisors.claim_nonzero.Goals as goal

pub returns-clause-steps : goal.returns-clause-steps
returns-clause-steps g c = goal_steps OfDivisor true (lacks (bounds_of (seen g.D.Domain c.args.setting.now) (followed c.args.path.now).state (form c.args.divisor.now)) (pos 0)) c.lacks_zero-settled.result (divisor_goal (form c.args.divisor.now)) (goal_seen c.in_ok-goal.goal) (followed c.args.path.now) (followed c.claim.new.self) (c.lacks_zero-settled.ensures ∙ ap (λ b. lacks b (pos 0)) c.bounds_of.ensures) c.in_ok-goal.ensures.goal c.in_ok-claim.ensures

pub returns-in_err-goal-clause-steps : goal.returns-in_err-goal-clause-steps
returns-in_err-goal-clause-steps g c =
    let k = unfit_goal OfDivisor true (lacks (bounds_of (seen g.D.Domain c.args.setting.now) (followed c.args.path.now).state (form c.args.divisor.now)) (pos 0)) (divisor_goal (form c.args.divisor.now)) (followed c.args.path.now) c.in_err-goal.field-0.0 c.in_err-goal.ensures.goal in
    handed c.from_residual.result c.in_err-goal.field-0.0 _ _ c.from_residual.ensures k

pub returns-in_err-claim-clause-steps : goal.returns-in_err-claim-clause-steps
returns-in_err-claim-clause-steps g c =
    let k = goal_stops OfDivisor true (lacks (bounds_of (seen g.D.Domain c.args.setting.now) (followed c.args.path.now).state (form c.args.divisor.now)) (pos 0)) c.lacks_zero-settled.result (divisor_goal (form c.args.divisor.now)) (goal_seen c.in_ok-goal.goal) (followed c.args.path.now) c.in_err-claim.field-0.0 (c.lacks_zero-settled.ensures ∙ ap (λ b. lacks b (pos 0)) c.bounds_of.ensures) c.in_ok-goal.ensures.goal c.in_err-claim.ensures in
    handed c.from_residual-in_err-claim.result c.in_err-claim.field-0.0 _ _ c.from_residual-in_err-claim.ensures k
