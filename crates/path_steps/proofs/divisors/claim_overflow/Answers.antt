use Rattle.std.specs.Prelude.{negsuc, true, ◌||◌}
use Rattle.linear.specs.Forms.{form}
use Rattle.facts.proofs.Unmade.{handed}
use Rattle.walk_trees.specs.Trees.{OfQuotient}
use Rattle.walk_trees.specs.Walks.{bounds_of}
use Rattle.walk_trees.specs.Operators.{lacks, quotient_goal}
use Rattle.path_steps.specs.View.{followed, goal_seen, setting as seen}
use Rattle.path_steps.proofs.Refusing.{goal_steps, goal_stops, unfit_goal}
use Rattle.path_steps.proofs.divisors.claim_overflow.Goals as goal

pub returns : goal.returns
returns g c = goal_steps OfQuotient true (lacks (bounds_of (seen g.D.Domain c.args.setting.now) (followed c.args.path.now).state (form c.args.divisor.now)) (negsuc 0) || lacks (bounds_of (seen g.D.Domain c.args.setting.now) (followed c.args.path.now).state (form c.args.dividend.now)) (negsuc 2147483647)) c.is_quotient_settled-settled.result (quotient_goal (form c.args.dividend.now) (form c.args.divisor.now)) (goal_seen c.in_ok-goal.goal) (followed c.args.path.now) (followed c.claim.new.self) c.is_quotient_settled-settled.ensures c.in_ok-goal.ensures c.in_ok-claim.ensures

pub returns-in_err-goal : goal.returns-in_err-goal
returns-in_err-goal g c =
    let k = unfit_goal OfQuotient true (lacks (bounds_of (seen g.D.Domain c.args.setting.now) (followed c.args.path.now).state (form c.args.divisor.now)) (negsuc 0) || lacks (bounds_of (seen g.D.Domain c.args.setting.now) (followed c.args.path.now).state (form c.args.dividend.now)) (negsuc 2147483647)) (quotient_goal (form c.args.dividend.now) (form c.args.divisor.now)) (followed c.args.path.now) c.in_err-goal.field-0.0 c.in_err-goal.ensures in
    handed c.from_residual.result c.in_err-goal.field-0.0 _ _ c.from_residual.ensures k

pub returns-in_err-claim : goal.returns-in_err-claim
returns-in_err-claim g c =
    let k = goal_stops OfQuotient true (lacks (bounds_of (seen g.D.Domain c.args.setting.now) (followed c.args.path.now).state (form c.args.divisor.now)) (negsuc 0) || lacks (bounds_of (seen g.D.Domain c.args.setting.now) (followed c.args.path.now).state (form c.args.dividend.now)) (negsuc 2147483647)) c.is_quotient_settled-settled.result (quotient_goal (form c.args.dividend.now) (form c.args.divisor.now)) (goal_seen c.in_ok-goal.goal) (followed c.args.path.now) c.in_err-claim.field-0.0 c.is_quotient_settled-settled.ensures c.in_ok-goal.ensures c.in_err-claim.ensures in
    handed c.from_residual-in_err-claim.result c.in_err-claim.field-0.0 _ _ c.from_residual-in_err-claim.ensures k
