use Rattle.core_code.specs.View.{term}
use Rattle.path_steps.specs.View.{followed}
use Rattle.arrival_claims.specs.View.{placed}
use Rattle.path_walk.proofs.Courses.{test_says}
use Rattle.path_walk.proofs.course.test_at.Goals as goal

pub returns : goal.returns
unfolding placed
returns g c = test_says (placed g.D.Domain c.args.placing.now) c.args.statement (term c.args.term.now) c.is_lawful.result (followed c.args.path.now) c.is_lawful.ensures c.if-not-is_lawful.false (followed c.stand_before.new.path) (followed c.test_of.new.path) c.stand_before.ensures c.test_of.result c.test_of.ensures
