use Rattle.core_code.specs.View.{term}
use Rattle.path_steps.specs.View.{followed, value}
use Rattle.arrival_claims.specs.View.{placed}
use Rattle.path_walk.proofs.Courses.{value_says}
use Rattle.path_walk.proofs.course.value_at.Goals as goal

pub returns : goal.returns
unfolding placed
returns g c = value_says (placed g.D.Domain c.args.placing.now) c.args.statement (term c.args.term.now) c.is_lawful.result (followed c.args.path.now) c.is_lawful.ensures c.if-not-is_lawful.false (followed c.stand_before.new.path) (followed c.value_of.new.path) c.stand_before.ensures value c.value_of.result c.value_of.ensures
