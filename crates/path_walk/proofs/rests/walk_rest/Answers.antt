use Rattle.std.proofs.Common.{ap}
use Rattle.core_code.specs.View.{statements}
use Rattle.path_steps.specs.View.{followed, turns}
use Rattle.arrival_claims.specs.View.{placed}
use Rattle.places.specs.View.{opened}
use Rattle.path_walk.proofs.Leaving.{fresh_says}
use Rattle.path_walk.proofs.rests.walk_rest.Goals as goal

pub returns-in-Fresh : goal.returns-in-Fresh
returns-in-Fresh g c = fresh_says (placed g.D.Domain c.args.placing.now) c.args.flow (followed c.args.path.now) (followed c.walk_fronts.new.path) (turns c.args.turns.now) (turns c.walk_fronts.new.turns) c.args.rest (statements c.in-Fresh.body.now) (λ around. ap (λ q. opened q around) c.in-Fresh.is) c.walk_fronts.result c.walk_fronts.ensures
