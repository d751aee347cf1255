use Rattle.path_steps.specs.View.{followed, turns}
use Rattle.arrival_claims.specs.View.{placed}
use Rattle.path_walk.proofs.Passing.{PassesFollow}
use Rattle.path_walk.proofs.fronts.walk_fronts.Given as goal

abbrev pub invariant-loop-statement : goal.invariant-loop-statement
invariant-loop-statement g l = PassesFollow (placed g.D.Domain l.placing) l.statements l.fn.flow (followed l.initial.path) (turns l.initial.turns) l.left (followed l.path) (turns l.turns) l.statement-index
