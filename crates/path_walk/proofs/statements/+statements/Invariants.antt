use Rattle.path_steps.specs.View.{followed, turns}
use Rattle.arrival_claims.specs.View.{placed}
use Rattle.path_walk.proofs.Flowing.{DrawsFollow}
use Rattle.path_walk.proofs.statements.+statements.Given as goal

abbrev pub invariant-walk_statements-loop-statement : goal.invariant-walk_statements-loop-statement
invariant-walk_statements-loop-statement g l = DrawsFollow (placed g.D.Domain l.placing) l.statements (followed l.initial.path) (turns l.initial.turns) (followed l.path) (turns l.turns) l.statement-index
