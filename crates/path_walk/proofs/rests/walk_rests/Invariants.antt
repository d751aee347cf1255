use Rattle.std.proofs.Common.{◌≤◌, length}
use Rattle.path_steps.specs.View.{followed, turns}
use Rattle.arrival_claims.specs.View.{placed}
use Rattle.path_walk.proofs.Leaving.{PassesTo}
use Rattle.path_walk.proofs.rests.walk_rests.Given as goal

abbrev pub invariant-loop-at : goal.invariant-loop-at
invariant-loop-at g l = record {
  within : l.at ≤ length l.rests;
  same : PassesTo (placed g.D.Domain l.placing) l.rests l.fn.flow (followed l.initial.path) (turns l.initial.turns) l.here (followed l.path) (turns l.turns) l.at;
}

abbrev pub decreases-loop-at : goal.decreases-loop-at
decreases-loop-at g l = l.at
