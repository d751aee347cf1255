use Rattle.path_steps.specs.View.{followed}
use Rattle.arrival_claims.specs.View.{placed}
use Rattle.arrival_claims.proofs.Lines.{MultiplesFollow}
use Rattle.arrival_claims.proofs.multiplying.claim_multiples.Given as goal

abbrev pub invariant-loop-multiple : goal.invariant-loop-multiple
invariant-loop-multiple g l = MultiplesFollow (placed g.D.Domain l.placing) l.multiples (followed l.initial.path) (followed l.path) l.multiple-index
