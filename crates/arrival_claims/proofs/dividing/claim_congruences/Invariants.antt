use Rattle.path_steps.specs.View.{followed}
use Rattle.arrival_claims.specs.View.{placed}
use Rattle.arrival_claims.proofs.Lines.{CongruencesFollow}
use Rattle.arrival_claims.proofs.dividing.claim_congruences.Given as goal

abbrev pub invariant-loop-congruence : goal.invariant-loop-congruence
invariant-loop-congruence g l = CongruencesFollow (placed g.D.Domain l.placing) l.congruences (followed l.initial.path) (followed l.path) l.congruence-index
