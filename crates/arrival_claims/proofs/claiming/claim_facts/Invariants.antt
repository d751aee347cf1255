use Rattle.path_steps.specs.View.{followed}
use Rattle.arrival_claims.specs.View.{placed}
use Rattle.arrival_claims.proofs.Lines.{FactsFollow}
use Rattle.arrival_claims.proofs.claiming.claim_facts.Given as goal

abbrev pub invariant-loop-fact : goal.invariant-loop-fact
invariant-loop-fact g l = FactsFollow (placed g.D.Domain l.placing) l.facts (followed l.initial.path) (followed l.path) l.fact-index
