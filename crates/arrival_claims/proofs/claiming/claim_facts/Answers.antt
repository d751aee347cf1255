use Rattle.std.proofs.Common.{refl, ◌+◌, arith}
use Rattle.linear.specs.Forms.{form, forms}
use Rattle.facts.proofs.Unmade.{handed}
use Rattle.obligations.specs.Walking.{claim_fact, claim_facts}
use Rattle.path_steps.specs.View.{followed}
use Rattle.arrival_claims.specs.View.{placed}
use Rattle.path_steps.proofs.Each.{each_next, each_stops}
use Rattle.arrival_claims.proofs.claiming.claim_facts.Goals as goal

pub loop-fact-preserved : goal.loop-fact-preserved
loop-fact-preserved g c =
    let w = placed g.D.Domain c.args.placing.now in
    each_next (λ xs. claim_facts w (forms xs)) (λ x. claim_fact w (form x)) (λ x xs st go. refl) c.args.facts.now c.loop-fact.fact-index c.fact-item.result (followed c.args.path.now) (followed c.loop-fact.path) c.loop-fact.invariant c.loop-fact-test.true c.fact-item.is (c.loop-fact.fact-index + 1) (followed c.claim_fact.new.path) (omega arith) c.in_ok-claim_fact.ensures

pub returns-in_err-claim_fact : goal.returns-in_err-claim_fact
returns-in_err-claim_fact g c =
    let w = placed g.D.Domain c.args.placing.now in
    let k = each_stops (λ xs. claim_facts w (forms xs)) (λ x. claim_fact w (form x)) (λ x xs st go. refl) c.args.facts.now c.loop-fact.fact-index c.fact-item.result (followed c.args.path.now) (followed c.loop-fact.path) c.loop-fact.invariant c.loop-fact-test.true c.fact-item.is c.in_err-claim_fact.field-0.0 c.in_err-claim_fact.ensures in
    handed c.from_residual.result c.in_err-claim_fact.field-0.0 _ _ c.from_residual.ensures k
