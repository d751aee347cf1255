use Rattle.std.proofs.Common.{refl, map, ◌+◌, arith}
use Rattle.facts.proofs.Unmade.{handed}
use Rattle.obligations.specs.Walking.{claim_congruence, claim_congruences}
use Rattle.path_steps.specs.View.{followed}
use Rattle.obligations.specs.View.{congruence}
use Rattle.arrival_claims.specs.View.{placed}
use Rattle.path_steps.proofs.Each.{each_next, each_stops}
use Rattle.arrival_claims.proofs.dividing.claim_congruences.Goals as goal

pub loop-congruence-preserved : goal.loop-congruence-preserved
loop-congruence-preserved g c =
    let w = placed g.D.Domain c.args.placing.now in
    each_next (λ xs. claim_congruences w (map congruence xs)) (λ x. claim_congruence w (congruence x)) (λ x xs st go. refl) c.args.congruences.now c.loop-congruence.congruence-index c.congruence-item.result (followed c.args.path.now) (followed c.loop-congruence.path) c.loop-congruence.invariant c.loop-congruence-test.true c.congruence-item.is (c.loop-congruence.congruence-index + 1) (followed c.claim_congruence.new.path) (omega arith) c.in_ok-claim_congruence.ensures

pub returns-in_err-claim_congruence : goal.returns-in_err-claim_congruence
returns-in_err-claim_congruence g c =
    let w = placed g.D.Domain c.args.placing.now in
    let k = each_stops (λ xs. claim_congruences w (map congruence xs)) (λ x. claim_congruence w (congruence x)) (λ x xs st go. refl) c.args.congruences.now c.loop-congruence.congruence-index c.congruence-item.result (followed c.args.path.now) (followed c.loop-congruence.path) c.loop-congruence.invariant c.loop-congruence-test.true c.congruence-item.is c.in_err-claim_congruence.field-0.0 c.in_err-claim_congruence.ensures in
    handed c.from_residual.result c.in_err-claim_congruence.field-0.0 _ _ c.from_residual.ensures k
