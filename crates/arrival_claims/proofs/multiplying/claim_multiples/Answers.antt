use Rattle.std.proofs.Common.{refl, map, ◌+◌, arith}
use Rattle.facts.proofs.Unmade.{handed}
use Rattle.obligations.specs.Walking.{claim_multiple, claim_multiples}
use Rattle.path_steps.specs.View.{followed}
use Rattle.obligations.specs.View.{multiple}
use Rattle.arrival_claims.specs.View.{placed}
use Rattle.path_steps.proofs.Each.{each_next, each_stops}
use Rattle.arrival_claims.proofs.multiplying.claim_multiples.Goals as goal

pub loop-multiple-preserved : goal.loop-multiple-preserved
loop-multiple-preserved g c =
    let w = placed g.D.Domain c.args.placing.now in
    each_next (λ xs. claim_multiples w (map multiple xs)) (λ x. claim_multiple w (multiple x)) (λ x xs st go. refl) c.args.multiples.now c.loop-multiple.multiple-index c.multiple-item.result (followed c.args.path.now) (followed c.loop-multiple.path) c.loop-multiple.invariant c.loop-multiple-test.true c.multiple-item.is (c.loop-multiple.multiple-index + 1) (followed c.claim_multiple.new.path) (omega arith) c.in_ok-claim_multiple.ensures

pub returns-in_err-claim_multiple : goal.returns-in_err-claim_multiple
returns-in_err-claim_multiple g c =
    let w = placed g.D.Domain c.args.placing.now in
    let k = each_stops (λ xs. claim_multiples w (map multiple xs)) (λ x. claim_multiple w (multiple x)) (λ x xs st go. refl) c.args.multiples.now c.loop-multiple.multiple-index c.multiple-item.result (followed c.args.path.now) (followed c.loop-multiple.path) c.loop-multiple.invariant c.loop-multiple-test.true c.multiple-item.is c.in_err-claim_multiple.field-0.0 c.in_err-claim_multiple.ensures in
    handed c.from_residual.result c.in_err-claim_multiple.field-0.0 _ _ c.from_residual.ensures k
