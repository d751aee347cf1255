use Rattle.facts.proofs.Unmade.{handed}
use Rattle.path_steps.specs.View.{followed, stop, turns}
use Rattle.arrival_claims.specs.View.{placed}
use Rattle.arrival_claims.proofs.Arrivals.{arrives, arrival_stops}
use Rattle.arrival_claims.proofs.arriving.arrive_at.Goals as goal

pub returns : goal.returns
returns g c = arrives (placed g.D.Domain c.args.placing.now) c.args.anchor c.args.head (stop c.args.stop) (turns c.args.turns) (followed c.args.path.now) c.has_slots.result c.has_slots.ensures c.if-not-has_slots.false (followed c.claim_lines.new.path) (followed c.arrive.new.self).found c.in_ok-claim_lines.ensures c.in_ok-arrive.ensures

pub returns-in_err-claim_lines : goal.returns-in_err-claim_lines
returns-in_err-claim_lines g c =
    let k = arrival_stops (placed g.D.Domain c.args.placing.now) c.args.anchor c.args.head (stop c.args.stop) (turns c.args.turns) (followed c.args.path.now) c.has_slots.result c.has_slots.ensures c.if-not-has_slots.false c.in_err-claim_lines.field-0.0 c.in_err-claim_lines.ensures in
    handed c.from_residual.result c.in_err-claim_lines.field-0.0 _ _ c.from_residual.ensures k
