use Rattle.walk_trees.specs.Statements.{spot_of}
use Rattle.path_steps.specs.View.{followed}
use Rattle.arrival_claims.specs.View.{placed}
use Rattle.arrival_claims.specs.Claims.{claim_entered}
use Rattle.arrival_claims.proofs.Rankings.{stood_does}
use Rattle.arrival_claims.proofs.ranking.enter.Goals as goal

pub returns : goal.returns
returns g c =
    let w = placed g.D.Domain c.args.placing.now in
    let n = c.args.number in
    let l = followed c.args.path.now in
    stood_does (claim_entered w n) (spot_of n) l (followed c.stand_before.new.path) (followed c.claim_entered.new.path) c.claim_entered.result c.stand_before.ensures c.claim_entered.ensures
