use Rattle.std.specs.Prelude.{true, false}
use Rattle.walk_trees.specs.Statements.{spot_of}
use Rattle.path_steps.specs.View.{followed}
use Rattle.arrival_claims.specs.View.{placed}
use Rattle.arrival_claims.specs.Claims.{claim_opened, claim_fallen}
use Rattle.arrival_claims.proofs.Rankings.{stood_does, at_test}
use Rattle.arrival_claims.proofs.ranking.arrive.Goals as goal

pub returns-then-again : goal.returns-then-again
returns-then-again g c =
    let w = placed g.D.Domain c.args.placing.now in
    let n = c.args.number in
    let l = followed c.args.path.now in
    at_test w n true c.args.again l (followed c.claim_fallen.new.path) c.claim_fallen.result c.if-again.true (stood_does (claim_fallen w n) (spot_of n) l (followed c.stand_before.new.path) (followed c.claim_fallen.new.path) c.claim_fallen.result c.stand_before.ensures c.claim_fallen.ensures)

pub returns-else-again : goal.returns-else-again
returns-else-again g c =
    let w = placed g.D.Domain c.args.placing.now in
    let n = c.args.number in
    let l = followed c.args.path.now in
    at_test w n false c.args.again l (followed c.claim_opened.new.path) c.claim_opened.result c.if-again.false (stood_does (claim_opened w n) (spot_of n) l (followed c.stand_before.new.path) (followed c.claim_opened.new.path) c.claim_opened.result c.stand_before.ensures c.claim_opened.ensures)
