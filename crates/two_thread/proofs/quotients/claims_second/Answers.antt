use Rattle.std.proofs.Common.{ap, Some, ◌∙◌}
use Rattle.path_steps.specs.Paths.{Claimed}
use Rattle.two_thread.specs.Quotients.{is_second_claim}
use Rattle.two_thread.proofs.Nth.{claim_is}
use Rattle.two_thread.proofs.quotients.claims_second.Goals as goal

pub returns : goal.returns
returns g c =
    c.is_second.ensures
    ∙ ap (λ (a : Claimed). is_second_claim (Some a.goal)) (claim_is c.args.met.now c.args.i c.place_of_claim-place.result c.index-tagged.result.now c.index-claim.result.now c.place_of_claim-place.ensures c.index-tagged.ensures c.index-claim.ensures)
