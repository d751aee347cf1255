use Rattle.std.proofs.Common.{ap}
use Rattle.path_steps.specs.Paths.{Claimed}
use Rattle.two_thread.proofs.Nth.{claim_is}
use Rattle.two_thread.proofs.claims.is_needed.Goals as goal

pub returns : goal.returns
returns g c = ap (λ (a : Claimed). a.needed) (claim_is c.args.met.now c.args.i c.place_of_claim-place.result c.index-tagged.result.now c.index.result.now c.place_of_claim-place.ensures c.index-tagged.ensures c.index.ensures)
