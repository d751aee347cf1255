use Rattle.two_thread.proofs.Nth.{is_claim_place}
use Rattle.two_thread.proofs.claims.place_of_claim.Goals as goal

pub returns : goal.returns
returns g c = is_claim_place c.args.met.now c.args.i c.index.result.now c.requires c.index.ensures
