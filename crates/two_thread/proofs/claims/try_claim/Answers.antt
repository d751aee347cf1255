use Rattle.std.proofs.Common.{◌≡◌, ap, subst, true, MatchResult}
use Rattle.path_steps.specs.Paths.{Claimed}
use Rattle.walk_trees.specs.Fitting.{denials_fit}
use Rattle.two_thread.specs.Refusals.{DoNotFit}
use Rattle.two_thread.proofs.Nth.{claim_is}
use Rattle.two_thread.proofs.claims.try_claim.Goals as goal

pub returns : goal.returns
returns g c =
    let e = ap (λ (a : Claimed). a.goal) (claim_is c.args.met.now c.args.i c.place_of_claim-place.result c.index-tagged.result.now c.index-claim.result.now c.place_of_claim-place.ensures c.index-tagged.ensures c.index-claim.ensures) in
    subst (λ x. MatchResult c.try_goal.result (λ r. denials_fit x ≡ true) (DoNotFit (denials_fit x))) e c.try_goal.ensures
