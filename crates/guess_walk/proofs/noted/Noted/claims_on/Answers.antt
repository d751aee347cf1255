use Rattle.guess_walk.proofs.noted.Noted.claims_on.Goals as goal

pub find_claims-requires-clause-walkable : goal.find_claims-requires-clause-walkable
find_claims-requires-clause-walkable g c κs within = let w = c.in_ok-terrain.ensures.whole in (w.sizes, w.own)
