use Rattle.std.proofs.Common.{map}
use Rattle.facts.proofs.Unmade.{passed}
use Rattle.path_steps.specs.View.{choice}
use Rattle.places.specs.View.{place}
use Rattle.arrival_claims.specs.View.{placed}
use Rattle.walk.specs.Planting.{planted_at}
use Rattle.walk.specs.Walks.{IsCut}
use Rattle.walk.proofs.OnePath.{found_of, cut_of, on_ok, unrooted_at, known_fit, same_found}
use Rattle.walk.proofs.following.follow.Goals as goal

pub returns-in_err-path-clause-cut : goal.returns-in_err-path-clause-cut
returns-in_err-path-clause-cut g c =
    let w = c.args.placing.now in
    let at = place c.args.place.now in
    let cs = map choice c.args.given.items in
    let e = c.in_err-path.field-0.0 in
    passed c.from_residual.result e (IsCut (planted_at g.D.Domain (placed g.D.Domain w) c.args.claims at) cs) c.from_residual.ensures.1
    (unrooted_at g.D.Domain w c.args.claims at cs e c.in_err-path.ensures)

pub returns-clause-found : goal.returns-clause-found
returns-clause-found g c =
    let d = same_found g.D.Domain c.args.placing.now c.args.claims (place c.args.place.now) c.in_ok-path.path (map choice c.args.given.items) c.in_ok-path.ensures in
    found_of c.walk_place.result _ _ _ d c.walk_place.ensures

pub returns-clause-known : goal.returns-clause-known
returns-clause-known g c =
    on_ok c.walk_place.result _ (known_fit g.D.Domain c.args.placing.now c.args.claims (place c.args.place.now) c.in_ok-path.path (map choice c.args.given.items) c.in_ok-path.ensures)

pub returns-clause-cut : goal.returns-clause-cut
returns-clause-cut g c =
    let w = c.args.placing.now in
    let at = place c.args.place.now in
    let cs = map choice c.args.given.items in
    let q = planted_at g.D.Domain (placed g.D.Domain w) c.args.claims at in
    let d = same_found g.D.Domain w c.args.claims at c.in_ok-path.path cs c.in_ok-path.ensures in
    cut_of c.walk_place.result q cs _ _ d c.walk_place.ensures
