use Rattle.std.proofs.Common.{rules, ◌≤◌}
use Rattle.places.specs.View.{place}
use Rattle.arrival_claims.specs.View.{placed}
use Rattle.walk.specs.Planting.{planted_at}
use Rattle.walk.proofs.OnePlace.{starts, all_of, counts_all}
use Rattle.walk.proofs.paths.walk_paths.Goals as goal

pub loop-next-init : goal.loop-next-init
loop-next-init g c =
    starts (planted_at g.D.Domain (placed g.D.Domain c.args.placing.now) c.args.claims (place c.args.place.now)) c.args.claims c.new.result.items c.new-2.result.items c.new.ensures.items c.new-2.ensures.items

pub returns-clause-walked : goal.returns-clause-walked
returns-clause-walked g c =
    let l = c.loop-next in
    let few : l.so_far.ends ≤ 256 = search rules in
    all_of (planted_at g.D.Domain (placed g.D.Domain c.args.placing.now) c.args.claims (place c.args.place.now)) l.so_far.paths.items l.so_far.ends l.so_far.count l.next c.in_default.is l.invariant few

pub returns-clause-after : goal.returns-clause-after
returns-clause-after g c =
    let l = c.loop-next in
    counts_all (planted_at g.D.Domain (placed g.D.Domain c.args.placing.now) c.args.claims (place c.args.place.now)) l.so_far.paths.items l.so_far.ends l.so_far.count l.next c.in_default.is l.invariant
