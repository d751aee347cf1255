use Rattle.std.proofs.Common.{map, take, subst}
use Rattle.work_item.specs.Asks.{cell}
use Rattle.lane_groups.specs.Stores.{store, IsPlace}
use Rattle.lane_groups.proofs.Placed.{place_among_all}
use Rattle.lane_groups.proofs.own.Own.place_of.Goals as goal

pub returns-in-Some : goal.returns-in-Some
returns-in-Some c =
    let a = cell c.args.at in
    place_among_all store 16 c.args.self.now.stores.items c.in-Some.place a (subst (λ xs. IsPlace (map store (take 16 xs)) c.in-Some.place a) c.as_slice-2.ensures.value c.in-Some.ensures)
