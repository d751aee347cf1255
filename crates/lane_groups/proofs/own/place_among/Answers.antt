use Rattle.std.proofs.Common.{sym}
use Rattle.work_item.specs.Asks.{cell}
use Rattle.lane_groups.specs.Stores.{store}
use Rattle.lane_groups.proofs.Placed.{new_more}
use Rattle.lane_groups.proofs.own.place_among.Goals as goal

pub loop-place-preserved : goal.loop-place-preserved
loop-place-preserved c = new_more store c.args.stores.now c.loop-place.place _ (cell c.args.at) c.loop-place-test.true (sym c.if-same_cell.ensures) c.loop-place.invariant
