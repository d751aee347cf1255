use Rattle.std.proofs.Common.{◌≡◌, true, map, take}
use Rattle.work_item.specs.Asks.{cell}
use Rattle.lane_groups.specs.Stores.{store, is_new}
use Rattle.lane_groups.proofs.own.place_among.Given as goal

abbrev pub invariant-loop-place : goal.invariant-loop-place
invariant-loop-place l = is_new (map store (take l.place l.stores)) (cell l.at) ≡ true
