use Rattle.std.proofs.Common.{sym, map, None}
use Rattle.work_item.specs.Asks.{cell}
use Rattle.lane_groups.specs.Stores.{store}
use Rattle.lane_groups.proofs.Distinct.{stays}
use Rattle.lane_groups.proofs.Placed.{read_place}
use Rattle.lane_groups.proofs.own.Own.last.Goals as goal

pub returns-in-Some : goal.returns-in-Some
returns-in-Some c = read_place store c.args.self.now.stores.items c.in-Some.place c.index.result.now (cell c.args.at) c.index.ensures c.in-Some.ensures c.args.self.now.distinct

pub returns-in-None : goal.returns-in-None
returns-in-None c = sym (stays (map store c.args.self.now.stores.items) (cell c.args.at) None c.in-None.ensures)
