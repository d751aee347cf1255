use Rattle.lane_groups.specs.Earlier.{kept}
use Rattle.lane_groups.specs.Rounds.{stores_of}
use Rattle.lane_groups.proofs.Order.{lane_more}
use Rattle.lane_groups.proofs.stored.Stored.keep_lanes.Goals as goal

pub loop-lane-preserved : goal.loop-lane-preserved
loop-lane-preserved c = λ at.
    lane_more (stores_of c.args.self.now) c.loop-lane.lane at (kept c.args.overlay.now at) (kept c.loop-lane.overlay at) (kept c.keep_lane.new.overlay at) (c.in_ok-keep_lane.ensures at) (c.loop-lane.invariant at)
