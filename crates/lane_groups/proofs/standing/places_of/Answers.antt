use Rattle.std.proofs.Common.{◌<◌, ◌+◌, ◌∙◌, ap, subst, length}
use Rattle.core_code.specs.View.{kernel}
use Rattle.launch.specs.View.{launch}
use Rattle.semantics.specs.Setup.{group_size}
use Rattle.lane_groups.specs.Groups.{setup}
use Rattle.lane_groups.proofs.Operated.{count_more}
use Rattle.lane_groups.proofs.Standings.{places_more}
use Rattle.lane_groups.proofs.standing.places_of.Goals as goal

pub loop-lane-preserved : goal.loop-lane-preserved
loop-lane-preserved c =
    let s = setup c.args.group.now in
    let g = c.args.group.now.number in
    let n = c.loop-lane.lane in
    let ps = c.loop-lane.places.items in
    let p = c.place_of.result in
    let e = c.in_ok-push.ensures.items in
    let l : n < group_size s = subst (λ m. n < m) (c.group_size-count.ensures.value (launch c.args.group.now.launch.now)) c.loop-lane-test.true in (
      ap length e ∙ count_more ps p ∙ ap (λ m. m + 1) c.loop-lane.invariant.0,
      places_more (kernel c.args.group.now.core.now).sizes ps c.push.new.self.items p n e c.loop-lane.invariant.0
          (c.place_of.ensures s g n l c.in_ok-who.ensures) c.loop-lane.invariant.1,
    )
