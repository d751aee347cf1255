use Rattle.std.proofs.Common.{arith, ◌≤◌, length}
use Rattle.std.specs.Prelude.{pos}
use Rattle.std.specs.Result.{is_ok}
use Rattle.lane_groups.specs.Overlays.{kept}
use Rattle.lane_groups.specs.Stores.{store}
use Rattle.lane_groups.proofs.Placed.{add_distinct, add_distinct_either, add_new, add_among_either, both_ways}
use Rattle.lane_groups.proofs.own.Own.add.Goals as goal
use Rattle.lane_groups.proofs.own.Own.add.Goals.{else-self-via-then-self+else-len-ge16, else-self-via-else-self}

pub invariant_of-self-then-len-ge16 : goal.invariant_of-self-then-len-ge16
invariant_of-self-then-len-ge16 c =
    let o = c.args.self.now in
    let xs = o.stores.items in
    let l : 16 ≤ length xs = omega (arith, c.if-len-ge16.true, c.len.ensures) in record {
      distinct = add_distinct store xs c.push.new.self.items c.args.store c.in_ok-push.ensures.items o.distinct c.requires;
      found = λ _. add_new store 16 xs c.push.new.self.items c.args.store (pos c.unwrap_or-place.result) (kept o.places) (kept c.note.new.self) l c.in_ok-push.ensures.items (o.found c.if-self.true) c.in_ok-note.ensures;
    }

pub invariant_of-self-2 : goal.invariant_of-self-2
invariant_of-self-2 c =
    let o = c.args.self.now in
    let xs = o.stores.items in
    let ys = c.push-2.new.self.items in
    let b = is_ok c.push-2.result in record {
      distinct = add_distinct_either store b xs ys c.args.store c.push-2.ensures.items o.distinct c.requires;
      found = λ e d _. elim c.else-self.branch [
        | else-self-via-then-self+else-len-ge16 w ↦ add_among_either store b 16 xs ys c.args.store d (omega (arith, w.if-len-ge16.false, w.len.ensures)) c.push-2.ensures.items
        | else-self-via-else-self w ↦ absurd (both_ways o.is_found e w.if-self.false)
      ];
    }
