use Rattle.lane_groups.specs.Stores.{store}
use Rattle.lane_groups.proofs.Placed.{put_leaves, put_distinct, put_new}
use Rattle.lane_groups.proofs.own.Own.push.Goals as goal

pub invariant_of-self : goal.invariant_of-self
invariant_of-self c =
    let o = c.args.self.now in
    let p = c.in-Some.place in record {
      distinct = put_distinct store o.stores.items p c.args.store c.in-Some.ensures o.distinct;
      found = λ e d k. put_new store 16 o.stores.items p c.args.store d c.in-Some.ensures (o.found e d k);
    }

pub returns-in-Some : goal.returns-in-Some
returns-in-Some c = put_leaves store c.args.self.now.stores.items c.in-Some.place c.args.store c.in-Some.ensures c.args.self.now.distinct
