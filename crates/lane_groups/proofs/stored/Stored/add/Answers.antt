use Rattle.std.proofs.Common.{◌++◌, length, refl, arith}
use Rattle.lane_groups.specs.Owns.{own_in, last_at}
use Rattle.lane_groups.specs.Strips.{strip_at}
use Rattle.lane_groups.proofs.Order.{same_append}
use Rattle.lane_groups.proofs.Storing.{over_last}
use Rattle.lane_groups.proofs.stored.Stored.add.Goals as goal

pub returns-then-is_stored_over-clause-stores : goal.returns-then-is_stored_over-clause-stores
returns-then-is_stored_over-clause-stores c = λ k.
    let o = c.args.self.now in
    over_last (length o.own.items) k (own_in o.own.items k) (last_at o.last k) (strip_at c.args.strip k) (λ l. c.is_stored_over.ensures c.if-is_stored_over.true k (omega (arith, l, c.len.ensures))) (o.lanes k)

pub returns-clause-stores : goal.returns-clause-stores
returns-clause-stores c = λ k.
    let o = c.args.self.now in
    same_append (own_in c.settle.new.self.own.items k) (own_in o.own.items k ++ last_at o.last k) (strip_at c.args.strip k) (strip_at c.args.strip k) (c.in_ok-settle.ensures.stores k) refl
