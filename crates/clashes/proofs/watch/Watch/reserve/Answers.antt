use Rattle.std.proofs.Common.{rules, subst, Some}
use Rattle.std.specs.HashMap.{Updates}
use Rattle.work_item.specs.Asks.{cell}
use Rattle.clashes.specs.Marks.{nothing}
use Rattle.clashes.specs.Elements.{same_key}
use Rattle.clashes.proofs.Keys.{room_seen}
use Rattle.clashes.proofs.watch.Watch.reserve.Goals as goal

pub returns-in_ok-insert-clause-seen : goal.returns-in_ok-insert-clause-seen
returns-in_ok-insert-clause-seen c = λ d.
    let old = c.args.self.now in
    room_seen old (record { seen = c.insert.new.self; first = old.first }) (cell c.args.at) d (search rules)
    (subst (λ k. Updates same_key old.seen c.insert.new.self k (Some nothing)) c.element-element.ensures
    (subst (λ x. Updates same_key old.seen c.insert.new.self c.element-element.result (Some x)) c.nothing.ensures c.in_ok-insert.ensures.updates))
