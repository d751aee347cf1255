use Rattle.std.proofs.Common.{◌≡◌, subst, Some, None}
use Rattle.std.specs.Prelude.{OnOk, OnErr}
use Rattle.std.specs.HashMap.{get, Updates}
use Rattle.work_item.specs.Asks.{cell}
use Rattle.clashes.specs.Elements.{same_key}
use Rattle.clashes.proofs.Keys.{put_seen}
use Rattle.clashes.proofs.watch.Watch.put.Goals as goal

pub returns-clause-seen : goal.returns-clause-seen
returns-clause-seen c = λ d.
    let old = c.args.self.now in
    let r = c.insert-old.result in
    put_seen r old (record { seen = c.insert-old.new.self; first = old.first }) (cell c.args.at) d c.args.seen c.requires
    (subst (λ k. OnOk r (Updates same_key old.seen c.insert-old.new.self k (Some c.args.seen))) c.element.ensures c.insert-old.ensures.updates)
    (subst (λ k. OnErr r (get same_key old.seen k ≡ None)) c.element.ensures c.insert-old.ensures.absent)
