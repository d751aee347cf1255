use Rattle.std.proofs.Common.{rules, ◌<◌, ◌+◌, ap, sym, ◌∙◌, subst, length}
use Rattle.std.proofs.lemmas.List.{get_or-map}
use Rattle.work_item.specs.Items.{item, HasEpochs}
use Rattle.machine.specs.Worlds.{items_in}
use Rattle.machine.proofs.Blocks.{up_to}
use Rattle.machine.proofs.world.World.have_epochs.Goals as goal

pub loop-k-preserved : goal.loop-k-preserved
loop-k-preserved c = λ past.
    let xs = c.args.self.now.items.items in
    let i = c.args.first + c.loop-k.k in
    let l : i < length xs = search rules in
    let e = ap item c.index.ensures ∙ sym (get_or-map item xs i c.index.result.now (past i) l) in
    up_to (λ j. HasEpochs (items_in xs past j)) c.args.first c.loop-k.k (c.loop-k.invariant past) (subst HasEpochs e (c.can_pass.ensures.0 c.if-not-can_pass.false))
