use Rattle.std.proofs.Common.{ap, sym, ◌∙◌}
use Rattle.std.proofs.lemmas.List.{get_or-map}
use Rattle.semantics.specs.Item.{Item}
use Rattle.semantics.specs.Solo.{opening}
use Rattle.work_item.specs.Proper.{is_proper_left}
use Rattle.work_item.specs.Items.{item}
use Rattle.machine.specs.Worlds.{setup}
use Rattle.explaining.proofs.index.item_at.Goals as goal

pub returns : goal.returns
returns c =
    let w = c.args.world.now in
    let i = c.args.number in
    let e = ap item c.index.ensures ∙ sym (get_or-map item w.items.items i c.index.result.now (opening (setup w) i) c.requires.number) in
    ap (λ (it : Item). is_proper_left it.left) e ∙ c.requires.sound.left i
