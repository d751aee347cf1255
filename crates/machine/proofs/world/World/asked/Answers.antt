use Rattle.std.proofs.Common.{◌<◌, ap, sym, ◌∙◌, subst}
use Rattle.std.proofs.lemmas.List.{get_or-map}
use Rattle.semantics.specs.Ask.{ask}
use Rattle.semantics.specs.Item.{Item}
use Rattle.semantics.specs.Solo.{opening}
use Rattle.core_code.specs.View.{kernel}
use Rattle.launch.specs.View.{launch}
use Rattle.work_item.specs.Proper.{is_proper_left}
use Rattle.work_item.specs.View.{setup_of}
use Rattle.work_item.specs.Items.{item}
use Rattle.work_item.specs.Asks.{asked}
use Rattle.machine.specs.Worlds.{items_of, setup}
use Rattle.machine.proofs.Moves.{sizes_of, few_of}
use Rattle.machine.proofs.Insides.{stores_inside}
use Rattle.machine.proofs.world.World.asked.Goals as goal

pub identity-requires-clause-sizes : goal.identity-requires-clause-sizes
identity-requires-clause-sizes c = sizes_of (kernel c.args.self.now.core.now) c.requires.sound.proper

pub identity-requires-clause-counts : goal.identity-requires-clause-counts
identity-requires-clause-counts c = few_of (kernel c.args.self.now.core.now) (launch c.args.self.now.launch.now) c.requires.sound.fits

pub identity-requires-clause-number : goal.identity-requires-clause-number
identity-requires-clause-number c = subst (λ n. c.args.number < n) c.requires.sound.count c.requires.number

pub ask-requires : goal.ask-requires
ask-requires c =
    let w = c.args.self.now in
    let i = c.args.number in
    let e = ap item c.index.ensures ∙ sym (get_or-map item w.items.items i c.index.result.now (opening (setup w) i) c.requires.number) in
    ap (λ (it : Item). is_proper_left it.left) e ∙ c.requires.sound.left i

pub returns-clause-asked : goal.returns-clause-asked
returns-clause-asked c =
    let w = c.args.self.now in
    let i = c.args.number in
    let e = ap item c.index.ensures ∙ sym (get_or-map item w.items.items i c.index.result.now (opening (setup w) i) c.requires.number) in
    let d = c.identity.result in
    ap (asked c.ask.result) (sym e) ∙ c.ask.ensures i c.identity.ensures.item
    ∙ ap (λ x. ask (setup_of x d.launch.now) i (item c.index.result.now)) c.identity.ensures.core
    ∙ ap (λ y. ask (setup_of w.core.now y) i (item c.index.result.now)) c.identity.ensures.launch
    ∙ ap (ask (setup w) i) e

pub returns-clause-inside : goal.returns-clause-inside
returns-clause-inside c =
    let w = c.args.self.now in
    stores_inside (setup w) w.memory c.args.number c.ask.result (items_of w c.args.number) c.requires.sound.shape (subst (λ n. c.args.number < n) c.requires.sound.count c.requires.number) (returns-clause-asked c)
