use Rattle.std.proofs.Common.{◌<◌, ◌/◌, ◌%◌, ap, sym, ◌∙◌, subst}
use Rattle.semantics.specs.Launch.{product}
use Rattle.semantics.specs.Setup as setup
use Rattle.core_code.specs.View.{kernel}
use Rattle.launch.specs.View.{launch}
use Rattle.work_item.specs.View.{setup_of}
use Rattle.work_item.proofs.Identities.{group_place, local_place}
use Rattle.work_item.proofs.identity.identity.Goals as goal

pub place-of_group-requires : goal.place-of_group-requires
place-of_group-requires c =
    group_place (setup_of c.args.core.now c.args.launch.now) c.args.number c.group_size-size.result (c.group_size-size.ensures.value (launch c.args.launch.now)) c.requires.number

pub place-local-requires : goal.place-local-requires
place-local-requires c =
    subst (λ t. c.args.number % c.group_size-size.result < product t) (sym c.sizes_of-sizes.ensures)
    (local_place (setup_of c.args.core.now c.args.launch.now) c.args.number c.group_size-size.result (c.group_size-size.ensures.value (launch c.args.launch.now)) c.requires.number)

pub returns-clause-item : goal.returns-clause-item
returns-clause-item c =
    let s = setup_of c.args.core.now c.args.launch.now in
    let i = c.args.number in
    let e = c.group_size-size.ensures.value (launch c.args.launch.now) in
    c.item_at.ensures.item i (ap (λ n. i / n) e)
    (c.place-of_group.ensures.place ∙ ap (λ n. setup.place (launch c.args.launch.now).groups (i / n)) e)
    (c.place-local.ensures.place ∙ ap (λ t. setup.place t (i % c.group_size-size.result)) c.sizes_of-sizes.ensures ∙ ap (λ n. setup.place (kernel c.args.core.now).sizes (i % n)) e)
