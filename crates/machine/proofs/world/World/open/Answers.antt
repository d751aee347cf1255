use Rattle.std.proofs.Common.{◌≡◌, ◌*◌, true, ap, sym, ◌∙◌, subst}
use Rattle.semantics.specs.Launch.{Fits}
use Rattle.semantics.specs.Setup.{group_count}
use Rattle.semantics.specs.World.{opening_world}
use Rattle.core_code.specs.View.{kernel}
use Rattle.launch.specs.View.{launch}
use Rattle.work_item.specs.Proper.{is_proper}
use Rattle.work_item.specs.View.{setup_of}
use Rattle.machine.proofs.Moves.{body_of}
use Rattle.machine.proofs.Beginnings.{count_of, opens_world, opens_count, opens_proper_left}
use Rattle.machine.proofs.Levels.{opening_keeps}
use Rattle.machine.proofs.world.World.open.Goals as goal

pub open-requires : goal.open-requires
open-requires c = c.product_of-groups.ensures ∙ count_of (setup_of c.core-core.result.now c.args.launch.now)

pub returns-clause-world : goal.returns-clause-world
returns-clause-world c =
    let s = setup_of c.core-core.result.now c.args.launch.now in
    opens_world s c.in_ok-open_items.field-0.items c.in_ok-count.count _ _ c.in_ok-open.ensures.memory c.in_ok-open_items.ensures c.new.ensures.empty
    ∙ ap (λ k. opening_world (setup_of k c.args.launch.now)) c.core-core.ensures.value

pub returns-clause-sound : goal.returns-clause-sound
returns-clause-sound c =
    let k = c.core-core.result.now in
    let s = setup_of k c.args.launch.now in
    let proper : is_proper (kernel k) ≡ true = subst (λ x. is_proper (kernel x) ≡ true) (sym c.core-core.ensures.value) c.requires.proper in
    record {
      proper = proper;
      fits = subst (λ x. Fits (kernel x) (launch c.args.launch.now)) (sym c.core-core.ensures.value) c.requires.fits;
      count = opens_count s c.in_ok-open_items.field-0.items c.in_ok-count.count c.in_ok-open_items.ensures
          ∙ c.in_ok-count.ensures ∙ ap (λ n. n * c.group_size.result) (c.product_of-groups.ensures ∙ count_of s) ∙ ap (λ n. group_count s * n) (c.group_size.ensures.value (launch c.args.launch.now));
      left = opens_proper_left s c.in_ok-open_items.field-0.items c.in_ok-count.count (body_of (kernel k) proper) c.in_ok-open_items.ensures;
      shape = c.in_ok-open.ensures.shape;
      epochs = opening_keeps s _ (opens_world s c.in_ok-open_items.field-0.items c.in_ok-count.count _ _ c.in_ok-open.ensures.memory c.in_ok-open_items.ensures c.new.ensures.empty);
      watched = c.new.ensures.watched s;
    }
