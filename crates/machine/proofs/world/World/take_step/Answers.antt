use Rattle.std.proofs.Common.{◌<◌, ◌∙◌, ap, sym, subst}
use Rattle.semantics.specs.World.{noted}
use Rattle.work_item.specs.Asks.{asked}
use Rattle.semantics.specs.Solo.{opening, touch}
use Rattle.launch.specs.View.{launch}
use Rattle.clashes.specs.Watched.{accesses, AreNext}
use Rattle.machine.specs.Worlds.{items_in, items_of, setup, world}
use Rattle.machine.proofs.Steps.{put_proper}
use Rattle.machine.proofs.Levels.{steps_keep, next_of}
use Rattle.machine.proofs.world.World.take_step.Goals as goal

pub returns-clause-sound : goal.returns-clause-sound
returns-clause-sound c =
    let old = c.args.self.now in
    let s = setup old in
    let sound = c.requires.sound in
    let i = c.args.number in
    let below = subst (λ n. i < n) sound.count c.requires.number in
    let next = next_of s (world old) i (asked c.args.asked (items_of old i)) c.touches-access.result sound.epochs below c.touches-access.ensures in record {
      proper = sound.proper;
      fits = sound.fits;
      count = c.perform.ensures.count ∙ sound.count;
      left = put_proper (setup old) c.args.number (items_of old) (items_in c.perform.new.all.items (opening (setup old))) _ _ c.requires.asked sound.left (c.in_ok-perform.ensures.done (opening (setup old)));
      shape = c.remember.ensures.shape (setup old) sound.shape;
      epochs = steps_keep s (world old) _ i c.args.asked _ below c.requires.goes sound.epochs (c.in_ok-perform.ensures.done (opening s)) (c.note.ensures.noted ∙ ap (λ o. noted o (accesses c.reserve.new.self)) c.touches-access.ensures ∙ ap (noted (touch i (items_of old i) (asked c.args.asked (items_of old i)))) c.in_ok-reserve.ensures.same);
      watched = c.note.ensures.watched s (sym (c.group_size.ensures.value (launch old.launch.now))) (c.in_ok-reserve.ensures.watched s sound.watched) (subst (λ h. AreNext s h c.touches-access.result) (sym c.in_ok-reserve.ensures.same) next);
    }
