use Rattle.std.proofs.Common.{◌<◌, ◌≤◌, ap, sym, ◌∙◌, subst, refl, cond}
use Rattle.semantics.specs.Solo.{opening}
use Rattle.launch.specs.View.{launch}
use Rattle.machine.specs.Worlds.{items_in, items_of, setup, world, is_among, past_barrier}
use Rattle.machine.proofs.Beginnings.{count_of}
use Rattle.machine.proofs.Blocks.{no_group, not_alike, release_answers, lets_go, released_proper}
use Rattle.machine.proofs.Levels.{released_keep}
use Rattle.machine.proofs.world.World.release.Goals as goal

pub returns-then-group-product_of-clause-answer : goal.returns-then-group-product_of-clause-answer
returns-then-group-product_of-clause-answer c =
    let w = c.args.self.now in
    (no_group (setup w) (world w) c.args.group (subst (λ n. n ≤ c.args.group) (c.product_of.ensures ∙ count_of (setup w)) c.if-group-product_of.true), refl)

pub may_go-requires-clause-group : goal.may_go-requires-clause-group
may_go-requires-clause-group c = subst (λ n. c.args.group < n) (c.product_of.ensures ∙ count_of (setup c.args.self.now)) c.if-group-product_of.false

pub returns-then-not-may_go-clause-answer : goal.returns-then-not-may_go-clause-answer
returns-then-not-may_go-clause-answer c =
    let w = c.args.self.now in
    (not_alike (setup w) (world w) c.args.group (sym c.may_go.ensures ∙ c.if-not-may_go.true), refl)

pub first_of-first-requires-clause-group : goal.first_of-first-requires-clause-group
first_of-first-requires-clause-group c = subst (λ n. c.args.group < n) (c.product_of.ensures ∙ count_of (setup c.args.self.now)) c.if-group-product_of.false

pub returns-clause-sound : goal.returns-clause-sound
returns-clause-sound c =
    let w = c.args.self.now in
    let s = setup w in
    let g = c.args.group in
    let sound = c.requires.sound in
    let e = c.group_size-count.ensures.value (launch w.launch.now) in
    let some = subst (λ n. 0 < n) e c.group_size-count.ensures.some in
    let may = sym c.may_go.ensures ∙ c.if-not-may_go.false in
    let is = lets_go s g c.first_of-first.result (world w) (items_in c.pass_all.new.all.items (opening s)) some c.first_of-first.ensures.value may (λ i.
    c.pass_all.ensures.passed (opening s) i ∙ ap (λ n. cond (is_among c.first_of-first.result n i) (past_barrier (items_of w i)) (items_of w i)) e) in record {
      proper = sound.proper;
      fits = sound.fits;
      count = c.pass_all.ensures.count ∙ sound.count;
      left = released_proper s g (world w) _ is sound.left;
      shape = sound.shape;
      epochs = released_keep s g (world w) _ some may is sound.epochs;
      watched = sound.watched;
    }

pub returns-clause-answer : goal.returns-clause-answer
returns-clause-answer c =
    let w = c.args.self.now in
    let s = setup w in
    let g = c.args.group in
    let e = c.group_size-count.ensures.value (launch w.launch.now) in
    let may = sym c.may_go.ensures ∙ c.if-not-may_go.false in
    release_answers s (world w) _ g (subst (λ n. g < n) (c.product_of.ensures ∙ count_of s) c.if-group-product_of.false) may
    (lets_go s g c.first_of-first.result (world w) (items_in c.pass_all.new.all.items (opening s)) (subst (λ n. 0 < n) e c.group_size-count.ensures.some) c.first_of-first.ensures.value may (λ i.
    c.pass_all.ensures.passed (opening s) i ∙ ap (λ n. cond (is_among c.first_of-first.result n i) (past_barrier (items_of w i)) (items_of w i)) e))
