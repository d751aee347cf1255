use Rattle.std.proofs.Common.{◌<◌, ◌≤◌, ◌+◌, ◌∙◌, subst, arith, length}
use Rattle.semantics.specs.Setup.{group_size}
use Rattle.launch.specs.View.{launch}
use Rattle.machine.specs.Worlds.{setup, world, items_of}
use Rattle.machine.specs.Divergences.{AreTogether, AreFirst}
use Rattle.machine.proofs.Beginnings.{count_of}
use Rattle.machine.proofs.Apart.{group_more, undivided, first_of_all}
use Rattle.machine.proofs.world.World.divergence.Goals as goal

pub first_of-requires-clause-group : goal.first_of-requires-clause-group
first_of-requires-clause-group c = subst (λ n. c.loop-group.group < n) (c.product_of-group-end.ensures ∙ count_of (setup c.args.self.now)) c.loop-group-test.true

pub returns-in-Some : goal.returns-in-Some
returns-in-Some c =
    let w = c.args.self.now in
    let s = setup w in
    let e = c.group_size-count.ensures.value (launch w.launch.now) in
    let f = subst (λ n. AreFirst (items_of w) c.first_of.result n c.in-Some.found.0 c.in-Some.found.1) e c.in-Some.ensures in
    first_of_all s (world w) c.loop-group.group (length w.items.items) c.in-Some.found.0 c.in-Some.found.1 (subst (λ n. 0 < n) e c.group_size-count.ensures.some) c.requires.count
    (subst (λ n. n + group_size s ≤ length w.items.items) c.first_of.ensures.value c.first_of.ensures.within)
    (subst (λ n. AreFirst (items_of w) n (group_size s) c.in-Some.found.0 c.in-Some.found.1) c.first_of.ensures.value f) c.loop-group.invariant

pub loop-group-preserved : goal.loop-group-preserved
loop-group-preserved c =
    let w = c.args.self.now in
    let s = setup w in
    let e = c.group_size-count.ensures.value (launch w.launch.now) in
    let f = subst (λ n. AreTogether (items_of w) c.first_of.result n) e c.in_default.ensures in
    group_more s (world w) c.loop-group.group (subst (λ n. 0 < n) e c.group_size-count.ensures.some) (subst (λ n. AreTogether (items_of w) n (group_size s)) c.first_of.ensures.value f) c.loop-group.invariant

pub returns : goal.returns
returns c =
    let w = c.args.self.now in
    let s = setup w in
    let q = c.loop-group-test.false in
    let m = c.loop-group.auto.group-end in
    let e = c.product_of-group-end.ensures ∙ count_of s in
    undivided s (world w) c.loop-group.group (omega (arith, q, m, e)) c.loop-group.invariant
