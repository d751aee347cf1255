use Rattle.std.proofs.Common.{rules, ◌<◌, sym, ◌∙◌, subst, arith}
use Rattle.launch.specs.View.{launch}
use Rattle.machine.specs.Worlds.{items_of, setup}
use Rattle.machine.proofs.Blocks.{one_does_not, all_wait}
use Rattle.machine.proofs.world.World.may_go.Goals as goal

pub returns-then-not-is_alike : goal.returns-then-not-is_alike
returns-then-not-is_alike c =
    let w = c.args.self.now in
    let e = c.group_size-k-end.ensures.value (launch w.launch.now) in
    let l : c.loop-k.k < c.group_size-k-end.result = search rules in
    sym (one_does_not (setup w) (items_of w) c.args.group c.first_of-first.result c.loop-k.k c.first_of-first.ensures.value (subst (λ n. c.loop-k.k < n) e l) (sym c.is_alike.ensures ∙ c.if-not-is_alike.true))

pub returns : goal.returns
returns c =
    let w = c.args.self.now in
    let e = c.group_size-k-end.ensures.value (launch w.launch.now) in
    let q = c.loop-k-test.false in
    let m = c.loop-k.auto.k-end in
    sym (all_wait (setup w) (items_of w) c.args.group c.first_of-first.result c.first_of-first.ensures.value (λ k l.
    let lt : k < c.group_size-k-end.result = subst (λ n. k < n) (sym e) l in c.loop-k.invariant k (omega (arith, lt, q, m))))
