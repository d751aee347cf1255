use Rattle.std.proofs.Common.{◌≡◌, length, rules, ap, ◌∙◌, arith}
use Rattle.types.specs.Scope.{empty_scope}
use Rattle.syntax.specs.View.{kernel as tree_of}
use Rattle.types.specs.Names.{devices, scope_seen, all_seen}
use Rattle.types.proofs.Kernels.{kernel-done, kinds-behind}
use Rattle.types.proofs.Rooms.{parameters-grown}
use Rattle.types.proofs.elaboration.elaborate_inside.Goals as goal

pub returns : goal.returns
returns c =
    let p = rw (c.new.ensures.empty, c.new-2.ensures.items, c.new-3.ensures.items, c.new-4.ensures.items, c.deref.ensures.value) at c.in_ok-declare_parameters.ensures in
    let q = rw (c.new-body.ensures.items, c.deref-4.ensures.value) at c.in_ok-elaborate_all.ensures in
    let outer = c.declare_parameters.new.self in
    let inner = c.elaborate_all.new in
    let n : c.len.result ≡ length c.in_ok-arguments.arguments.items = search rules in
    let k = kernel-done (devices c.args.devices) (tree_of c.args.tree.now) (scope_seen outer) (all_seen inner.out.items inner.scope) p q in
    let v = kinds-behind outer.slots.items inner.scope.slots.items c.len.result (n ∙ ap length (c.in_ok-arguments.ensures.items ∙ c.deref-3.ensures.value)) in
    rw (c.in_ok-buffers.ensures.items, c.deref-2.ensures.value, c.in_ok-arguments.ensures.items, c.deref-3.ensures.value, c.in_ok-variables.ensures.items, c.behind.ensures, c.deref-5.ensures.value, v) k

pub elaborate_all-requires : goal.elaborate_all-requires
elaborate_all-requires c =
    let k = tree_of c.args.tree.now in
    let p = rw (c.new.ensures.empty, c.new-2.ensures.items, c.new-3.ensures.items, c.new-4.ensures.items, c.deref.ensures.value) at c.in_ok-declare_parameters.ensures in
    let g = parameters-grown (empty_scope (devices c.args.devices)) k.parameters (scope_seen c.declare_parameters.new.self) p in
    rw c.deref-4.ensures.value (omega (arith, c.requires, g))
