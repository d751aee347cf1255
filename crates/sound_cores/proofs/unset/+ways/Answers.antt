use Rattle.std.proofs.Common.{ap, ◌∙◌, ◌≡◌, ◌&&◌}
use Rattle.core_code.specs.View.{statement}
use Rattle.core_code.proofs.Rows.{seen_if, seen_loop}
use Rattle.sound_cores.specs.Unset.{Ways, all_ways}
use Rattle.core_code.specs.View.{statements}
use Rattle.sound_cores.proofs.Ways.{either-same, turns-same}
use Rattle.sound_cores.proofs.unset.+ways.Goals as goal

pub ways_of-returns-in-If : goal.ways_of-returns-in-If
ways_of-returns-in-If t c =
    let e = ap statement c.in-If.is ∙ seen_if c.in-If.number c.in-If.test c.in-If.taken c.in-If.skipped in
    let h = rw c.reads-in-If.ensures at c.unset_at-test.ensures in
    let j = rw c.as_slice.ensures.value at c.all_ways-taken.ensures in
    let k = rw c.as_slice-in-If.ensures.value at c.all_ways-skipped.ensures in
    rw e (c.either.ensures ∙ either-same h j k)

pub ways_of-returns-in-Loop : goal.ways_of-returns-in-Loop
ways_of-returns-in-Loop t c =
    let e = ap statement c.in-Loop.is ∙ seen_loop c.in-Loop.number c.in-Loop.test c.in-Loop.body c.in-Loop.update in
    let h = rw c.reads-in-Loop.ensures at c.unset_at-test-in-Loop.ensures in
    let j = rw c.as_slice-in-Loop.ensures.value at c.all_ways-body.ensures in
    let m : c.both.result ≡ ((all_ways c.args.slot c.args.set (statements c.in-Loop.body.items)).after && (all_ways c.args.slot c.args.set (statements c.in-Loop.body.items)).continued) =
    c.both.ensures ∙ ap (λ (w : Ways). w.after && w.continued) j in
    let k = rw (c.as_slice-in-Loop-2.ensures.value, m) at c.all_ways-update.ensures in
    rw e (c.turns.ensures ∙ turns-same c.args.set h c.is_always-always.ensures j k)
