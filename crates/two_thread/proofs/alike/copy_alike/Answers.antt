use Rattle.std.proofs.Common.{refl, ◌∙◌}
use Rattle.two_thread.proofs.Copied.{alike_next, alike_last}
use Rattle.two_thread.proofs.alike.copy_alike.Goals as goal

pub loop-lines-preserved : goal.loop-lines-preserved
loop-lines-preserved c = alike_next c.args.notes.now.places.items c.deref-lines-items.result.now c.deref-lines-items.ensures.value c.loop-lines.lines-index c.lines-item.result c.loop-lines.found.items c.push.new.self.items _ c.loop-lines-test.true c.lines-item.is refl refl (c.in_ok-same.ensures ∙ c.as_slice.ensures.value) c.in_ok-push.ensures.items c.loop-lines.invariant

pub returns-clause-same : goal.returns-clause-same
returns-clause-same c = alike_last c.args.notes.now.places.items c.deref-lines-items.result.now c.deref-lines-items.ensures.value c.loop-lines.lines-index c.loop-lines.found.items c.loop-lines-test.false c.loop-lines.invariant
