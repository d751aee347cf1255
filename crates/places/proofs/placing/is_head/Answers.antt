use Rattle.std.proofs.Common.{ap, ◌∙◌}
use Rattle.std.specs.Prelude.{not}
use Rattle.core_code.specs.View.{statement}
use Rattle.core_code.proofs.Rows.{seen_loop}
use Rattle.places.proofs.placing.is_head.Goals as goal

pub returns-in-Loop : goal.returns-in-Loop
returns-in-Loop c =
    let e = ap statement c.in-Loop.is ∙ seen_loop c.in-Loop.number c.in-Loop.test c.in-Loop.body c.in-Loop.update in
    let k = rw (c.as_slice.ensures.value, c.as_slice-in-Loop.ensures.value) at c.holds_barrier.ensures in
    rw e (ap not k)
