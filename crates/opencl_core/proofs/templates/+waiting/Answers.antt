use Rattle.std.proofs.Common.{ap, ◌∙◌, rules, arith}
use Rattle.std.proofs.lemmas.Grind.{common_steps}
use Rattle.core_code.specs.View.{statement}
use Rattle.core_code.proofs.Rows.{seen_if, seen_loop}
use Rattle.opencl_core.proofs.templates.+waiting.Goals as goal

pub waits-returns-then-any_waits : goal.waits-returns-then-any_waits
waits-returns-then-any_waits t c =
    rw (ap statement c.in-If.is ∙ seen_if c.in-If.number c.in-If.test c.in-If.taken c.in-If.skipped) (first_of (search rules, grind (arith, common_steps)))

pub waits-returns-else-any_waits : goal.waits-returns-else-any_waits
waits-returns-else-any_waits t c =
    rw (ap statement c.in-If.is ∙ seen_if c.in-If.number c.in-If.test c.in-If.taken c.in-If.skipped) (first_of (search rules, grind (arith, common_steps)))

pub waits-returns-then-any_waits-2 : goal.waits-returns-then-any_waits-2
waits-returns-then-any_waits-2 t c =
    rw (ap statement c.in-Loop.is ∙ seen_loop c.in-Loop.number c.in-Loop.test c.in-Loop.body c.in-Loop.update) (first_of (search rules, grind (arith, common_steps)))

pub waits-returns-else-any_waits-2 : goal.waits-returns-else-any_waits-2
waits-returns-else-any_waits-2 t c =
    rw (ap statement c.in-Loop.is ∙ seen_loop c.in-Loop.number c.in-Loop.test c.in-Loop.body c.in-Loop.update) (first_of (search rules, grind (arith, common_steps)))
