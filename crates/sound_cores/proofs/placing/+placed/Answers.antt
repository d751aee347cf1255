use Rattle.std.proofs.Common.{ap, ◌∙◌, rules}
use Rattle.core_code.proofs.Rows.{seen_if, seen_loop}
use Rattle.core_code.specs.View.{statement}
use Rattle.sound_cores.proofs.placing.+placed.Goals as goal

pub is_placed-returns-then-are_placed : goal.is_placed-returns-then-are_placed
is_placed-returns-then-are_placed t c = rw (ap statement c.in-If.is ∙ seen_if c.in-If.number c.in-If.test c.in-If.taken c.in-If.skipped) (search rules)

pub is_placed-returns-else-are_placed : goal.is_placed-returns-else-are_placed
is_placed-returns-else-are_placed t c = rw (ap statement c.in-If.is ∙ seen_if c.in-If.number c.in-If.test c.in-If.taken c.in-If.skipped) (search rules)

pub is_placed-returns-then-are_placed-2 : goal.is_placed-returns-then-are_placed-2
is_placed-returns-then-are_placed-2 t c = rw (ap statement c.in-Loop.is ∙ seen_loop c.in-Loop.number c.in-Loop.test c.in-Loop.body c.in-Loop.update) (search rules)

pub is_placed-returns-else-are_placed-2 : goal.is_placed-returns-else-are_placed-2
is_placed-returns-else-are_placed-2 t c = rw (ap statement c.in-Loop.is ∙ seen_loop c.in-Loop.number c.in-Loop.test c.in-Loop.body c.in-Loop.update) (search rules)
