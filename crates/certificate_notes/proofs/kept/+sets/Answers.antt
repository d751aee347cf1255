use Rattle.std.proofs.Common.{ap, ◌∙◌, rules}
use Rattle.core_code.proofs.Rows.{seen_if, seen_loop}
use Rattle.core_code.specs.View.{statement}
use Rattle.certificate_notes.proofs.kept.+sets.Goals as goal

pub sets-returns-then-some_sets : goal.sets-returns-then-some_sets
sets-returns-then-some_sets t c = rw (ap statement c.in-If.is ∙ seen_if c.in-If.number c.in-If.test c.in-If.taken c.in-If.skipped) (search rules)

pub sets-returns-else-some_sets : goal.sets-returns-else-some_sets
sets-returns-else-some_sets t c = rw (ap statement c.in-If.is ∙ seen_if c.in-If.number c.in-If.test c.in-If.taken c.in-If.skipped) (search rules)

pub sets-returns-then-some_sets-2 : goal.sets-returns-then-some_sets-2
sets-returns-then-some_sets-2 t c = rw (ap statement c.in-Loop.is ∙ seen_loop c.in-Loop.number c.in-Loop.test c.in-Loop.body c.in-Loop.update) (search rules)

pub sets-returns-else-some_sets-2 : goal.sets-returns-else-some_sets-2
sets-returns-else-some_sets-2 t c = rw (ap statement c.in-Loop.is ∙ seen_loop c.in-Loop.number c.in-Loop.test c.in-Loop.body c.in-Loop.update) (search rules)
