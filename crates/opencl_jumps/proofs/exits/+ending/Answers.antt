use Rattle.std.proofs.Common.{ap, ◌∙◌, rules, arith}
use Rattle.std.proofs.lemmas.Grind.{common_steps}
use Rattle.opencl_tree.specs.View.{statement}
use Rattle.opencl_tree.proofs.Rows.{seen_if, seen_block}
use Rattle.opencl_jumps.proofs.exits.+ending.Goals as goal

pub ends_with-returns-then-taken_ends : goal.ends_with-returns-then-taken_ends
ends_with-returns-then-taken_ends t c =
    rw (ap statement c.in-If.is ∙ seen_if c.in-If.number c.in-If.site c.in-If.test c.in-If.taken c.in-If.skipped) (first_of (search rules, grind (arith, common_steps)))

pub ends_with-returns-else-taken_ends : goal.ends_with-returns-else-taken_ends
ends_with-returns-else-taken_ends t c =
    rw (ap statement c.in-If.is ∙ seen_if c.in-If.number c.in-If.site c.in-If.test c.in-If.taken c.in-If.skipped) (first_of (search rules, grind (arith, common_steps)))

pub ends_with-returns-in-Block : goal.ends_with-returns-in-Block
ends_with-returns-in-Block t c =
    rw (ap statement c.in-Block.is ∙ seen_block c.in-Block.number c.in-Block.site c.in-Block.body) (first_of (search rules, grind (arith, common_steps)))
