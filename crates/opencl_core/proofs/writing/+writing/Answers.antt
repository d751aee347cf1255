use Rattle.std.proofs.Common.{ap, ◌∙◌, rules, arith}
use Rattle.std.proofs.lemmas.Grind.{common_steps}
use Rattle.opencl_tree.specs.View.{statement}
use Rattle.opencl_tree.proofs.Rows.{seen_if, seen_while, seen_do, seen_for, seen_switch, seen_block}
use Rattle.opencl_core.specs.Writing.{write_statement}
use Rattle.opencl_core.proofs.writing.+writing.Goals as goal

pub write_statement-returns-in_err-branch-in-If : goal.write_statement-returns-in_err-branch-in-If
unfolding write_statement
write_statement-returns-in_err-branch-in-If t c =
    rw (ap statement c.in-If.is ∙ seen_if c.in-If.number c.in-If.site c.in-If.test c.in-If.taken c.in-If.skipped) (first_of (search rules, grind (arith, common_steps)))

pub write_statement-returns-in_ok-branch-in-If : goal.write_statement-returns-in_ok-branch-in-If
unfolding write_statement
write_statement-returns-in_ok-branch-in-If t c =
    rw (ap statement c.in-If.is ∙ seen_if c.in-If.number c.in-If.site c.in-If.test c.in-If.taken c.in-If.skipped) (first_of (search rules, grind (arith, common_steps)))

pub write_statement-returns-in-While : goal.write_statement-returns-in-While
unfolding write_statement
write_statement-returns-in-While t c =
    rw (ap statement c.in-While.is ∙ seen_while c.in-While.number c.in-While.site c.in-While.test c.in-While.body) (first_of (search rules, grind (arith, common_steps)))

pub write_statement-returns-in-Do : goal.write_statement-returns-in-Do
unfolding write_statement
write_statement-returns-in-Do t c =
    rw (ap statement c.in-Do.is ∙ seen_do c.in-Do.number c.in-Do.site c.in-Do.body c.in-Do.test) (first_of (search rules, grind (arith, common_steps)))

pub write_statement-returns-in-For : goal.write_statement-returns-in-For
unfolding write_statement
write_statement-returns-in-For t c =
    rw (ap statement c.in-For.is ∙ seen_for c.in-For.number c.in-For.site c.in-For.first c.in-For.test c.in-For.update c.in-For.body) (first_of (search rules, grind (arith, common_steps)))

pub write_statement-returns-in-Switch : goal.write_statement-returns-in-Switch
unfolding write_statement
write_statement-returns-in-Switch t c =
    rw (ap statement c.in-Switch.is ∙ seen_switch c.in-Switch.number c.in-Switch.site c.in-Switch.test c.in-Switch.body) (first_of (search rules, grind (arith, common_steps)))

pub write_statement-returns-in-Block : goal.write_statement-returns-in-Block
unfolding write_statement
write_statement-returns-in-Block t c =
    rw (ap statement c.in-Block.is ∙ seen_block c.in-Block.number c.in-Block.site c.in-Block.body) (first_of (search rules, grind (arith, common_steps)))
