use Rattle.std.proofs.Common.{ap, ◌∙◌, rules, arith}
use Rattle.std.proofs.lemmas.Grind.{common_steps}
use Rattle.opencl_tree.specs.View.{statement}
use Rattle.opencl_tree.proofs.Rows.{seen_if, seen_while, seen_do, seen_for, seen_block}
use Rattle.opencl_jumps.proofs.exits.+exiting.Goals as goal

pub exits_in-returns-then-exits_among : goal.exits_in-returns-then-exits_among
exits_in-returns-then-exits_among t c =
    rw (ap statement c.in-If.is ∙ seen_if c.in-If.number c.in-If.site c.in-If.test c.in-If.taken c.in-If.skipped) (first_of (search rules, grind (arith, common_steps)))

pub exits_in-returns-else-exits_among : goal.exits_in-returns-else-exits_among
exits_in-returns-else-exits_among t c =
    rw (ap statement c.in-If.is ∙ seen_if c.in-If.number c.in-If.site c.in-If.test c.in-If.taken c.in-If.skipped) (first_of (search rules, grind (arith, common_steps)))

pub exits_in-returns-then-is_returning : goal.exits_in-returns-then-is_returning
exits_in-returns-then-is_returning t c =
    rw (ap statement c.in-While.is ∙ seen_while c.in-While.number c.in-While.site c.in-While.test c.in-While.body) (first_of (search rules, grind (arith, common_steps)))

pub exits_in-returns-then-is_returning-2 : goal.exits_in-returns-then-is_returning-2
exits_in-returns-then-is_returning-2 t c =
    rw (ap statement c.in-Do.is ∙ seen_do c.in-Do.number c.in-Do.site c.in-Do.body c.in-Do.test) (first_of (search rules, grind (arith, common_steps)))

pub exits_in-returns-then-is_returning-3 : goal.exits_in-returns-then-is_returning-3
exits_in-returns-then-is_returning-3 t c =
    rw (ap statement c.in-For.is ∙ seen_for c.in-For.number c.in-For.site c.in-For.first c.in-For.test c.in-For.update c.in-For.body) (first_of (search rules, grind (arith, common_steps)))

pub exits_in-returns-in-Block : goal.exits_in-returns-in-Block
exits_in-returns-in-Block t c =
    rw (ap statement c.in-Block.is ∙ seen_block c.in-Block.number c.in-Block.site c.in-Block.body) (first_of (search rules, grind (arith, common_steps)))
