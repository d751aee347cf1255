use Rattle.std.proofs.Common.{ap, ◌∙◌, rules, arith}
use Rattle.std.proofs.lemmas.Grind.{common_steps}
use Rattle.opencl_tree.specs.View.{statement}
use Rattle.opencl_tree.proofs.Rows.{seen_if, seen_while, seen_do, seen_for, seen_block}
use Rattle.opencl_jumps.proofs.labels.+labels.Goals as goal

pub labels_in-returns-then-has_label : goal.labels_in-returns-then-has_label
labels_in-returns-then-has_label t c =
    rw (ap statement c.in-If.is ∙ seen_if c.in-If.number c.in-If.site c.in-If.test c.in-If.taken c.in-If.skipped) (first_of (search rules, grind (arith, common_steps)))

pub labels_in-returns-else-has_label : goal.labels_in-returns-else-has_label
labels_in-returns-else-has_label t c =
    rw (ap statement c.in-If.is ∙ seen_if c.in-If.number c.in-If.site c.in-If.test c.in-If.taken c.in-If.skipped) (first_of (search rules, grind (arith, common_steps)))

pub labels_in-returns-in-While : goal.labels_in-returns-in-While
labels_in-returns-in-While t c =
    rw (ap statement c.in-While.is ∙ seen_while c.in-While.number c.in-While.site c.in-While.test c.in-While.body) (first_of (search rules, grind (arith, common_steps)))

pub labels_in-returns-in-Do : goal.labels_in-returns-in-Do
labels_in-returns-in-Do t c =
    rw (ap statement c.in-Do.is ∙ seen_do c.in-Do.number c.in-Do.site c.in-Do.body c.in-Do.test) (first_of (search rules, grind (arith, common_steps)))

pub labels_in-returns-in-For : goal.labels_in-returns-in-For
labels_in-returns-in-For t c =
    rw (ap statement c.in-For.is ∙ seen_for c.in-For.number c.in-For.site c.in-For.first c.in-For.test c.in-For.update c.in-For.body) (first_of (search rules, grind (arith, common_steps)))

pub labels_in-returns-in-Block : goal.labels_in-returns-in-Block
labels_in-returns-in-Block t c =
    rw (ap statement c.in-Block.is ∙ seen_block c.in-Block.number c.in-Block.site c.in-Block.body) (first_of (search rules, grind (arith, common_steps)))
