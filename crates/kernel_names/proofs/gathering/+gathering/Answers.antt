use Rattle.std.proofs.Common.{ap, ◌∙◌, rules}
use Rattle.syntax.proofs.Rows.{seen_if, seen_while, seen_for, seen_block}
use Rattle.syntax.specs.View.{statement}
use Rattle.kernel_names.proofs.gathering.+gathering.Goals as goal

pub with_all_in-returns-in_ok-with_all-in-If : goal.with_all_in-returns-in_ok-with_all-in-If
with_all_in-returns-in_ok-with_all-in-If t c = rw (ap statement c.in-If.is ∙ seen_if c.in-If.number c.in-If.site c.in-If.test c.in-If.taken c.in-If.skipped) (search rules)

pub with_all_in-returns-in_ok-push_statement-in-While : goal.with_all_in-returns-in_ok-push_statement-in-While
with_all_in-returns-in_ok-push_statement-in-While t c = rw (ap statement c.in-While.is ∙ seen_while c.in-While.number c.in-While.site c.in-While.test c.in-While.body) (search rules)

pub with_all_in-returns-in_ok-push_statement-in-Block : goal.with_all_in-returns-in_ok-push_statement-in-Block
with_all_in-returns-in_ok-push_statement-in-Block t c = rw (ap statement c.in-Block.is ∙ seen_block c.in-Block.number c.in-Block.site c.in-Block.body) (search rules)

pub with_all_in-returns-in_ok-push_statement-in-For-2 : goal.with_all_in-returns-in_ok-push_statement-in-For-2
with_all_in-returns-in_ok-push_statement-in-For-2 t c = rw (ap statement c.in-For.is ∙ seen_for c.in-For.number c.in-For.site c.in-For.first c.in-For.test c.in-For.update c.in-For.body) (search rules)
