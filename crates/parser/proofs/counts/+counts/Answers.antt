use Rattle.std.proofs.Common.{ap, ◌∙◌, rules}
use Rattle.syntax.proofs.Rows.{seen_if, seen_while, seen_for, seen_block}
use Rattle.syntax.specs.View.{statement}
use Rattle.parser.proofs.counts.+counts.Goals as goal

pub count_statement-returns-in-While : goal.count_statement-returns-in-While
count_statement-returns-in-While t c = rw (ap statement c.in-While.is ∙ seen_while c.in-While.number c.in-While.site c.in-While.test c.in-While.body) (search rules)

pub count_statement-returns-in-Block : goal.count_statement-returns-in-Block
count_statement-returns-in-Block t c = rw (ap statement c.in-Block.is ∙ seen_block c.in-Block.number c.in-Block.site c.in-Block.body) (search rules)

pub count_statement-returns-in_err-middle-in-If : goal.count_statement-returns-in_err-middle-in-If
count_statement-returns-in_err-middle-in-If t c = rw (ap statement c.in-If.is ∙ seen_if c.in-If.number c.in-If.site c.in-If.test c.in-If.taken c.in-If.skipped) (search rules)

pub count_statement-returns-in_ok-middle-in-If : goal.count_statement-returns-in_ok-middle-in-If
count_statement-returns-in_ok-middle-in-If t c = rw (ap statement c.in-If.is ∙ seen_if c.in-If.number c.in-If.site c.in-If.test c.in-If.taken c.in-If.skipped) (search rules)

pub count_statement-returns-in_ok-begun-in-For : goal.count_statement-returns-in_ok-begun-in-For
count_statement-returns-in_ok-begun-in-For t c = rw (ap statement c.in-For.is ∙ seen_for c.in-For.number c.in-For.site c.in-For.first c.in-For.test c.in-For.update c.in-For.body) (search rules)
