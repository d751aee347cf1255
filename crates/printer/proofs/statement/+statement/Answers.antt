use Rattle.std.proofs.Common.{ap, sym, ◌∙◌, rules, arith}
use Rattle.std.proofs.lemmas.Grind.{common_steps}
use Rattle.syntax.proofs.Rows.{seen_if, seen_while, seen_for, seen_block}
use Rattle.syntax.specs.View.{statement}
use Rattle.printer.proofs.Texts.{an_else}
use Rattle.printer.proofs.statement.+statement.Goals as goal

pub push_else-returns : goal.push_else-returns
push_else-returns t c =
    let e = an_else c.args.pad.now c.args.skipped.now (sym c.is_empty.ensures ∙ c.if-is_empty.false) in
    rw e (first_of (search rules, grind (arith, common_steps)))

pub push_statement-returns-in_ok-push_body-in-If : goal.push_statement-returns-in_ok-push_body-in-If
push_statement-returns-in_ok-push_body-in-If t c =
    let e = ap statement c.in-If.is ∙ seen_if c.in-If.number c.in-If.site c.in-If.test c.in-If.taken c.in-If.skipped in
    rw e (first_of (search rules, grind (arith, common_steps)))

pub push_statement-returns-in_ok-push_while-in-While : goal.push_statement-returns-in_ok-push_while-in-While
push_statement-returns-in_ok-push_while-in-While t c =
    let e = ap statement c.in-While.is ∙ seen_while c.in-While.number c.in-While.site c.in-While.test c.in-While.body in
    rw e (first_of (search rules, grind (arith, common_steps)))

pub push_statement-returns-in_ok-push_for-in-For : goal.push_statement-returns-in_ok-push_for-in-For
push_statement-returns-in_ok-push_for-in-For t c =
    let e = ap statement c.in-For.is ∙ seen_for c.in-For.number c.in-For.site c.in-For.first c.in-For.test c.in-For.update c.in-For.body in
    rw e (first_of (search rules, grind (arith, common_steps)))

pub push_statement-returns-in_ok-writeln-in-Block : goal.push_statement-returns-in_ok-writeln-in-Block
push_statement-returns-in_ok-writeln-in-Block t c =
    let e = ap statement c.in-Block.is ∙ seen_block c.in-Block.number c.in-Block.site c.in-Block.body in
    rw e (first_of (search rules, grind (arith, common_steps)))
