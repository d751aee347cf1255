use Rattle.std.proofs.Common.{◌+◌, ap, drop, ◌∙◌, rules, arith}
use Rattle.std.proofs.lemmas.Grind.{common_steps}
use Rattle.core_code.specs.View.{statement, statements}
use Rattle.core_code.proofs.Rows.{seen_if, seen_loop}
use Rattle.core_moves.specs.Moving.{moved_behind}
use Rattle.core_moves.specs.View.{move}
use Rattle.core_moves.proofs.Lists.{one_more}
use Rattle.core_moves.proofs.moving.+moving_all.Goals as goal

pub moved_statement-returns-in_ok-skipped-in-If : goal.moved_statement-returns-in_ok-skipped-in-If
moved_statement-returns-in_ok-skipped-in-If t c =
    rw (ap statement c.in-If.is ∙ seen_if c.in-If.number c.in-If.test c.in-If.taken c.in-If.skipped) (first_of (search rules, grind (arith, common_steps)))

pub moved_statement-returns-in_ok-update-in-Loop : goal.moved_statement-returns-in_ok-update-in-Loop
moved_statement-returns-in_ok-update-in-Loop t c =
    rw (ap statement c.in-Loop.is ∙ seen_loop c.in-Loop.number c.in-Loop.test c.in-Loop.body c.in-Loop.update) (first_of (search rules, grind (arith, common_steps)))

pub push_moved-loop-statement-preserved : goal.push_moved-loop-statement-preserved
push_moved-loop-statement-preserved t c =
    let l = c.loop-statement in
    ap (λ xs. moved_behind (move c.args.by.now) (statements xs) (statements (drop (l.statement-index + 1) c.args.of.now))) c.in_ok-push.ensures.items
    ∙ one_more (move c.args.by.now) l.all.items c.args.of.now l.statement-index c.statement-item.result c.in_ok-moved.moved c.loop-statement-test.true c.statement-item.is c.in_ok-moved.ensures
    ∙ l.invariant
