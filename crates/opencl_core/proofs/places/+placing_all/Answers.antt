use Rattle.std.proofs.Common.{◌+◌, ap, drop, ◌∙◌, rules, arith}
use Rattle.std.proofs.lemmas.Grind.{common_steps}
use Rattle.core_code.specs.View.{statement}
use Rattle.core_code.proofs.Rows.{seen_if, seen_loop}
use Rattle.core_code.specs.View.{statements}
use Rattle.opencl_core.specs.Places.{placed_behind}
use Rattle.opencl_core.proofs.Placing.{one_more}
use Rattle.opencl_core.proofs.places.+placing_all.Goals as goal

pub placed_in-returns-in_ok-skipped-in-If : goal.placed_in-returns-in_ok-skipped-in-If
placed_in-returns-in_ok-skipped-in-If t c =
    rw (ap statement c.in-If.is ∙ seen_if c.in-If.number c.in-If.test c.in-If.taken c.in-If.skipped) (first_of (search rules, grind (arith, common_steps)))

pub placed_in-returns-in_ok-update-in-Loop : goal.placed_in-returns-in_ok-update-in-Loop
placed_in-returns-in_ok-update-in-Loop t c =
    rw (ap statement c.in-Loop.is ∙ seen_loop c.in-Loop.number c.in-Loop.test c.in-Loop.body c.in-Loop.update) (first_of (search rules, grind (arith, common_steps)))

pub placed_all-loop-statement-preserved : goal.placed_all-loop-statement-preserved
placed_all-loop-statement-preserved t c =
    let l = c.loop-statement in
    ap (λ xs. placed_behind (statements xs) (statements (drop (l.statement-index + 1) c.args.of.now)) c.in_ok-statement.behind) c.in_ok-push.ensures.items
    ∙ one_more l.all.items c.args.of.now l.statement-index c.statement-item.result c.in_ok-statement.statement l.next c.in_ok-statement.behind c.loop-statement-test.true c.statement-item.is c.in_ok-statement.ensures
    ∙ l.invariant
