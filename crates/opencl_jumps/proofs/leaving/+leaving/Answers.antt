use Rattle.std.proofs.Common.{◌≡◌, [], ◌∷◌, ◌++◌, ap, sym, ◌∙◌, rules, arith}
use Rattle.std.proofs.lemmas.Grind.{common_steps}
use Rattle.opencl_tree.specs.View.{statement, statements}
use Rattle.opencl_tree.proofs.Rows.{seen_if, seen_while, seen_do, seen_for, seen_block}
use Rattle.opencl_jumps.specs.Leaving.{leave}
use Rattle.opencl_jumps.specs.View.{exit}
use Rattle.opencl_jumps.proofs.Weights.{weights, weights-last, weight-if, weight-block}
use Rattle.opencl_jumps.proofs.Reversed.{leave-last}
use Rattle.opencl_jumps.proofs.leaving.+leaving.Goals as goal

pub leave-leave_at-requires : goal.leave-leave_at-requires
leave-leave_at-requires t c =
    let w = weights-last c.pop.new.self.items c.in-Some.statement in
    let e : weights (statements c.loop-statement.left.items) ≡ weights (statements (c.pop.new.self.items ++ c.in-Some.statement ∷ [])) =
    ap (λ l. weights (statements l)) c.in-Some.ensures.items in
    (omega (arith, e, w, c.loop-statement.invariant.1, c.decreases), tt {0})

pub leave-loop-statement-preserved : goal.leave-loop-statement-preserved
leave-loop-statement-preserved t c =
    let w = weights-last c.pop.new.self.items c.in-Some.statement in
    let e : weights (statements c.loop-statement.left.items) ≡ weights (statements (c.pop.new.self.items ++ c.in-Some.statement ∷ [])) =
    ap (λ l. weights (statements l)) c.in-Some.ensures.items in (
      ap (leave (exit c.args.by) c.args.flagged (statements c.pop.new.self.items)) c.in_ok-so.ensures
          ∙ sym (leave-last (exit c.args.by) c.args.flagged c.pop.new.self.items c.in-Some.statement (statements c.loop-statement.so.items))
          ∙ ap (λ l. leave (exit c.args.by) c.args.flagged (statements l) (statements c.loop-statement.so.items)) (sym c.in-Some.ensures.items)
          ∙ c.loop-statement.invariant.0,
      omega (arith, e, w, c.loop-statement.invariant.1),
    )

pub leave_one-leave-requires : goal.leave_one-leave-requires
leave_one-leave-requires t c =
    let d = weight-block (ap statement c.in-Block.is ∙ seen_block c.in-Block.number c.in-Block.site c.in-Block.body) in
    (omega (arith, d, c.decreases), tt {0})

pub leave_one-leave_if-requires : goal.leave_one-leave_if-requires
leave_one-leave_if-requires t c =
    let d = weight-if (ap statement c.in-If.is ∙ seen_if c.in-If.number c.in-If.site c.in-If.test c.in-If.taken c.in-If.skipped) in
    (omega (arith, d, c.decreases), tt {0})

pub leave_one-returns-in_ok-behind-in-Block : goal.leave_one-returns-in_ok-behind-in-Block
leave_one-returns-in_ok-behind-in-Block t c =
    rw (ap statement c.in-Block.is ∙ seen_block c.in-Block.number c.in-Block.site c.in-Block.body) (first_of (search rules, grind (arith, common_steps)))

pub leave_one-returns-in-If : goal.leave_one-returns-in-If
leave_one-returns-in-If t c =
    rw (ap statement c.in-If.is ∙ seen_if c.in-If.number c.in-If.site c.in-If.test c.in-If.taken c.in-If.skipped) (first_of (search rules, grind (arith, common_steps)))

pub leave_one-returns-in_ok-body-in-While : goal.leave_one-returns-in_ok-body-in-While
leave_one-returns-in_ok-body-in-While t c =
    rw (ap statement c.in-While.is ∙ seen_while c.in-While.number c.in-While.site c.in-While.test c.in-While.body) (first_of (search rules, grind (arith, common_steps)))

pub leave_one-returns-in_ok-body-in-Do : goal.leave_one-returns-in_ok-body-in-Do
leave_one-returns-in_ok-body-in-Do t c =
    rw (ap statement c.in-Do.is ∙ seen_do c.in-Do.number c.in-Do.site c.in-Do.body c.in-Do.test) (first_of (search rules, grind (arith, common_steps)))

pub leave_one-returns-in_ok-body-in-For : goal.leave_one-returns-in_ok-body-in-For
leave_one-returns-in_ok-body-in-For t c =
    rw (ap statement c.in-For.is ∙ seen_for c.in-For.number c.in-For.site c.in-For.first c.in-For.test c.in-For.update c.in-For.body) (first_of (search rules, grind (arith, common_steps)))
