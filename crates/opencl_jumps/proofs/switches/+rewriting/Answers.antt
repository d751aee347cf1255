use Rattle.std.proofs.Common.{◌≡◌, [], ◌∷◌, ◌++◌, ap, sym, ◌∙◌, rules, arith}
use Rattle.std.proofs.lemmas.Grind.{common_steps}
use Rattle.opencl_tree.specs.Tree.{one}
use Rattle.opencl_tree.specs.View.{statement, statements}
use Rattle.opencl_tree.proofs.Rows.{seen_if, seen_while, seen_do, seen_for, seen_switch, seen_block}
use Rattle.opencl_jumps.specs.Switches.{all_rewritten}
use Rattle.opencl_jumps.proofs.Weights.{weights, weights-last, joined, joined-none, weight-if, weight-while, weight-do, weight-for, weight-switch, weight-block}
use Rattle.opencl_jumps.proofs.Reversed.{rewritten-last}
use Rattle.opencl_jumps.proofs.switches.+rewriting.Goals as goal

pub rewritten-rewritten_parts-requires : goal.rewritten-rewritten_parts-requires
rewritten-rewritten_parts-requires t c =
    let d = weight-if (ap statement c.in-If.is ∙ seen_if c.in-If.number c.in-If.site c.in-If.test c.in-If.taken c.in-If.skipped) in
    (omega (arith, d, c.decreases), tt {0})

pub rewritten-all_rewritten-requires : goal.rewritten-all_rewritten-requires
rewritten-all_rewritten-requires t c =
    let d = weight-while (ap statement c.in-While.is ∙ seen_while c.in-While.number c.in-While.site c.in-While.test c.in-While.body) in
    (omega (arith, d, c.decreases), tt {0})

pub rewritten-rewritten_do-requires : goal.rewritten-rewritten_do-requires
rewritten-rewritten_do-requires t c =
    let d = weight-do (ap statement c.in-Do.is ∙ seen_do c.in-Do.number c.in-Do.site c.in-Do.body c.in-Do.test) in
    (omega (arith, d, c.decreases), tt {0})

pub rewritten-all_rewritten-requires-in-For : goal.rewritten-all_rewritten-requires-in-For
rewritten-all_rewritten-requires-in-For t c =
    let d = weight-for (ap statement c.in-For.is ∙ seen_for c.in-For.number c.in-For.site c.in-For.first c.in-For.test c.in-For.update c.in-For.body) in
    (omega (arith, d, c.decreases), tt {0})

pub rewritten-all_rewritten-requires-in-Switch : goal.rewritten-all_rewritten-requires-in-Switch
rewritten-all_rewritten-requires-in-Switch t c =
    let d = weight-switch (ap statement c.in-Switch.is ∙ seen_switch c.in-Switch.number c.in-Switch.site c.in-Switch.test c.in-Switch.body) in
    (omega (arith, d, c.decreases), tt {0})

pub rewritten-all_rewritten-requires-in-Block : goal.rewritten-all_rewritten-requires-in-Block
rewritten-all_rewritten-requires-in-Block t c =
    let d = weight-block (ap statement c.in-Block.is ∙ seen_block c.in-Block.number c.in-Block.site c.in-Block.body) in
    (omega (arith, d, c.decreases), tt {0})

pub rewritten-returns-in_ok-taken-in-If : goal.rewritten-returns-in_ok-taken-in-If
rewritten-returns-in_ok-taken-in-If t c =
    rw (ap statement c.in-If.is ∙ seen_if c.in-If.number c.in-If.site c.in-If.test c.in-If.taken c.in-If.skipped) (first_of (search rules, grind (arith, common_steps)))

pub rewritten-returns-in_ok-body-in-While : goal.rewritten-returns-in_ok-body-in-While
rewritten-returns-in_ok-body-in-While t c =
    rw (ap statement c.in-While.is ∙ seen_while c.in-While.number c.in-While.site c.in-While.test c.in-While.body) (first_of (search rules, grind (arith, common_steps)))

pub rewritten-returns-in_ok-body-in-Do : goal.rewritten-returns-in_ok-body-in-Do
rewritten-returns-in_ok-body-in-Do t c =
    rw (ap statement c.in-Do.is ∙ seen_do c.in-Do.number c.in-Do.site c.in-Do.body c.in-Do.test) (first_of (search rules, grind (arith, common_steps)))

pub rewritten-returns-in_ok-body-in-For : goal.rewritten-returns-in_ok-body-in-For
rewritten-returns-in_ok-body-in-For t c =
    rw (ap statement c.in-For.is ∙ seen_for c.in-For.number c.in-For.site c.in-For.first c.in-For.test c.in-For.update c.in-For.body) (first_of (search rules, grind (arith, common_steps)))

pub rewritten-returns-in_ok-body-in-Switch : goal.rewritten-returns-in_ok-body-in-Switch
rewritten-returns-in_ok-body-in-Switch t c =
    rw (ap statement c.in-Switch.is ∙ seen_switch c.in-Switch.number c.in-Switch.site c.in-Switch.test c.in-Switch.body) (first_of (search rules, grind (arith, common_steps)))

pub rewritten-returns-in_ok-body-in-Block : goal.rewritten-returns-in_ok-body-in-Block
rewritten-returns-in_ok-body-in-Block t c =
    rw (ap statement c.in-Block.is ∙ seen_block c.in-Block.number c.in-Block.site c.in-Block.body) (first_of (search rules, grind (arith, common_steps)))

pub all_rewritten-loop-statement-init : goal.all_rewritten-loop-statement-init
all_rewritten-loop-statement-init t c = (rw c.new-all.ensures.items (joined-none (all_rewritten (statements c.args.body.items))), omega arith)

pub all_rewritten-rewritten-requires : goal.all_rewritten-rewritten-requires
all_rewritten-rewritten-requires t c =
    let w = weights-last c.pop.new.self.items c.in-Some.statement in
    let e : weights (statements c.loop-statement.left.items) ≡ weights (statements (c.pop.new.self.items ++ c.in-Some.statement ∷ [])) =
    ap (λ l. weights (statements l)) c.in-Some.ensures.items in
    (omega (arith, e, w, c.loop-statement.invariant.1, c.decreases), tt {0})

pub all_rewritten-loop-statement-preserved : goal.all_rewritten-loop-statement-preserved
all_rewritten-loop-statement-preserved t c =
    let w = weights-last c.pop.new.self.items c.in-Some.statement in
    let e : weights (statements c.loop-statement.left.items) ≡ weights (statements (c.pop.new.self.items ++ c.in-Some.statement ∷ [])) =
    ap (λ l. weights (statements l)) c.in-Some.ensures.items in (
      ap (joined (all_rewritten (statements c.pop.new.self.items)))
          (c.in_ok-all.ensures ∙ ap (λ s. one s (statements c.loop-statement.all.items)) c.in_ok-written.ensures)
          ∙ sym (rewritten-last c.pop.new.self.items c.in-Some.statement (statements c.loop-statement.all.items))
          ∙ ap (λ l. joined (all_rewritten (statements l)) (statements c.loop-statement.all.items)) (sym c.in-Some.ensures.items)
          ∙ c.loop-statement.invariant.0,
      omega (arith, e, w, c.loop-statement.invariant.1),
    )
