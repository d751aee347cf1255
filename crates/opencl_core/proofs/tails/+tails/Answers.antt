use Rattle.std.proofs.Common.{ap, ◌∙◌, rules, arith}
use Rattle.std.proofs.lemmas.Grind.{common_steps}
use Rattle.opencl_tree.specs.View.{statement}
use Rattle.opencl_tree.proofs.Rows.{seen_if, seen_block}
use Rattle.opencl_core.specs.Tails.{tail_returning}
use Rattle.opencl_core.proofs.Weights.{weight-block, weight-if}
use Rattle.opencl_core.proofs.tails.+tails.Goals as goal

pub tail_returning-last_block-requires : goal.tail_returning-last_block-requires
tail_returning-last_block-requires t c =
    let d = weight-block (ap statement c.in-Block.is ∙ seen_block c.in-Block.number c.in-Block.site c.in-Block.body) in
    rw c.deref.ensures.value (omega (arith, d, c.decreases), tt {0})

pub tail_returning-tail_if-requires : goal.tail_returning-tail_if-requires
tail_returning-tail_if-requires t c =
    let d = weight-if (ap statement c.in-If.is ∙ seen_if c.in-If.number c.in-If.site c.in-If.test c.in-If.taken c.in-If.skipped) in
    rw (c.deref-in-If.ensures.value, c.deref-in-If-2.ensures.value) (omega (arith, d, c.decreases), tt {0})

pub tail_returning-returns-in-Block : goal.tail_returning-returns-in-Block
unfolding tail_returning
tail_returning-returns-in-Block t c =
    rw (ap statement c.in-Block.is ∙ seen_block c.in-Block.number c.in-Block.site c.in-Block.body) (first_of (search rules, grind (arith, common_steps)))

pub tail_returning-returns-in-If : goal.tail_returning-returns-in-If
unfolding tail_returning
tail_returning-returns-in-If t c =
    rw (ap statement c.in-If.is ∙ seen_if c.in-If.number c.in-If.site c.in-If.test c.in-If.taken c.in-If.skipped) (first_of (search rules, grind (arith, common_steps)))
