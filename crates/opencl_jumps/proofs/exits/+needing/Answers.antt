use Rattle.std.proofs.Common.{ap, ◌∙◌, rules, arith}
use Rattle.std.proofs.lemmas.Grind.{common_steps}
use Rattle.opencl_tree.specs.View.{statement}
use Rattle.opencl_tree.proofs.Rows.{seen_if, seen_block}
use Rattle.opencl_jumps.proofs.Weights.{weight-block, weight-if}
use Rattle.opencl_jumps.proofs.exits.+needing.Goals as goal

pub needs_one-needs-requires : goal.needs_one-needs-requires
needs_one-needs-requires t c =
    let d = weight-block (ap statement c.in-Block.is ∙ seen_block c.in-Block.number c.in-Block.site c.in-Block.body) in
    rw c.as_slice-body.ensures.value (omega (arith, d, c.decreases), tt {0})

pub needs_one-needs-requires-then-ends : goal.needs_one-needs-requires-then-ends
needs_one-needs-requires-then-ends t c =
    let d = weight-if (ap statement c.in-If.is ∙ seen_if c.in-If.number c.in-If.site c.in-If.test c.in-If.taken c.in-If.skipped) in
    rw c.as_slice-taken.ensures.value (omega (arith, d, c.decreases), tt {0})

pub needs_one-needs_part-requires : goal.needs_one-needs_part-requires
needs_one-needs_part-requires t c =
    let d = weight-if (ap statement c.in-If.is ∙ seen_if c.in-If.number c.in-If.site c.in-If.test c.in-If.taken c.in-If.skipped) in
    rw c.as_slice-skipped.ensures.value (omega (arith, d, c.decreases), tt {0})

pub needs_one-needs-requires-then-not-exits_among : goal.needs_one-needs-requires-then-not-exits_among
needs_one-needs-requires-then-not-exits_among t c =
    let d = weight-if (ap statement c.in-If.is ∙ seen_if c.in-If.number c.in-If.site c.in-If.test c.in-If.taken c.in-If.skipped) in
    rw c.as_slice-skipped.ensures.value (omega (arith, d, c.decreases), tt {0})

pub needs_one-needs-requires-else-so-2 : goal.needs_one-needs-requires-else-so-2
needs_one-needs-requires-else-so-2 t c =
    let d = weight-if (ap statement c.in-If.is ∙ seen_if c.in-If.number c.in-If.site c.in-If.test c.in-If.taken c.in-If.skipped) in
    rw c.as_slice-taken.ensures.value (omega (arith, d, c.decreases), tt {0})

pub needs_one-needs-requires-else-needs-2 : goal.needs_one-needs-requires-else-needs-2
needs_one-needs-requires-else-needs-2 t c =
    let d = weight-if (ap statement c.in-If.is ∙ seen_if c.in-If.number c.in-If.site c.in-If.test c.in-If.taken c.in-If.skipped) in
    rw c.as_slice-skipped.ensures.value (omega (arith, d, c.decreases), tt {0})

pub needs_one-returns-then-not-ends : goal.needs_one-returns-then-not-ends
needs_one-returns-then-not-ends t c = rw (ap statement c.in-Block.is ∙ seen_block c.in-Block.number c.in-Block.site c.in-Block.body) (first_of (search rules, grind (arith, common_steps)))

pub needs_one-returns-else-not-ends : goal.needs_one-returns-else-not-ends
needs_one-returns-else-not-ends t c = rw (ap statement c.in-Block.is ∙ seen_block c.in-Block.number c.in-Block.site c.in-Block.body) (first_of (search rules, grind (arith, common_steps)))

pub needs_one-returns-then-needs : goal.needs_one-returns-then-needs
needs_one-returns-then-needs t c = rw (ap statement c.in-If.is ∙ seen_if c.in-If.number c.in-If.site c.in-If.test c.in-If.taken c.in-If.skipped) (first_of (search rules, grind (arith, common_steps)))

pub needs_one-returns-else-needs : goal.needs_one-returns-else-needs
needs_one-returns-else-needs t c = rw (ap statement c.in-If.is ∙ seen_if c.in-If.number c.in-If.site c.in-If.test c.in-If.taken c.in-If.skipped) (first_of (search rules, grind (arith, common_steps)))

pub needs_one-returns-then-not-exits_among : goal.needs_one-returns-then-not-exits_among
needs_one-returns-then-not-exits_among t c = rw (ap statement c.in-If.is ∙ seen_if c.in-If.number c.in-If.site c.in-If.test c.in-If.taken c.in-If.skipped) (first_of (search rules, grind (arith, common_steps)))

pub needs_one-returns-then-needs-2 : goal.needs_one-returns-then-needs-2
needs_one-returns-then-needs-2 t c = rw (ap statement c.in-If.is ∙ seen_if c.in-If.number c.in-If.site c.in-If.test c.in-If.taken c.in-If.skipped) (first_of (search rules, grind (arith, common_steps)))

pub needs_one-returns-else-needs-2 : goal.needs_one-returns-else-needs-2
needs_one-returns-else-needs-2 t c = rw (ap statement c.in-If.is ∙ seen_if c.in-If.number c.in-If.site c.in-If.test c.in-If.taken c.in-If.skipped) (first_of (search rules, grind (arith, common_steps)))
