use Rattle.std.proofs.Common.{ap, ◌∙◌, rules, arith}
use Rattle.std.proofs.lemmas.Grind.{common_steps}
use Rattle.opencl_tree.specs.View.{statement}
use Rattle.opencl_tree.proofs.Rows.{seen_if, seen_block}
use Rattle.opencl_jumps.proofs.Weights.{weight-block, weight-if}
use Rattle.opencl_jumps.proofs.exits.+fitting.Goals as goal

pub fits_in-fits-requires : goal.fits_in-fits-requires
fits_in-fits-requires t c =
    let d = weight-if (ap statement c.in-If.is ∙ seen_if c.in-If.number c.in-If.site c.in-If.test c.in-If.taken c.in-If.skipped) in
    rw c.as_slice.ensures.value (omega (arith, d, c.decreases), tt {0})

pub fits_in-fits-requires-then-fits : goal.fits_in-fits-requires-then-fits
fits_in-fits-requires-then-fits t c =
    let d = weight-if (ap statement c.in-If.is ∙ seen_if c.in-If.number c.in-If.site c.in-If.test c.in-If.taken c.in-If.skipped) in
    rw c.as_slice-then-fits.ensures.value (omega (arith, d, c.decreases), tt {0})

pub fits_in-fits-requires-in-Block : goal.fits_in-fits-requires-in-Block
fits_in-fits-requires-in-Block t c =
    let d = weight-block (ap statement c.in-Block.is ∙ seen_block c.in-Block.number c.in-Block.site c.in-Block.body) in
    rw c.as_slice-in-Block.ensures.value (omega (arith, d, c.decreases), tt {0})

pub fits_in-returns-then-fits : goal.fits_in-returns-then-fits
fits_in-returns-then-fits t c =
    rw (ap statement c.in-If.is ∙ seen_if c.in-If.number c.in-If.site c.in-If.test c.in-If.taken c.in-If.skipped) (first_of (search rules, grind (arith, common_steps)))

pub fits_in-returns-else-fits : goal.fits_in-returns-else-fits
fits_in-returns-else-fits t c =
    rw (ap statement c.in-If.is ∙ seen_if c.in-If.number c.in-If.site c.in-If.test c.in-If.taken c.in-If.skipped) (first_of (search rules, grind (arith, common_steps)))

pub fits_in-returns-in-Block : goal.fits_in-returns-in-Block
fits_in-returns-in-Block t c =
    rw (ap statement c.in-Block.is ∙ seen_block c.in-Block.number c.in-Block.site c.in-Block.body) (first_of (search rules, grind (arith, common_steps)))
