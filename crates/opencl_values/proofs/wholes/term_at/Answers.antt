use Rattle.opencl_terms.specs.Operations as operations
use Rattle.opencl_values.proofs.Components.{given, nth_with-is, nth_with-last-is}
use Rattle.opencl_values.proofs.wholes.term_at.Goals as goal

pub returns-then-place-count : goal.returns-then-place-count
returns-then-place-count c =
    given c.copy_of.result _ _
    (nth_with-is operations.nothing c.args.terms.now c.args.place c.index-terms-place.result c.if-place-count.true c.index-terms-place.is)
    c.copy_of.ensures

pub returns-else-place-count : goal.returns-else-place-count
returns-else-place-count c =
    given c.copy_of-else-place-count.result _ _
    (nth_with-last-is operations.nothing c.args.terms.now c.args.place c.index-terms-count.result c.if-count-eq0.false
    c.if-place-count.false c.index-terms-count.is)
    c.copy_of-else-place-count.ensures
