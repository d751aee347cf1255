use Rattle.std.proofs.Common.{sym, ◌∙◌, arith}
use Rattle.opencl_reading.proofs.Same.{none_same}
use Rattle.opencl_reading.proofs.kinds.are_same.Goals as goal

pub returns-in_default : goal.returns-in_default
returns-in_default c =
    sym (none_same c.args.left.now c.loop-kind.rest.now c.loop-kind.kind-index (omega (arith, c.loop-kind-test.true)) (omega (arith, c.in_default.len_below)))
    ∙ c.loop-kind.invariant
