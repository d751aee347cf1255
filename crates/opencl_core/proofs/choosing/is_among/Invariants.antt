use Rattle.std.proofs.Common.{◌≡◌, drop, map}
use Rattle.opencl_core.specs.Choosing.{is_among}
use Rattle.opencl_core.specs.ChoosingView.{label}
use Rattle.opencl_core.proofs.choosing.is_among.Given as goal

abbrev pub invariant-loop-one : goal.invariant-loop-one
invariant-loop-one l = is_among (map label (drop l.one-index l.labels)) (label l.of) ≡ is_among (map label l.labels) (label l.of)
