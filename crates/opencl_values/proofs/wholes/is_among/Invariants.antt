use Rattle.std.proofs.Common.{◌≡◌, drop}
use Rattle.opencl_values.specs.Wholes.{is_among}
use Rattle.opencl_values.proofs.wholes.is_among.Given as goal

abbrev pub invariant-loop-one : goal.invariant-loop-one
invariant-loop-one l = is_among (drop l.one-index l.picked) l.place ≡ is_among l.picked l.place
