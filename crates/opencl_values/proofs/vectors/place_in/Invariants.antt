use Rattle.std.proofs.Common.{◌≡◌, drop}
use Rattle.opencl_values.specs.Vectors.{place_in}
use Rattle.opencl_values.proofs.vectors.place_in.Given as goal

abbrev pub invariant-loop-one : goal.invariant-loop-one
invariant-loop-one l =
    place_in (drop l.one-index l.picked) l.count l.place ≡ place_in l.picked 0 l.place
