use Rattle.std.proofs.Common.{◌≡◌, [], drop}
use Rattle.opencl_values.specs.Members.{are_different}
use Rattle.opencl_values.proofs.members.are_different.Given as goal

abbrev pub invariant-loop-one : goal.invariant-loop-one
invariant-loop-one l =
    are_different l.so_far.items (drop l.one-index l.picked) ≡ are_different [] l.picked
