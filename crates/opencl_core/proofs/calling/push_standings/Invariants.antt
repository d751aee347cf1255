use Rattle.std.proofs.Common.{◌≡◌, ◌++◌, drop, map}
use Rattle.kernel_names.specs.View.{standing}
use Rattle.opencl_core.specs.Calling.{moved_standing}
use Rattle.opencl_core.proofs.calling.push_standings.Given as goal

abbrev pub invariant-loop-standing : goal.invariant-loop-standing
invariant-loop-standing l =
    map standing l.all.items ++ map (moved_standing l.behind) (map standing (drop l.standing-index l.of))
    ≡ map standing l.initial.all.items ++ map (moved_standing l.behind) (map standing l.of)
