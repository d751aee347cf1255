use Rattle.std.proofs.Common.{◌≡◌, drop, map}
use Rattle.core_code.specs.View.{site}
use Rattle.opencl_tree.specs.View.{maybe}
use Rattle.opencl_core.specs.Declaring.{lengths_behind, no_lengths}
use Rattle.opencl_core.specs.View.{room, lengths}
use Rattle.opencl_core.proofs.declaring.lengths_of.Given as goal

abbrev pub invariant-loop-dimension : goal.invariant-loop-dimension
invariant-loop-dimension l =
    lengths_behind (site l.at) (lengths l.so) (map maybe (drop l.dimension-index l.dimensions)) (room l.room)
    ≡ lengths_behind (site l.at) no_lengths (map maybe l.dimensions) (room l.room)
