use Rattle.std.proofs.Common.{ℕ, length}
use Rattle.opencl_core.proofs.rooms.+add_components.Given as goal

abbrev pub decreases-add_components : goal.decreases-add_components
decreases-add_components l = length l.places.now
