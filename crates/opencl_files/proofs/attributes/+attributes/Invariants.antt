use Rattle.std.proofs.Common.{ℕ}
use Rattle.opencl_files.proofs.attributes.+attributes.Given as goal

abbrev pub decreases-attributes : goal.decreases-attributes
decreases-attributes l = l.left
