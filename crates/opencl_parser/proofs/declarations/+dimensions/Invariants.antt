use Rattle.std.proofs.Common.{ℕ}
use Rattle.opencl_parser.proofs.declarations.+dimensions.Given as goal

abbrev pub decreases-dimensions : goal.decreases-dimensions
decreases-dimensions l = l.left
