use Rattle.std.proofs.Common.{ℕ}
use Rattle.opencl_parser.proofs.declarations.+specifying.Given as goal

abbrev pub decreases-specifying : goal.decreases-specifying
decreases-specifying l = l.left
