use Rattle.std.proofs.Common.{ℕ}
use Rattle.opencl_parser.proofs.type_names.+qualifying.Given as goal

abbrev pub decreases-qualifying : goal.decreases-qualifying
decreases-qualifying l = l.left
