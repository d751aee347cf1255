use Rattle.std.proofs.Common.{ℕ}
use Rattle.opencl_parser.proofs.type_names.+starring.Given as goal

abbrev pub decreases-starring : goal.decreases-starring
decreases-starring l = l.left
