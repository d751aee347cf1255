use Rattle.std.proofs.Common.{ℕ}
use Rattle.opencl_parser.proofs.type_names.+typing.Given as goal

abbrev pub decreases-typing : goal.decreases-typing
decreases-typing l = l.left
