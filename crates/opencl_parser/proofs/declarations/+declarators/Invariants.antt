use Rattle.std.proofs.Common.{ℕ}
use Rattle.opencl_parser.proofs.declarations.+declarators.Given as goal

abbrev pub decreases-more_declarators : goal.decreases-more_declarators
decreases-more_declarators l = l.left
