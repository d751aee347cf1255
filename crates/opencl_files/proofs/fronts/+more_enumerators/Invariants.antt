use Rattle.std.proofs.Common.{ℕ}
use Rattle.opencl_files.proofs.fronts.+more_enumerators.Given as goal

abbrev pub decreases-more_enumerators : goal.decreases-more_enumerators
decreases-more_enumerators l = l.left
