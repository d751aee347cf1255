use Rattle.std.proofs.Common.{ℕ}
use Rattle.opencl_files.proofs.parameters.+more_parameters.Given as goal

abbrev pub decreases-more_parameters : goal.decreases-more_parameters
decreases-more_parameters l = l.left
