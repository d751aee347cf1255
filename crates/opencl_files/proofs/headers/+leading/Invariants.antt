use Rattle.std.proofs.Common.{ℕ}
use Rattle.opencl_files.proofs.headers.+leading.Given as goal

abbrev pub decreases-leading : goal.decreases-leading
decreases-leading l = l.left
