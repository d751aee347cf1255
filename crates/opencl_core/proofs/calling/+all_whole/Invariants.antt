use Rattle.std.proofs.Common.{length}
use Rattle.opencl_core.proofs.calling.+all_whole.Given as goal

abbrev pub decreases-all_whole : goal.decreases-all_whole
decreases-all_whole l = length l.parameters.now
