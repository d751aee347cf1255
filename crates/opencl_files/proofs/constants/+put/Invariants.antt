use Rattle.std.proofs.Common.{length}
use Rattle.opencl_files.proofs.constants.+put.Given as goal

abbrev pub decreases-put : goal.decreases-put
decreases-put l = length l.chunks.now
