use Rattle.std.proofs.Common.{length}
use Rattle.opencl_jumps.proofs.labels.+body_fits.Given as goal

abbrev pub decreases-body_fits : goal.decreases-body_fits
decreases-body_fits l = length l.of.now
