use Rattle.kernel_reading.proofs.KernelReads.{sizes-kept}
use Rattle.kernel_reading.proofs.laws.local_sizes_are_within_limits.Goals as goal

pub returns : goal.returns
returns c = sizes-kept
