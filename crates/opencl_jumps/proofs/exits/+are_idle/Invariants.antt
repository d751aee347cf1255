use Rattle.std.proofs.Common.{length}
use Rattle.opencl_jumps.proofs.exits.+are_idle.Given as goal

abbrev pub decreases-are_idle : goal.decreases-are_idle
decreases-are_idle l = length l.of.now
