use Rattle.shown_kernels.proofs.ProperReads.{read-proper}
use Rattle.shown_kernels.proofs.proper.what_is_read_is_proper.Goals as goal

pub returns : goal.returns
returns c = read-proper
