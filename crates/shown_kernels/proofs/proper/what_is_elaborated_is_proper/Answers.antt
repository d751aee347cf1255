use Rattle.shown_kernels.proofs.Elaborating.{elaborated-proper}
use Rattle.shown_kernels.proofs.proper.what_is_elaborated_is_proper.Goals as goal

pub returns : goal.returns
returns c = elaborated-proper
