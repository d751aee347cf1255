use Rattle.shown_kernels.proofs.FormedReads.{read-within}
use Rattle.shown_kernels.proofs.sound.what_is_read_is_within.Goals as goal

pub returns : goal.returns
returns c = read-within
