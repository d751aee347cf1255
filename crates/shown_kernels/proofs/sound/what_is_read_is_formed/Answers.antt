use Rattle.shown_kernels.proofs.FormedReads.{read-formed}
use Rattle.shown_kernels.proofs.sound.what_is_read_is_formed.Goals as goal

pub returns : goal.returns
returns c = read-formed
