use Rattle.shown_kernels.proofs.FormedReads.{read-orderly}
use Rattle.shown_kernels.proofs.sound.what_is_read_is_orderly.Goals as goal

pub returns : goal.returns
returns c = read-orderly
