use Rattle.shown_kernels.proofs.FormedReads.{read-rises, read-told}
use Rattle.shown_kernels.proofs.sound.what_is_read_rises.Goals as goal

pub returns : goal.returns
returns c = record { rises = read-rises; told = read-told }
