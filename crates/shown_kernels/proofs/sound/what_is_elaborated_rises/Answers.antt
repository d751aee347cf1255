use Rattle.shown_kernels.proofs.Numbering.{elaborated-rises, elaborated-told}
use Rattle.shown_kernels.proofs.sound.what_is_elaborated_rises.Goals as goal

pub returns : goal.returns
returns c = record { rises = elaborated-rises; told = elaborated-told }
