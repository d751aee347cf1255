use Rattle.shown_kernels.proofs.Declaring.{elaborated-within}
use Rattle.shown_kernels.proofs.sound.what_is_elaborated_is_within.Goals as goal

pub returns : goal.returns
returns c = elaborated-within
