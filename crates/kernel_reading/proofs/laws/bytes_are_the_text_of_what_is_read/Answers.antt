use Rattle.kernel_reading.proofs.KernelReads.{read-sound}
use Rattle.kernel_reading.proofs.laws.bytes_are_the_text_of_what_is_read.Goals as goal

pub returns : goal.returns
returns c = read-sound
