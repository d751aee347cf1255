use Rattle.shown_kernels.proofs.FormedReads.{read-is_sound}
use Rattle.shown_kernels.proofs.sound.what_is_read_is_sound_where_barriers_are_met.Goals as goal

pub returns : goal.returns
returns c = read-is_sound
