use Rattle.sound_cores.proofs.Kept.{sound-within}
use Rattle.sound_cores.proofs.laws.what_is_sound_is_within.Goals as goal

pub returns : goal.returns
returns c = sound-within
