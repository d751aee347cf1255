use Rattle.sound_cores.proofs.Kept.{sound-formed}
use Rattle.sound_cores.proofs.laws.what_is_sound_is_formed.Goals as goal

pub returns : goal.returns
returns c = sound-formed
