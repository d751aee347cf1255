use Rattle.sound_cores.proofs.Kept.{sound-told}
use Rattle.sound_cores.proofs.laws.what_is_sound_is_told_apart.Goals as goal

pub returns : goal.returns
returns c = sound-told
