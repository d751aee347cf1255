use Rattle.sound_cores.proofs.Kept.{sound-rises}
use Rattle.sound_cores.proofs.laws.what_is_sound_rises.Goals as goal

pub returns : goal.returns
returns c = sound-rises
