use Rattle.sound_cores.proofs.Kept.{sound-orderly}
use Rattle.sound_cores.proofs.laws.what_is_sound_is_orderly.Goals as goal

pub returns : goal.returns
returns c = sound-orderly
