use Rattle.sound_cores.proofs.Kept.{sound-setup}
use Rattle.sound_cores.proofs.laws.setups_of_sound_cores_are_sound_where_barriers_are_met.Goals as goal

pub returns : goal.returns
returns c = sound-setup
