use Rattle.sound_cores.proofs.Kept.{sound-proper}
use Rattle.sound_cores.proofs.laws.what_is_sound_is_proper.Goals as goal

pub returns : goal.returns
returns c = sound-proper
