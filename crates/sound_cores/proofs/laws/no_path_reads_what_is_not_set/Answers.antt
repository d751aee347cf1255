use Rattle.sound_cores.proofs.Going.{none-unset}
use Rattle.sound_cores.proofs.laws.no_path_reads_what_is_not_set.Goals as goal

pub returns : goal.returns
returns c = none-unset
