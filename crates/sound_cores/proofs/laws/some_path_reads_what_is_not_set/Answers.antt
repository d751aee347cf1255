use Rattle.sound_cores.proofs.Reaching.{some-unset}
use Rattle.sound_cores.proofs.laws.some_path_reads_what_is_not_set.Goals as goal

pub returns : goal.returns
returns c = some-unset
