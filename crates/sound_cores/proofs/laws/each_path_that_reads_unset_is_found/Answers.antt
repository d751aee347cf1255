use Rattle.sound_cores.proofs.Going.{path-found}
use Rattle.sound_cores.proofs.laws.each_path_that_reads_unset_is_found.Goals as goal

pub returns : goal.returns
returns c = path-found
