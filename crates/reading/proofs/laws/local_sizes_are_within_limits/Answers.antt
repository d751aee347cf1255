use Rattle.reading.proofs.Sizes.{sizes-read}
use Rattle.reading.proofs.laws.local_sizes_are_within_limits.Goals as goal

pub returns : goal.returns
returns c = sizes-read
