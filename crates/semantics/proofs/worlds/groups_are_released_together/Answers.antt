use Rattle.semantics.proofs.Releases.{released-together, release-possible}
use Rattle.semantics.proofs.worlds.groups_are_released_together.Goals as goal

pub returns : goal.returns
returns c = record { together = released-together; possible = release-possible }
