use Rattle.semantics.proofs.Places.{place-is, number-is}
use Rattle.semantics.proofs.numbers.places_are_numbered.Goals as goal

pub returns : goal.returns
returns c = record { place = place-is; number = number-is }
