-- What a loop's ranking does, as notes have it.
use Rattle.obligations.specs.Notes as notes
use Rattle.arrival_claims.specs.declared.progress.Progress.{Progress}
use Rattle.arrival_claims.specs.declared.progress.Progress.TheVariants as progress

abbrev pub bound : Progress → notes.Bound
bound (progress.Down step most) = notes.Down step most
bound (progress.Halving most) = notes.Halving most
bound (progress.Doubling least most) = notes.Doubling least most
