use Rattle.samples.proofs.Gathering.{gathers-safe, gathers-headline, gathers-stops, gathers-unbounded}
use Rattle.samples.proofs.bounded.a_bounded_index_is_inside.Goals as goal

pub returns : goal.returns
returns c = record { within = gathers-safe; headline = gathers-headline; stops = gathers-stops; without = gathers-unbounded }
