use Rattle.semantics.proofs.Events.{event-rests}
use Rattle.semantics.proofs.worlds.the_ended_stay.Goals as goal

pub returns : goal.returns
returns c = event-rests
