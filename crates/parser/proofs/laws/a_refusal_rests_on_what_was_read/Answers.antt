use Rattle.parser.proofs.Locality.{refused_there}
use Rattle.parser.proofs.laws.a_refusal_rests_on_what_was_read.Goals as goal

pub returns : goal.returns
returns c = refused_there
