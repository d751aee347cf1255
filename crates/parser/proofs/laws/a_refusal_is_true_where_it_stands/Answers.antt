use Rattle.parser.proofs.Truth.{refused-truly}
use Rattle.parser.proofs.laws.a_refusal_is_true_where_it_stands.Goals as goal

pub returns : goal.returns
returns c = refused-truly
