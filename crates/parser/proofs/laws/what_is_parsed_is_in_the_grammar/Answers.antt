use Rattle.parser.proofs.Exact.{parsed-sound}
use Rattle.parser.proofs.laws.what_is_parsed_is_in_the_grammar.Goals as goal

pub returns : goal.returns
returns c = parsed-sound
