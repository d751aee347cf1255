use Rattle.parser.proofs.Sound.{expression-sound}
use Rattle.parser.proofs.laws.an_expression_that_is_read_is_in_the_grammar.Goals as goal

pub returns : goal.returns
returns c = expression-sound
