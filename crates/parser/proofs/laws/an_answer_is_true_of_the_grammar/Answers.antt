use Rattle.parser.proofs.Truth.{answered-truly}
use Rattle.parser.proofs.laws.an_answer_is_true_of_the_grammar.Goals as goal

pub returns : goal.returns
returns c = answered-truly
