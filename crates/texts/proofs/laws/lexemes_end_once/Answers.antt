use Rattle.texts.proofs.Endings.{lexemes_ended}
use Rattle.texts.proofs.laws.lexemes_end_once.Goals as goal

pub returns : goal.returns
returns c = lexemes_ended
