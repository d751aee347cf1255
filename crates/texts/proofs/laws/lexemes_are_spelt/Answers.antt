use Rattle.texts.proofs.Spellings.{lexemes_spelt}
use Rattle.texts.proofs.laws.lexemes_are_spelt.Goals as goal

pub returns : goal.returns
returns c = lexemes_spelt
