use Rattle.std.proofs.lemmas.Str.{IsUtf8-from_ascii}
use Rattle.lexer.proofs.Pieces.{word_ascii}
use Rattle.lexer.proofs.kind_of_word.Goals as goal

pub unreachable-requires : goal.unreachable-requires
unreachable-requires c = c.in-Err.ensures.cases.0 (IsUtf8-from_ascii c.args.word.now (word_ascii c.args.word.now c.requires))
