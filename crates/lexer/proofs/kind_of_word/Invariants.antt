use Rattle.std.proofs.Common.{◌≡◌, drop}
use Rattle.std.specs.Prelude.{map}
use Rattle.std.specs.List.{find}
use Rattle.std.specs.Str.{bytes_eq}
use Rattle.texts.specs.Reserved.{reserved_words}
use Rattle.lexer.specs.Spelling.{word_entry}
use Rattle.lexer.proofs.kind_of_word.Given as goal

abbrev pub invariant-loop-text : goal.invariant-loop-text
invariant-loop-text l = find (λ entry. bytes_eq entry.0 l.word) reserved_words ≡ find (λ entry. bytes_eq entry.0 l.word) (map word_entry (drop l.text-index l.text-items))
