use Rattle.std.proofs.Common.{◌≡◌, ◌∙◌, sym, subst, take, length}
use Rattle.std.specs.List.{prefix_len}
use Rattle.lines.specs.Bytes.{is_word_byte}
use Rattle.texts.proofs.Reading.{run}
use Rattle.lexer.proofs.Pieces.{word_piece}
use Rattle.lexer.specs.Seen.{kind}
use Rattle.lexer.proofs.piece_at.Goals as goal

pub returns-then-is_letter : goal.returns-then-is_letter
returns-then-is_letter c =
    word_piece c.args.first c.args.bytes.now (kind c.kind_of_word.result) c.word_len-count.result
    (sym c.is_blank.ensures ∙ c.if-is_blank.false) (sym c.is_letter.ensures ∙ c.if-is_letter.true) c.word_len-count.ensures.word c.kind_of_word.ensures

pub kind_of_word-requires : goal.kind_of_word-requires
kind_of_word-requires c =
    subst (λ n. prefix_len is_word_byte (take n c.args.bytes.now) ≡ length (take n c.args.bytes.now)) (sym c.word_len-count.ensures.word) (run is_word_byte c.args.bytes.now).0
