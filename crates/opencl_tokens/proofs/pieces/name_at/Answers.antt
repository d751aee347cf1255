use Rattle.std.proofs.Common.{◌≡◌, sym, subst, take, length}
use Rattle.std.specs.List.{prefix_len}
use Rattle.std.proofs.lemmas.Str.{IsUtf8-from_ascii}
use Rattle.lines.specs.Bytes.{is_word_byte}
use Rattle.texts.proofs.Reading.{run}
use Rattle.opencl_tokens.proofs.Spans.{word_ascii}
use Rattle.opencl_tokens.proofs.pieces.name_at.Goals as goal

pub unreachable-requires : goal.unreachable-requires
unreachable-requires c =
    let all = subst (λ n. prefix_len is_word_byte (take n c.args.bytes.now) ≡ length (take n c.args.bytes.now))
    (sym c.word_len-count.ensures.word) (run is_word_byte c.args.bytes.now).0 in
    c.in-Err.ensures.cases.0 (IsUtf8-from_ascii (take c.word_len-count.result c.args.bytes.now)
    (word_ascii (take c.word_len-count.result c.args.bytes.now) all))
