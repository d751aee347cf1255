use Rattle.std.proofs.Common.{◌≡◌, drop}
use Rattle.std.specs.Prelude.{map}
use Rattle.std.specs.List.{find}
use Rattle.std.specs.Str.{bytes_eq}
use Rattle.opencl_tokens.specs.Words.{words}
use Rattle.opencl_tokens.specs.Spelling.{word_entry}
use Rattle.opencl_tokens.proofs.lexing.named.Given as goal

abbrev pub invariant-loop-text : goal.invariant-loop-text
invariant-loop-text l = find (λ entry. bytes_eq entry.0 l.name) words
    ≡ find (λ entry. bytes_eq entry.0 l.name) (map word_entry (drop l.text-index l.text-items))
