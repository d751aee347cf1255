use Rattle.std.proofs.Common.{◌≡◌, drop}
use Rattle.std.specs.Prelude.{map}
use Rattle.std.specs.List.{find}
use Rattle.std.specs.Str.{bytes_eq}
use Rattle.opencl_tokens.specs.Numbers.{suffixes}
use Rattle.opencl_tokens.specs.Seen.{suffix_entry}
use Rattle.opencl_tokens.proofs.numbers.suffix_of.Given as goal

abbrev pub invariant-loop-text : goal.invariant-loop-text
invariant-loop-text l = find (λ entry. bytes_eq entry.0 l.bytes) suffixes
    ≡ find (λ entry. bytes_eq entry.0 l.bytes) (map suffix_entry (drop l.text-index l.text-items))
