use Rattle.std.proofs.Common.{◌≡◌, drop}
use Rattle.std.specs.Prelude.{map}
use Rattle.std.specs.List.{find}
use Rattle.std.specs.Str.{bytes_eq}
use Rattle.opencl_tokens.specs.Scalars.{types}
use Rattle.opencl_tokens.specs.Spelling.{type_entry}
use Rattle.opencl_tokens.proofs.lexing.type_or_name.Given as goal

abbrev pub invariant-loop-text : goal.invariant-loop-text
invariant-loop-text l = find (λ entry. bytes_eq entry.0 l.name) types
    ≡ find (λ entry. bytes_eq entry.0 l.name) (map type_entry (drop l.text-index l.text-items))
