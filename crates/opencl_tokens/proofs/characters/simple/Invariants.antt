use Rattle.std.proofs.Common.{◌≡◌, drop, nat_eq}
use Rattle.std.specs.List.{find}
use Rattle.opencl_tokens.specs.Characters.{escapes}
use Rattle.opencl_tokens.proofs.characters.simple.Given as goal

abbrev pub invariant-loop-letter : goal.invariant-loop-letter
invariant-loop-letter l = find (λ entry. nat_eq entry.0 l.c) escapes
    ≡ find (λ entry. nat_eq entry.0 l.c) (drop l.letter-index l.letter-items)
