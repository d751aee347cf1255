use Rattle.std.proofs.Common.{◌≡◌, drop}
use Rattle.std.specs.Prelude.{map}
use Rattle.std.specs.List.{find}
use Rattle.texts.specs.Tokens.{begins_with}
use Rattle.opencl_tokens.specs.Signs.{signs}
use Rattle.opencl_tokens.specs.Spelling.{sign_entry}
use Rattle.opencl_tokens.proofs.pieces.sign_at.Given as goal

abbrev pub invariant-loop-text : goal.invariant-loop-text
invariant-loop-text l = find (λ entry. begins_with l.bytes entry.0) signs
    ≡ find (λ entry. begins_with l.bytes entry.0) (map sign_entry (drop l.text-index l.text-items))
