use Rattle.std.proofs.Common.{◌≡◌, drop}
use Rattle.std.specs.Prelude.{map}
use Rattle.opencl_tokens.specs.Faults.{in_front}
use Rattle.opencl_tokens.specs.Reading.{lexemes_of}
use Rattle.opencl_tokens.specs.Seen.{token, lexeme}
use Rattle.opencl_tokens.proofs.lexing.lexemes.Given as goal

abbrev pub invariant-loop-token : goal.invariant-loop-token
invariant-loop-token l = lexemes_of (map token l.tokens) ≡ in_front (map lexeme l.lexemes.items)
    (lexemes_of (map token (drop l.token-index l.tokens)))
