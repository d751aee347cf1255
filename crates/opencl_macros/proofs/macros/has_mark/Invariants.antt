use Rattle.std.proofs.Common.{◌≡◌, drop}
use Rattle.opencl_tokens.specs.Spelling.{sign}
use Rattle.opencl_macros.specs.Macros.{has_mark}
use Rattle.opencl_macros.specs.Seen.{tokens_seen}
use Rattle.opencl_macros.proofs.macros.has_mark.Given as goal

abbrev pub invariant-loop-token : goal.invariant-loop-token
invariant-loop-token l =
    has_mark (sign l.wanted) (tokens_seen (drop l.token-index l.tokens)) ≡ has_mark (sign l.wanted) (tokens_seen l.tokens)
