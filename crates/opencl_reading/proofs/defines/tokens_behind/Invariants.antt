use Rattle.std.proofs.Common.{◌≡◌, drop, map}
use Rattle.opencl_tokens.specs.Seen.{joined, token}
use Rattle.opencl_reading.specs.Defines.{tokens_behind}
use Rattle.opencl_reading.proofs.defines.tokens_behind.Given as goal

abbrev pub invariant-loop-line : goal.invariant-loop-line
invariant-loop-line l =
    tokens_behind (map token l.all.items) (map joined (drop l.line-index l.lines)) ≡ tokens_behind (map token l.given) (map joined l.lines)
