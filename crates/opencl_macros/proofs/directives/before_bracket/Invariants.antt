use Rattle.std.proofs.Common.{◌≡◌, ◌+◌, drop}
use Rattle.opencl_macros.specs.Directives.{before_bracket}
use Rattle.opencl_macros.specs.Seen.{tokens_seen}
use Rattle.opencl_macros.proofs.directives.before_bracket.Given as goal

abbrev pub invariant-loop-i : goal.invariant-loop-i
invariant-loop-i l = before_bracket (tokens_seen l.tokens) ≡ l.i + before_bracket (tokens_seen (drop l.i l.tokens))
