use Rattle.std.proofs.Common.{◌≡◌, drop}
use Rattle.opencl_macros.specs.Directives.{has_name}
use Rattle.opencl_macros.specs.Seen.{tokens_seen}
use Rattle.opencl_macros.proofs.directives.has_name.Given as goal

abbrev pub invariant-loop-token : goal.invariant-loop-token
invariant-loop-token l = has_name l.name (tokens_seen (drop l.token-index l.tokens)) ≡ has_name l.name (tokens_seen l.tokens)
