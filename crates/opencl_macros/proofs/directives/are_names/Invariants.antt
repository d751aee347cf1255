use Rattle.std.proofs.Common.{◌≡◌, true, drop}
use Rattle.opencl_macros.specs.Directives.{are_names}
use Rattle.opencl_macros.specs.Seen.{tokens_seen}
use Rattle.opencl_macros.proofs.directives.are_names.Given as goal

abbrev pub invariant-loop-i : goal.invariant-loop-i
invariant-loop-i l = are_names l.name_due (tokens_seen (drop l.i l.tokens)) ≡ are_names true (tokens_seen l.tokens)
