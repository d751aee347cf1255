use Rattle.std.proofs.Common.{◌≡◌, ◌++◌, drop}
use Rattle.opencl_macros.specs.Seen.{feed}
use Rattle.opencl_macros.proofs.machine.fed_with.Given as goal

abbrev pub invariant-loop-token : goal.invariant-loop-token
invariant-loop-token l = feed l.feed.items ++ feed (drop l.token-index l.tokens) ≡ feed l.tokens
