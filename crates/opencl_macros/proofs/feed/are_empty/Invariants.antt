use Rattle.std.proofs.Common.{◌≡◌, drop}
use Rattle.opencl_macros.specs.Expansion.{are_empty}
use Rattle.opencl_macros.specs.Seen.{arguments}
use Rattle.opencl_macros.proofs.feed.are_empty.Given as goal

abbrev pub invariant-loop-argument : goal.invariant-loop-argument
invariant-loop-argument l = are_empty (arguments (drop l.argument-index l.arguments)) ≡ are_empty (arguments l.arguments)
