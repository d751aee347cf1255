use Rattle.std.proofs.Common.{◌≡◌, drop}
use Rattle.opencl_macros.specs.Expansion.{opens}
use Rattle.opencl_macros.specs.Seen.{feed}
use Rattle.opencl_macros.proofs.feed.opens.Given as goal

abbrev pub invariant-loop-i : goal.invariant-loop-i
invariant-loop-i l = opens (feed (drop l.i l.feed.items)) ≡ opens (feed l.feed.items)
