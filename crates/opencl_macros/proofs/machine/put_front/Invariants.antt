use Rattle.std.proofs.Common.{◌≡◌, ◌-◌, ◌++◌, drop}
use Rattle.opencl_macros.specs.Seen.{feed}
use Rattle.opencl_macros.proofs.machine.put_front.Given as goal

abbrev pub invariant-loop-i : goal.invariant-loop-i
invariant-loop-i l = feed l.feed.items ≡ feed (drop (l.count - l.i) l.tokens) ++ feed l.initial.feed.items
