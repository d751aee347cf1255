use Rattle.std.proofs.Common.{◌≡◌, [], length}
use Rattle.opencl_macros.specs.Expansion.{gathered}
use Rattle.opencl_macros.specs.Seen.{active, arguments, feed}
use Rattle.opencl_macros.proofs.feed.gathered.Given as goal

abbrev pub invariant-loop-item : goal.invariant-loop-item
invariant-loop-item l =
    gathered l.deep (active l.active.items) (arguments l.done.items) (feed l.front.items) (feed l.feed.items)
    ≡ gathered 0 (active l.initial.active.items) [] [] (feed l.initial.feed.items)

abbrev pub decreases-loop-item : goal.decreases-loop-item
decreases-loop-item l = length l.feed.items
