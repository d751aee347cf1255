use Rattle.std.proofs.Common.{◌≡◌, drop}
use Rattle.two_thread.specs.Alike.{alike_of}
use Rattle.two_thread.proofs.alike.same_of_barrier.Given as goal

abbrev pub invariant-loop-place : goal.invariant-loop-place
invariant-loop-place l = alike_of (drop l.place-index l.alike) l.barrier ≡ alike_of l.alike l.barrier
