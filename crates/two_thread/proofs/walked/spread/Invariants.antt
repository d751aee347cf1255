use Rattle.std.proofs.Common.{◌≡◌, ◌++◌}
use Rattle.two_thread.specs.Spread.{spread}
use Rattle.two_thread.proofs.walked.spread.Given as goal

abbrev pub invariant-loop-place : goal.invariant-loop-place
invariant-loop-place g l = l.found.items ++ spread l.place-iterator.rest.items ≡ spread l.fn.walked.items
