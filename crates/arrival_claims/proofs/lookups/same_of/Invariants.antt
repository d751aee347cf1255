use Rattle.std.proofs.Common.{◌≡◌, drop}
use Rattle.obligations.specs.View as view
use Rattle.arrival_claims.proofs.lookups.same_of.Given as goal

abbrev pub invariant-loop-lines : goal.invariant-loop-lines
invariant-loop-lines l = view.same_of (drop l.lines-index l.places) l.barrier ≡ view.same_of l.places l.barrier
