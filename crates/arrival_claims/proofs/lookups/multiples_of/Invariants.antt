use Rattle.std.proofs.Common.{◌≡◌, drop}
use Rattle.obligations.specs.View as view
use Rattle.arrival_claims.proofs.lookups.multiples_of.Given as goal

abbrev pub invariant-loop-lines : goal.invariant-loop-lines
invariant-loop-lines l = view.multiples_of (drop l.lines-index l.places) l.anchor l.head ≡ view.multiples_of l.places l.anchor l.head
