use Rattle.std.proofs.Common.{◌≡◌, ◌<◌, ℕ, false}
use Rattle.semantics.specs.Setup.{Setup, group_size}
use Rattle.clashes.specs.Histories.{clash_at}
use Rattle.clashes.specs.declared.access.Access.{Access}
use Rattle.clashes.proofs.watch.earlier.Given as goal

abbrev pub invariant-loop-k : goal.invariant-loop-k
invariant-loop-k l = (s : Setup) (d : Access) → group_size s ≡ l.size → (k : ℕ) → k < l.k → clash_at s l.history d k l.place ≡ false
