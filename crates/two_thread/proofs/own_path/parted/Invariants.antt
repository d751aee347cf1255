use Rattle.std.proofs.Common.{◌≡◌, true, length}
use Rattle.obligations.specs.Owning.{all_own_accesses, all_own_ends}
use Rattle.two_thread.specs.Paths.{all_accesses, all_ends}
use Rattle.two_thread.proofs.own_path.parted.Given as goal

abbrev pub invariant-loop-tagged : goal.invariant-loop-tagged
invariant-loop-tagged g l = (all_own_accesses (all_accesses l.left.items) ≡ true) × (all_own_ends (all_ends l.left.items) ≡ true)

abbrev pub decreases-loop-tagged : goal.decreases-loop-tagged
decreases-loop-tagged g l = length l.left.items
