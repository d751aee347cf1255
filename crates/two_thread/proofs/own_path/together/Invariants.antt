use Rattle.std.proofs.Common.{◌≡◌, true}
use Rattle.obligations.specs.Owning.{all_own_accesses, all_own_ends}
use Rattle.two_thread.specs.Paths.{all_accesses, all_ends}
use Rattle.two_thread.proofs.own_path.together.Given as goal

abbrev pub invariant-loop-path : goal.invariant-loop-path
invariant-loop-path g l = (all_own_accesses (all_accesses l.found.items) ≡ true) × (all_own_ends (all_ends l.found.items) ≡ true)
