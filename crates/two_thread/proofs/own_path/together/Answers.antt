use Rattle.std.proofs.Common.{ap, ◌∙◌}
use Rattle.obligations.specs.Owning.{all_own_accesses, all_own_ends}
use Rattle.two_thread.specs.Paths.{all_accesses, all_ends}
use Rattle.two_thread.proofs.OwnRows.{accesses-push, ends-push}
use Rattle.two_thread.proofs.own_path.together.Goals as goal

pub loop-path-preserved : goal.loop-path-preserved
loop-path-preserved g c =
    let so_far = c.loop-path.found.items in
    let path = c.in-Some.path in
    let is = c.in_ok-push.ensures.items in
    let kept = c.loop-path.invariant in
    (ap (λ l. all_own_accesses (all_accesses l)) is ∙ accesses-push so_far path.tagged kept.0 path.accesses, ap (λ l. all_own_ends (all_ends l)) is ∙ ends-push so_far path.tagged kept.1 path.ends)
