use Rattle.std.proofs.Common.{ap, ◌∙◌}
use Rattle.obligations.specs.Owning.{all_own_accesses, all_own_ends}
use Rattle.two_thread.specs.Paths.{all_accesses, all_ends}
use Rattle.two_thread.proofs.OwnRows.{accesses-push, ends-push}
use Rattle.entry_check.proofs.held.with_last.Goals as goal

pub of-requires-clause-accesses : goal.of-requires-clause-accesses
of-requires-clause-accesses g c =
    ap (λ l. all_own_accesses (all_accesses l)) c.in_ok-push.ensures.items ∙ accesses-push c.into_paths-paths.result.items c.args.path c.into_paths-paths.ensures.accesses c.requires.accesses

pub of-requires-clause-ends : goal.of-requires-clause-ends
of-requires-clause-ends g c =
    ap (λ l. all_own_ends (all_ends l)) c.in_ok-push.ensures.items ∙ ends-push c.into_paths-paths.result.items c.args.path c.into_paths-paths.ensures.ends c.requires.ends
