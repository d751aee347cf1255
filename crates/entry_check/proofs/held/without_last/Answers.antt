use Rattle.std.proofs.Common.{rules, ◌≡◌, ◌-◌, length, ap, ◌∙◌}
use Rattle.obligations.specs.Owning.{all_own_accesses, all_own_ends}
use Rattle.two_thread.specs.Paths.{all_accesses, all_ends}
use Rattle.entry_check.proofs.Holding.{before_last, own_ends_first, own_first}
use Rattle.entry_check.proofs.Unshown.{ok_mapped}
use Rattle.entry_check.proofs.held.without_last.Goals as goal

pub of-requires-clause-accesses : goal.of-requires-clause-accesses
of-requires-clause-accesses g c = ap (λ ps. all_own_accesses (all_accesses ps)) c.truncate.ensures.items ∙ own_first c.into_paths-paths.result.items c.saturating_sub.result c.into_paths-paths.ensures.accesses

pub of-requires-clause-ends : goal.of-requires-clause-ends
of-requires-clause-ends g c = ap (λ ps. all_own_ends (all_ends ps)) c.truncate.ensures.items ∙ own_ends_first c.into_paths-paths.result.items c.saturating_sub.result c.into_paths-paths.ensures.ends

pub returns-clause-paths : goal.returns-clause-paths
returns-clause-paths g c =
    let n : c.saturating_sub.result ≡ length c.into_paths-paths.result.items - 1 = search rules in
    ok_mapped c.of.result _ _ (λ m e. λ ps p h. e ∙ c.truncate.ensures.items ∙ before_last c.into_paths-paths.result.items ps p c.saturating_sub.result (c.into_paths-paths.ensures.paths ∙ h) n) c.of.ensures.paths
