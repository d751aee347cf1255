use Rattle.std.proofs.Common.{[], ◌∷◌, ◌++◌, ap, ◌∙◌}
use Rattle.obligations.specs.Owning.{all_own_accesses, all_own_ends}
use Rattle.two_thread.specs.Paths.{all_accesses, all_ends, accesses_of, ends_of}
use Rattle.two_thread.proofs.Spreading.{accesses_are, ends_are}
use Rattle.two_thread.proofs.own_path.own_paths.Goals as goal

pub parted-requires-clause-accesses : goal.parted-requires-clause-accesses
parted-requires-clause-accesses g c =
    let one = c.push.new.self.items in
    ap (λ l. all_own_accesses (all_accesses l)) c.in_ok-paths.ensures ∙ ap all_own_accesses (accesses_are one) ∙ ap (λ l. all_own_accesses (accesses_of l)) c.in_ok-push.ensures.items ∙ ap (λ l. all_own_accesses (accesses_of (l ++ c.args.walked ∷ []))) c.new-one.ensures.items ∙ c.requires.accesses

pub parted-requires-clause-ends : goal.parted-requires-clause-ends
parted-requires-clause-ends g c =
    let one = c.push.new.self.items in
    ap (λ l. all_own_ends (all_ends l)) c.in_ok-paths.ensures ∙ ap all_own_ends (ends_are one) ∙ ap (λ l. all_own_ends (ends_of l)) c.in_ok-push.ensures.items ∙ ap (λ l. all_own_ends (ends_of (l ++ c.args.walked ∷ []))) c.new-one.ensures.items ∙ c.requires.ends
