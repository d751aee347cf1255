use Rattle.std.proofs.Common.{ap, sym, ◌∙◌}
use Rattle.obligations.specs.Owning.{all_own_accesses, all_own_ends}
use Rattle.two_thread.specs.Paths.{all_accesses, all_ends}
use Rattle.two_thread.proofs.OwnRows.{accesses-pop, ends-pop}
use Rattle.two_thread.proofs.own_path.parted.Goals as goal

pub invariant_of-push : goal.invariant_of-push
invariant_of-push g c =
    let rest = c.pop.new.self.items in
    let last = c.in-Some.tagged in
    let is = c.in-Some.ensures.items in
    let kept = c.loop-tagged.invariant in
    record {
      accesses = (accesses-pop rest last (ap (λ l. all_own_accesses (all_accesses l)) (sym is) ∙ kept.0)).1;
      ends = (ends-pop rest last (ap (λ l. all_own_ends (all_ends l)) (sym is) ∙ kept.1)).1;
    }

pub loop-tagged-preserved : goal.loop-tagged-preserved
loop-tagged-preserved g c =
    let rest = c.pop.new.self.items in
    let last = c.in-Some.tagged in
    let is = c.in-Some.ensures.items in
    let kept = c.loop-tagged.invariant in
    ((accesses-pop rest last (ap (λ l. all_own_accesses (all_accesses l)) (sym is) ∙ kept.0)).0, (ends-pop rest last (ap (λ l. all_own_ends (all_ends l)) (sym is) ∙ kept.1)).0)
