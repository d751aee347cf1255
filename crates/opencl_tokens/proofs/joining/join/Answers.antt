use Rattle.std.proofs.Common.{◌≡◌, ap, ◌∙◌, arith, drop}
use Rattle.std.specs.Prelude.{map}
use Rattle.std.proofs.lemmas.List.{take_rest, map-append}
use Rattle.opencl_tokens.specs.Joining.{behind, joined}
use Rattle.opencl_tokens.specs.Seen.{site}
use Rattle.opencl_tokens.proofs.JoinedLines.{past_stays, past_goes}
use Rattle.opencl_tokens.proofs.joining.join.Goals as goal
use Rattle.opencl_tokens.proofs.joining.join.Goals.{in-Stays+in_ok-push-in-Stays+in_ok-push-in-Stays-2, in-Goes}

pub loop-at-preserved : goal.loop-at-preserved
loop-at-preserved c =
    let text = c.args.text.now in
    let at = c.loop-at.at in
    let here = site c.loop-at.next in
    let bytes = c.loop-at.bytes.items in
    let sites = map site c.loop-at.sites.items in
    let zero_skip : c.loop-at.skip ≡ 0 = omega arith in
    let start = c.loop-at.invariant.same ∙ ap (λ k. behind bytes sites (joined here k (drop at text))) zero_skip in
    record {
      limit = c.loop-at.invariant.limit;
      line = omega arith;
      column = omega arith;
      same = elim c.match-fate_of.branch [
        | in-Stays+in_ok-push-in-Stays+in_ok-push-in-Stays-2 w ↦
            start ∙ past_stays text at c.match-fate_of.skip here (site c.past_byte-next.result) bytes c.match-fate_of.bytes.items sites
            (map site c.match-fate_of.sites.items)
            c.loop-at-test.true (rw take_rest at w.in-Stays.ensures) c.past_byte-next.ensures.site (w.skip-is ∙ zero_skip)
            (ap (λ v. v.items) w.bytes-is ∙ w.in_ok-push-in-Stays.ensures.items)
            (ap (λ v. map site v.items) w.sites-is ∙ ap (map site) w.in_ok-push-in-Stays-2.ensures.items
            ∙ map-append site c.loop-at.sites.items _)
        | in-Goes w ↦
            start ∙ past_goes text at w.in-Goes.count c.match-fate_of.skip here (site c.past_byte-next.result) bytes
            c.match-fate_of.bytes.items sites (map site c.match-fate_of.sites.items)
            c.loop-at-test.true (rw take_rest at w.in-Goes.ensures) c.past_byte-next.ensures.site
            (w.skip-is ∙ w.saturating_sub-skip.ensures)
            (ap (λ v. v.items) w.bytes-is) (ap (λ v. map site v.items) w.sites-is)
      ];
    }
