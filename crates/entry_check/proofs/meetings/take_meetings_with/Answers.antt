use Rattle.std.proofs.Common.{arith, ◌≡◌, drop, map, ap, ◌∙◌}
use Rattle.two_thread.specs.Meetings.{meet_each, meeting_fits, meeting_seen}
use Rattle.entry_check.specs.Hand.{meeting_owed, notes_in}
use Rattle.facts.proofs.Unmade.{passed}
use Rattle.two_thread.specs.View.{met_end, met_ends}
use Rattle.two_thread.proofs.NthEnd.{length_met_ends}
use Rattle.walk.specs.declared.error.FindError.TheVariants as finds
use Rattle.entry_check.specs.Tallies.{Cuts}
use Rattle.entry_check.specs.View.{said}
use Rattle.entry_check.proofs.Taking.{cuts_seen, over_cut, takes_seen}
use Rattle.entry_check.proofs.Unshown.{mapped, ok_mapped}
use Rattle.entry_check.proofs.meetings.take_meetings_with.Goals as goal

pub meetings_with-requires : goal.meetings_with-requires
meetings_with-requires g c = record { first = omega (arith, c.requires.first, length_met_ends c.args.met.now) }

pub returns-in_err-found-clause-cuts : goal.returns-in_err-found-clause-cuts
returns-in_err-found-clause-cuts g c =
    let e = c.in_err-found.field-0.0 in
    let all = (meet_each (notes_in c.args.asked.now.premises) (met_end c.args.met.now c.args.i) (drop c.args.from (met_ends c.args.met.now))) in
    passed c.from_residual.result (finds.Walk e) (Cuts (said c.args.asked.now.said.now) (meeting_owed g.D.Domain c.args.asked.now.premises) meeting_fits all c.args.tally.now) c.from_residual.ensures.1 (over_cut (said c.args.asked.now.said.now) (meeting_owed g.D.Domain c.args.asked.now.premises) meeting_fits all c.args.tally.now e c.in_err-found.ensures.exact)

pub returns-clause-takes : goal.returns-clause-takes
returns-clause-takes g c =
    let all = (meet_each (notes_in c.args.asked.now.premises) (met_end c.args.met.now c.args.i) (drop c.args.from (met_ends c.args.met.now))) in
    let v = meeting_seen (met_ends c.args.met.now) in
    let xs = c.as_slice.result.now in
    let e : map v xs ≡ all = ap (map v) c.as_slice.ensures.value ∙ c.in_ok-found.ensures.exact in
    ok_mapped c.take_meetings.result _ _ (λ _ h. takes_seen (said c.args.asked.now.said.now) (meeting_owed g.D.Domain c.args.asked.now.premises) meeting_fits v xs all c.args.tally.now c.take_meetings.new.tally e h) c.take_meetings.ensures.takes

pub returns-clause-cuts : goal.returns-clause-cuts
returns-clause-cuts g c =
    let all = (meet_each (notes_in c.args.asked.now.premises) (met_end c.args.met.now c.args.i) (drop c.args.from (met_ends c.args.met.now))) in
    let v = meeting_seen (met_ends c.args.met.now) in
    let xs = c.as_slice.result.now in
    let e : map v xs ≡ all = ap (map v) c.as_slice.ensures.value ∙ c.in_ok-found.ensures.exact in
    mapped c.take_meetings.result _ _ (λ z h. cuts_seen (said c.args.asked.now.said.now) (meeting_owed g.D.Domain c.args.asked.now.premises) meeting_fits v xs all c.args.tally.now z e h) c.take_meetings.ensures.cuts
