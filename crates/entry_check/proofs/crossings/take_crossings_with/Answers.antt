use Rattle.std.proofs.Common.{arith, ◌≡◌, drop, map, ap, ◌∙◌}
use Rattle.obligations.specs.Fitting.{crossing_fits}
use Rattle.two_thread.specs.View.{crossing}
use Rattle.entry_check.specs.Hand.{crossing_owed}
use Rattle.entry_check.specs.Pairs.{access_with}
use Rattle.facts.proofs.Unmade.{passed}
use Rattle.two_thread.specs.View.{met_access, met_accesses}
use Rattle.two_thread.proofs.Nth.{length_met}
use Rattle.walk.specs.declared.error.FindError.TheVariants as finds
use Rattle.entry_check.specs.Tallies.{Cuts}
use Rattle.entry_check.specs.View.{said}
use Rattle.entry_check.proofs.Taking.{cuts_seen, over_cut, takes_seen}
use Rattle.entry_check.proofs.Unshown.{mapped, ok_mapped}
use Rattle.entry_check.proofs.crossings.take_crossings_with.Goals as goal

pub crossings_with-requires : goal.crossings_with-requires
crossings_with-requires g c = record { first = omega (arith, c.requires.first, length_met c.args.met.now) }

pub returns-in_err-found-clause-cuts : goal.returns-in_err-found-clause-cuts
returns-in_err-found-clause-cuts g c =
    let e = c.in_err-found.field-0.0 in
    let all = (access_with c.args.terrain.now c.args.sought (met_access c.args.met.now c.args.i) (drop c.args.from (met_accesses c.args.met.now))) in
    passed c.from_residual.result (finds.Walk e) (Cuts (said c.args.asked.now.said.now) (crossing_owed g.D.Domain c.args.asked.now.premises) crossing_fits all c.args.tally.now) c.from_residual.ensures.1 (over_cut (said c.args.asked.now.said.now) (crossing_owed g.D.Domain c.args.asked.now.premises) crossing_fits all c.args.tally.now e c.in_err-found.ensures.exact)

pub returns-clause-takes : goal.returns-clause-takes
returns-clause-takes g c =
    let all = (access_with c.args.terrain.now c.args.sought (met_access c.args.met.now c.args.i) (drop c.args.from (met_accesses c.args.met.now))) in
    let v = crossing (met_accesses c.args.met.now) in
    let xs = c.as_slice.result.now in
    let e : map v xs ≡ all = ap (map v) c.as_slice.ensures.value ∙ c.in_ok-found.ensures.exact in
    ok_mapped c.take_crossings.result _ _ (λ _ h. takes_seen (said c.args.asked.now.said.now) (crossing_owed g.D.Domain c.args.asked.now.premises) crossing_fits v xs all c.args.tally.now c.take_crossings.new.tally e h) c.take_crossings.ensures.takes

pub returns-clause-cuts : goal.returns-clause-cuts
returns-clause-cuts g c =
    let all = (access_with c.args.terrain.now c.args.sought (met_access c.args.met.now c.args.i) (drop c.args.from (met_accesses c.args.met.now))) in
    let v = crossing (met_accesses c.args.met.now) in
    let xs = c.as_slice.result.now in
    let e : map v xs ≡ all = ap (map v) c.as_slice.ensures.value ∙ c.in_ok-found.ensures.exact in
    mapped c.take_crossings.result _ _ (λ z h. cuts_seen (said c.args.asked.now.said.now) (crossing_owed g.D.Domain c.args.asked.now.premises) crossing_fits v xs all c.args.tally.now z e h) c.take_crossings.ensures.cuts
