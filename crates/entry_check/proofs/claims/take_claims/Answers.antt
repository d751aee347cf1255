use Rattle.std.proofs.Common.{rules, ◌<◌, ◌≤◌, ◌+◌, drop, length}
use Rattle.std.proofs.lemmas.List.{drop_all}
use Rattle.facts.proofs.Unmade.{passed}
use Rattle.two_thread.specs.Paths.{no_claim}
use Rattle.two_thread.specs.View.{met_claims, nth_claim}
use Rattle.entry_check.specs.Hand.{claim_fits, claim_owed}
use Rattle.entry_check.specs.Tallies.{Cuts}
use Rattle.entry_check.specs.View.{said}
use Rattle.entry_check.proofs.Holding.{denied_at}
use Rattle.entry_check.proofs.Taking.{cuts_next, next_at, takes_end, takes_next}
use Rattle.entry_check.proofs.claims.take_claims.Goals as goal

pub take-requires-clause-denied : goal.take-requires-clause-denied
take-requires-clause-denied g c = λ e.
    let all = met_claims c.args.met.now in
    let h : c.loop-i.i < length all = search rules in
    denied_at all c.loop-i.i h (c.requires.denied (c.loop-i.invariant.keeps e))

pub loop-i-preserved : goal.loop-i-preserved
loop-i-preserved g c =
    let all = met_claims c.args.met.now in
    let i = c.loop-i.i in
    let h : i < length all = search rules in
    record {
      sound = c.in_ok-take.ensures.sound;
      keeps = λ e. c.loop-i.invariant.keeps (c.in_ok-take.ensures.keeps e);
      takes = takes_next (said c.args.asked.now.said.now) (claim_owed c.args.asked.now.premises) claim_fits all (drop i all) (drop (i + 1) all) (nth_claim c.args.met.now i) c.args.tally.now c.loop-i.tally c.take.new.self c.loop-i.invariant.takes (next_at all i no_claim h) c.in_ok-take.ensures.takes;
    }

pub returns-clause-takes : goal.returns-clause-takes
returns-clause-takes g c =
    let all = met_claims c.args.met.now in
    let i = c.loop-i.i in
    let h : length all ≤ i = search rules in
    takes_end (said c.args.asked.now.said.now) (claim_owed c.args.asked.now.premises) claim_fits all (drop i all) c.args.tally.now c.loop-i.tally (drop_all i all h) c.loop-i.invariant.takes

pub returns-in_err-take-clause-cuts : goal.returns-in_err-take-clause-cuts
returns-in_err-take-clause-cuts g c =
    let s = said c.args.asked.now.said.now in
    let all = met_claims c.args.met.now in
    let i = c.loop-i.i in
    let e = c.in_err-take.field-0.0 in
    let h : i < length all = search rules in
    passed c.from_residual.result e (Cuts s (claim_owed c.args.asked.now.premises) claim_fits all c.args.tally.now) c.from_residual.ensures.1
    (cuts_next s (claim_owed c.args.asked.now.premises) claim_fits all (drop i all) (drop (i + 1) all) (nth_claim c.args.met.now i) c.args.tally.now c.loop-i.tally e c.loop-i.invariant.takes (next_at all i no_claim h) c.in_err-take.ensures.cuts)
