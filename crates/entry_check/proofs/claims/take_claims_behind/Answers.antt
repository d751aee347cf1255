use Rattle.std.proofs.Common.{rules, ◌≡◌, ◌++◌, ap, sym, ◌∙◌, inr}
use Rattle.std.specs.Prelude.{None}
use Rattle.facts.proofs.Unmade.{passed}
use Rattle.two_thread.specs.Fitting.{claims_fit}
use Rattle.two_thread.specs.Paths.{claims_seen}
use Rattle.two_thread.specs.View.{met_claims}
use Rattle.walk.specs.Cursors.{left_claims}
use Rattle.walk.proofs.AtHand.{gave, gave_none}
use Rattle.entry_check.specs.Hand.{claim_fits, claim_owed}
use Rattle.entry_check.specs.Tallies.{Fails}
use Rattle.entry_check.specs.View.{said}
use Rattle.entry_check.proofs.Holding.{alone_is, denied_front}
use Rattle.entry_check.proofs.Taking.{cuts_step, takes_end, takes_step}
use Rattle.entry_check.proofs.claims.take_claims_behind.Goals as goal

pub alone-requires-clause-accesses : goal.alone-requires-clause-accesses
alone-requires-clause-accesses g c = (gave g.D.Domain c.args.terrain.now c.loop-path.next c.next.new.self c.in_ok-path.field-0 c.in-Some.path c.in-Some.is (c.in_ok-path.ensures.next c.loop-path.invariant.starts)).0.own_accesses

pub alone-requires-clause-ends : goal.alone-requires-clause-ends
alone-requires-clause-ends g c = (gave g.D.Domain c.args.terrain.now c.loop-path.next c.next.new.self c.in_ok-path.field-0 c.in-Some.path c.in-Some.is (c.in_ok-path.ensures.next c.loop-path.invariant.starts)).0.own_ends

pub take_claims-requires-clause-denied : goal.take_claims-requires-clause-denied
take_claims-requires-clause-denied g c = λ e.
    let t = c.args.terrain.now in
    let v = gave g.D.Domain t c.loop-path.next c.next.new.self c.in_ok-path.field-0 c.in-Some.path c.in-Some.is (c.in_ok-path.ensures.next c.loop-path.invariant.starts) in
    ap claims_fit (alone_is claims_seen c.in_ok-met.met.paths.items c.in-Some.path c.in_ok-met.ensures.paths)
    ∙ (denied_front (left_claims g.D.Domain t c.loop-path.next) (claims_seen c.in-Some.path) (left_claims g.D.Domain t c.next.new.self) v.0.claims (c.loop-path.invariant.denied e)).0

pub loop-path-preserved : goal.loop-path-preserved
loop-path-preserved g c =
    let t = c.args.terrain.now in
    let s = said c.args.asked.now.said.now in
    let v = gave g.D.Domain t c.loop-path.next c.next.new.self c.in_ok-path.field-0 c.in-Some.path c.in-Some.is (c.in_ok-path.ensures.next c.loop-path.invariant.starts) in
    let xs = left_claims g.D.Domain t c.loop-path.next in
    let us = met_claims c.in_ok-met.met in
    let ys = left_claims g.D.Domain t c.next.new.self in
    let e : xs ≡ us ++ ys = v.0.claims ∙ ap (λ l. l ++ ys) (sym (alone_is claims_seen c.in_ok-met.met.paths.items c.in-Some.path c.in_ok-met.ensures.paths)) in
    record {
      stands = c.in_ok-path.ensures.stands;
      starts = v.1;
      sound = c.in_ok-take_claims.ensures.sound;
      denied = λ z. (denied_front xs us ys e (c.loop-path.invariant.denied (c.in_ok-take_claims.ensures.keeps z))).1;
      takes = takes_step s (claim_owed c.args.asked.now.premises) claim_fits (left_claims g.D.Domain t c.args.next.now) xs us ys c.args.tally.now c.loop-path.tally c.take_claims.new.tally c.loop-path.invariant.takes e c.in_ok-take_claims.ensures.takes;
    }

pub returns-in_err-take_claims-clause-fails : goal.returns-in_err-take_claims-clause-fails
returns-in_err-take_claims-clause-fails g c =
    let t = c.args.terrain.now in
    let s = said c.args.asked.now.said.now in
    let v = gave g.D.Domain t c.loop-path.next c.next.new.self c.in_ok-path.field-0 c.in-Some.path c.in-Some.is (c.in_ok-path.ensures.next c.loop-path.invariant.starts) in
    let xs = left_claims g.D.Domain t c.loop-path.next in
    let us = met_claims c.in_ok-met.met in
    let ys = left_claims g.D.Domain t c.next.new.self in
    let z = c.in_err-take_claims.field-0.0 in
    let all = left_claims g.D.Domain t c.args.next.now in
    let e : xs ≡ us ++ ys = v.0.claims ∙ ap (λ l. l ++ ys) (sym (alone_is claims_seen c.in_ok-met.met.paths.items c.in-Some.path c.in_ok-met.ensures.paths)) in
    passed c.from_residual-in_err-take_claims.result z (Fails g.D.Domain t s (claim_owed c.args.asked.now.premises) claim_fits all c.args.tally.now) c.from_residual-in_err-take_claims.ensures.1
    (inr (cuts_step s (claim_owed c.args.asked.now.premises) claim_fits all xs us ys c.args.tally.now c.loop-path.tally z c.loop-path.invariant.takes e c.in_err-take_claims.ensures.cuts))

pub returns-clause-takes : goal.returns-clause-takes
returns-clause-takes g c =
    let t = c.args.terrain.now in
    let none : c.in_ok-path.field-0 ≡ None = search rules in
    takes_end (said c.args.asked.now.said.now) (claim_owed c.args.asked.now.premises) claim_fits (left_claims g.D.Domain t c.args.next.now) (left_claims g.D.Domain t c.loop-path.next) c.args.tally.now c.loop-path.tally (gave_none g.D.Domain t c.loop-path.next c.next.new.self c.in_ok-path.field-0 none (c.in_ok-path.ensures.next c.loop-path.invariant.starts)).0.claims c.loop-path.invariant.takes
