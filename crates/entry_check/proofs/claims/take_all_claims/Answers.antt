use Rattle.std.proofs.Common.{◌++◌, [], refl, ap, subst, ◌∙◌, inr}
use Rattle.facts.proofs.Unmade.{passed}
use Rattle.two_thread.specs.Fitting.{claims_fit}
use Rattle.two_thread.specs.View.{met_claims}
use Rattle.walk.specs.Cursors.{left_claims}
use Rattle.entry_check.specs.Hand.{claim_fits, claim_owed}
use Rattle.entry_check.specs.Tallies.{Fails, Takes}
use Rattle.entry_check.specs.View.{said}
use Rattle.entry_check.proofs.Holding.{denied_front}
use Rattle.entry_check.proofs.Taking.{cuts_front, fails_then, takes_front, takes_then}
use Rattle.entry_check.proofs.Unshown.{mapped, ok_mapped}
use Rattle.entry_check.proofs.claims.take_all_claims.Goals as goal

pub take_claims-requires-clause-denied : goal.take_claims-requires-clause-denied
take_claims-requires-clause-denied g c = λ e.
    let us = met_claims c.args.met.now in
    let ys = left_claims g.D.Domain c.args.terrain.now c.args.behind.now in
    (denied_front (us ++ ys) us ys refl (c.requires.denied e)).0

pub take_claims_behind-requires-clause-denied : goal.take_claims_behind-requires-clause-denied
take_claims_behind-requires-clause-denied g c = λ e.
    let us = met_claims c.args.met.now in
    let ys = left_claims g.D.Domain c.args.terrain.now c.args.behind.now in
    ap claims_fit c.in_ok-next.ensures.claims ∙ (denied_front (us ++ ys) us ys refl (c.requires.denied (c.in_ok-take_claims.ensures.keeps e))).1

pub returns-in_err-take_claims-clause-fails : goal.returns-in_err-take_claims-clause-fails
returns-in_err-take_claims-clause-fails g c =
    let us = met_claims c.args.met.now in
    let ys = left_claims g.D.Domain c.args.terrain.now c.args.behind.now in
    let z = c.in_err-take_claims.field-0.0 in
    passed c.from_residual-in_err-take_claims.result z (Fails g.D.Domain c.args.terrain.now (said c.args.asked.now.said.now) (claim_owed c.args.asked.now.premises) claim_fits (us ++ ys) c.args.tally.now) c.from_residual-in_err-take_claims.ensures.1 (inr (cuts_front (said c.args.asked.now.said.now) (claim_owed c.args.asked.now.premises) claim_fits us ys c.args.tally.now z c.in_err-take_claims.ensures.cuts))

pub returns-clause-takes : goal.returns-clause-takes
returns-clause-takes g c =
    let us = met_claims c.args.met.now in
    let ys = left_claims g.D.Domain c.args.terrain.now c.args.behind.now in
    let a = c.args.tally.now in
    let b = c.take_claims.new.tally in
    let d = c.take_claims_behind.new.tally in
    ok_mapped c.take_claims_behind.result _ _ (λ _ h. takes_then (said c.args.asked.now.said.now) (claim_owed c.args.asked.now.premises) claim_fits (us ++ ys) ys [] a b d (takes_front (said c.args.asked.now.said.now) (claim_owed c.args.asked.now.premises) claim_fits us ys a b c.in_ok-take_claims.ensures.takes) (subst (λ l. Takes (said c.args.asked.now.said.now) (claim_owed c.args.asked.now.premises) claim_fits l [] b d) c.in_ok-next.ensures.claims h)) c.take_claims_behind.ensures.takes

pub returns-clause-fails : goal.returns-clause-fails
returns-clause-fails g c =
    let us = met_claims c.args.met.now in
    let ys = left_claims g.D.Domain c.args.terrain.now c.args.behind.now in
    let a = c.args.tally.now in
    let b = c.take_claims.new.tally in
    mapped c.take_claims_behind.result _ _ (λ z h. fails_then (said c.args.asked.now.said.now) (claim_owed c.args.asked.now.premises) claim_fits g.D.Domain c.args.terrain.now (us ++ ys) ys a b z (takes_front (said c.args.asked.now.said.now) (claim_owed c.args.asked.now.premises) claim_fits us ys a b c.in_ok-take_claims.ensures.takes) (subst (λ l. Fails g.D.Domain c.args.terrain.now (said c.args.asked.now.said.now) (claim_owed c.args.asked.now.premises) claim_fits l b z) c.in_ok-next.ensures.claims h)) c.take_claims_behind.ensures.fails
