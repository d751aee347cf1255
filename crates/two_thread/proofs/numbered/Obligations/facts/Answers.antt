use Rattle.std.proofs.Common.{sym, ap, subst, ◌∙◌}
use Rattle.linear.specs.Forms.{forms}
use Rattle.facts.proofs.Unmade.{matched}
use Rattle.facts.specs.View.{known_seen}
use Rattle.walk_trees.specs.Trees.{facts_by}
use Rattle.two_thread.specs.Alike.{notes_of}
use Rattle.two_thread.specs.Answers.{crossing_shown}
use Rattle.two_thread.specs.Goals.{manner, owed}
use Rattle.two_thread.specs.Meetings.{meeting_seen, facts_shown}
use Rattle.two_thread.specs.Refusals.{DoNotFit}
use Rattle.two_thread.specs.View.{nth_claim, met_end, met_ends, met_accesses, crossing}
use Rattle.two_thread.proofs.Asked.{about_facts, crossing_by}
use Rattle.two_thread.proofs.Listing.{claim_unfit, unfit_fit}
use Rattle.two_thread.proofs.numbered.Obligations.facts.Goals as goal

pub returns-in-OfClaim : goal.returns-in-OfClaim
returns-in-OfClaim g c =
    let o = c.args.self.now in
    let m = manner c.args.manner in
    matched c.claim_facts.result _ _ _ _
    (λ v s. s ∙ ap (λ l. facts_by m (owed (forms l) (nth_claim o.met c.in-OfClaim.i))) c.as_slice-launch.ensures.value ∙ ap (facts_by m) (sym c.in-OfClaim.ensures.is))
    (λ x u. subst (λ b. DoNotFit b x) (o.fit ∙ sym c.in-OfClaim.ensures.fits) (claim_unfit o.met c.in-OfClaim.i x c.in-OfClaim.ensures.there u)) c.claim_facts.ensures

pub returns-in-OfMeeting : goal.returns-in-OfMeeting
returns-in-OfMeeting g c =
    let o = c.args.self.now in
    let m = manner c.args.manner in
    let p = c.in-OfMeeting.meeting in
    matched c.meeting_facts.result _ _ _ _
    (λ v s. s ∙ (λ j. facts_shown m (forms (c.as_slice-launch.ensures.value j)) (notes_of (c.as_slice-alike.ensures.value j)) (meeting_seen (met_ends o.met) p))
    ∙ about_facts g.D.Domain (known_seen o.known) (forms o.launch.items) (notes_of o.alike.items) (met_end o.met p.first) (met_end o.met p.second) m p.about ∙ ap (facts_by m) (sym c.in-OfMeeting.ensures.is))
    (λ x u. subst (λ b. DoNotFit b x) (sym c.in-OfMeeting.ensures.fits) u) c.meeting_facts.ensures

pub returns-in-OfCrossing : goal.returns-in-OfCrossing
returns-in-OfCrossing g c =
    let o = c.args.self.now in
    let m = manner c.args.manner in
    let p = crossing (met_accesses o.met) c.in-OfCrossing.crossing in
    matched c.crossing_facts_by.result _ _ _ _
    (λ v s. s ∙ (λ j. crossing_shown m (forms (c.as_slice-launch.ensures.value j)) (notes_of (c.as_slice-alike.ensures.value j)) p)
    ∙ crossing_by g.D.Domain (known_seen o.known) (forms o.launch.items) (notes_of o.alike.items) m p ∙ ap (facts_by m) (sym c.in-OfCrossing.ensures.is))
    (λ x u. subst (λ b. DoNotFit b x) (sym c.in-OfCrossing.ensures.fits) (unfit_fit p x u)) c.crossing_facts_by.ensures
