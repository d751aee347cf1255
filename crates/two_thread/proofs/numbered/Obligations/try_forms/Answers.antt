use Rattle.std.proofs.Common.{sym, subst, ◌∙◌}
use Rattle.facts.proofs.Unmade.{matched}
use Rattle.two_thread.specs.Refusals.{DoNotFit}
use Rattle.two_thread.specs.View.{met_accesses, crossing}
use Rattle.two_thread.proofs.Listing.{unfit_fit}
use Rattle.two_thread.proofs.numbered.Obligations.try_forms.Goals as goal

pub returns-in-OfMeeting : goal.returns-in-OfMeeting
returns-in-OfMeeting g c = matched c.try_meeting.result _ _ _ _ (λ t s. c.in-OfMeeting.ensures.fits ∙ s) (λ x u. subst (λ b. DoNotFit b x) (sym c.in-OfMeeting.ensures.fits) u) c.try_meeting.ensures

pub returns-in-OfCrossing : goal.returns-in-OfCrossing
returns-in-OfCrossing g c =
    let p = crossing (met_accesses c.args.self.now.met) c.in-OfCrossing.crossing in
    matched c.try_differences.result _ _ _ _ (λ t s. c.in-OfCrossing.ensures.fits ∙ s) (λ x u. subst (λ b. DoNotFit b x) (sym c.in-OfCrossing.ensures.fits) (unfit_fit p x u)) c.try_differences.ensures
