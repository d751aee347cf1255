use Rattle.std.proofs.Common.{sym, ap, subst, ◌∙◌}
use Rattle.linear.specs.Forms.{forms}
use Rattle.facts.proofs.Unmade.{matched}
use Rattle.facts.specs.View.{known_seen}
use Rattle.walk_trees.specs.Trees.{Obligation}
use Rattle.two_thread.specs.Alike.{notes_of}
use Rattle.two_thread.specs.Refusals.{DoNotFit}
use Rattle.two_thread.specs.View.{met_end, met_accesses, crossing}
use Rattle.two_thread.proofs.Asked.{about_settled}
use Rattle.two_thread.proofs.Listing.{unfit_fit}
use Rattle.two_thread.proofs.numbered.Obligations.is_settled.Goals as goal

pub returns-in-OfMeeting : goal.returns-in-OfMeeting
returns-in-OfMeeting g c =
    let o = c.args.self.now in
    let m = c.in-OfMeeting.meeting in
    let d = about_settled g.D.Domain (known_seen o.known) (forms o.launch.items) (notes_of o.alike.items) (met_end o.met m.first) (met_end o.met m.second) m.about in
    matched c.is_agreed.result _ _ _ _ (λ b s. s ∙ sym d ∙ sym (ap (λ (x : Obligation). x.settled) c.in-OfMeeting.ensures.is)) (λ x u. subst (λ b. DoNotFit b x) (sym c.in-OfMeeting.ensures.fits) u) c.is_agreed.ensures

pub returns-in-OfCrossing : goal.returns-in-OfCrossing
returns-in-OfCrossing g c =
    let o = c.args.self.now in
    matched c.is_apart.result _ _ _ _ (λ b s. s ∙ sym (ap (λ (x : Obligation). x.settled) c.in-OfCrossing.ensures.is)) (λ x u. subst (λ b. DoNotFit b x) (sym c.in-OfCrossing.ensures.fits) (unfit_fit (crossing (met_accesses o.met) c.in-OfCrossing.crossing) x u)) c.is_apart.ensures
