-- What was gathered of paths is all that is to be shown of them.
use Rattle.std.proofs.Common.{◌≡◌, ℕ, ◌+◌, ◌<◌, ◌≤◌, Bool, true, List, [], ◌∷◌, ◌++◌, length, map, arith, refl, ap, subst, ◌∙◌}
use Rattle.std.proofs.lemmas.List.{length-map, length-append}
use Rattle.semantics.specs.Launch.{Kernel}
use Rattle.semantics.specs.Conditions.{Conditions}
use Rattle.domain.specs.declared.Domain.{Ghosts}
use Rattle.facts.specs.Symbols.{Fact}
use Rattle.facts.specs.Elements.{Known}
use Rattle.facts.specs.declared.error.WalkError.{WalkError}
use Rattle.facts.specs.declared.error.WalkError.TheVariants as walks
use Rattle.walk_trees.specs.Trees.{Obligation, Ended}
use Rattle.path_steps.specs.Paths.{Claimed}
use Rattle.obligations.specs.Listing.{Of}
use Rattle.obligations.specs.Notes.{Notes}
use Rattle.obligations.specs.Crossings.{Crossing, crossings, crossing_obligation}
use Rattle.obligations.specs.Fitting.{is_fit_goal, crossing_fits}
use Rattle.two_thread.specs.Goals.{owed}
use Rattle.two_thread.specs.Meetings.{Meeting, about_two, all_meetings, obligation_about, meeting_obligation, meeting_fits}
use Rattle.two_thread.specs.Listed.{all_listed, all_fits}
use Rattle.two_thread.specs.Paths.{all_claims, all_ends, all_accesses}
use Rattle.two_thread.specs.Refusals.{DoNotFit, IsOver, AreUngathered}
use Rattle.two_thread.specs.declared.meetings.About.{About}
use Rattle.two_thread.specs.declared.meetings.About.TheVariants as abouts
use Rattle.two_thread.specs.declared.walked.Tagged.{Tagged}
use Rattle.two_thread.proofs.AllMeetings.{meetings_are}

module _ {E : Type 0} (g : Ghosts E) (k : Known E) (launch : List Fact) (n : Notes) where
  about-fits : (u v : Of (Ended E)) (a : About) → meeting_fits (about_two u v a) ≡ is_fit_goal (obligation_about g k launch n u v a).goal
  about-fits u v (abouts.AtLeast x) = refl
  about-fits u v (abouts.AtMost x) = refl
  about-fits u v abouts.Never = refl

  one-fits : (m : Meeting E) → meeting_fits m ≡ is_fit_goal (meeting_obligation g k launch n m).goal
  one-fits m = about-fits m.first m.second m.about

  abbrev goal_fits : Obligation → Bool
  goal_fits o = is_fit_goal o.goal

  goals-are : (ms : List (Meeting E)) → map meeting_fits ms ≡ map goal_fits (map (meeting_obligation g k launch n) ms)
  goals-are [] = refl
  goals-are (m ∷ ms) = λ i. one-fits m i ∷ goals-are ms i

  module _ (kernel : Kernel) (c : Conditions) where
    abbrev pub whole : List (Tagged E) → List Obligation
    whole ps = all_listed g k launch n kernel c (all_claims ps) (all_ends ps) (all_accesses ps)

    abbrev pub whole_fits : List (Tagged E) → List Bool
    whole_fits ps = all_fits g k launch n kernel c (all_claims ps) (all_ends ps) (all_accesses ps)

    pub listed_is : (ps qs : List (Tagged E)) (ms : List (Meeting E)) (xs : List (Crossing E)) → ps ≡ qs → ms ≡ all_meetings n (all_ends ps) → xs ≡ crossings kernel c (all_accesses ps) → map (owed launch) (all_claims ps) ++ (map (meeting_obligation g k launch n) ms ++ map (crossing_obligation g k launch n) xs) ≡ whole qs
    listed_is ps qs ms xs d e f =
        (λ i. map (owed launch) (all_claims ps) ++ ((ap (map (meeting_obligation g k launch n)) e ∙ meetings_are g k launch n (all_ends ps)) i ++ map (crossing_obligation g k launch n) (f i)))
        ∙ ap whole d

    pub fits_is : (ps qs : List (Tagged E)) (ms : List (Meeting E)) (xs : List (Crossing E)) → ps ≡ qs → ms ≡ all_meetings n (all_ends ps) → xs ≡ crossings kernel c (all_accesses ps) → map (λ (c : Claimed). true) (all_claims ps) ++ (map meeting_fits ms ++ map crossing_fits xs) ≡ whole_fits qs
    fits_is ps qs ms xs d e f =
        (λ i. map (λ (c : Claimed). true) (all_claims ps) ++ ((goals-are ms ∙ ap (map goal_fits) (ap (map (meeting_obligation g k launch n)) e ∙ meetings_are g k launch n (all_ends ps))) i ++ map crossing_fits (f i)))
        ∙ ap whole_fits d

    -- so many claims and pairs
    pub many : (ps qs : List (Tagged E)) (a b m : ℕ) → ps ≡ qs → a ≤ length (all_claims ps) → b ≤ length (all_meetings n (all_ends ps)) → m ≤ length (crossings kernel c (all_accesses ps)) → 65536 < a + (b + m) → 65536 < length (whole qs)
    many ps qs a b m d h1 h2 h3 h =
        let cs = map (owed launch) (all_claims ps) in
        let ms = map (meeting_obligation g k launch n) (all_meetings n (all_ends ps)) in
        let xs = map (crossing_obligation g k launch n) (crossings kernel c (all_accesses ps)) in
        subst (λ (l : List Obligation). 65536 < length l) (listed_is ps qs (all_meetings n (all_ends ps)) (crossings kernel c (all_accesses ps)) d refl refl)
        (omega (arith, h, h1, h2, h3, length-append cs (ms ++ xs), length-append ms xs, length-map (all_claims ps) (owed launch), length-map (all_meetings n (all_ends ps)) (meeting_obligation g k launch n), length-map (crossings kernel c (all_accesses ps)) (crossing_obligation g k launch n)))

pub over_ungathered : (os : List Obligation) (fit : Bool) (most count : ℕ) (e : WalkError) → (most < count → 65536 < length os) → IsOver most count e → AreUngathered os fit e
over_ungathered os fit most count walks.TooMany h u = h u
over_ungathered os fit most count walks.TooLarge h u = absurd u
over_ungathered os fit most count walks.Memory h u = tt

pub unfit_ungathered : (os : List Obligation) (fit : Bool) (e : WalkError) → DoNotFit fit e → AreUngathered os fit e
unfit_ungathered os fit walks.TooMany u = absurd u
unfit_ungathered os fit walks.TooLarge u = u
unfit_ungathered os fit walks.Memory u = tt
