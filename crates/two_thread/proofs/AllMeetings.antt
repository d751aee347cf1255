-- The pairs of stops, with what is known there, are those of the definitions.
use Rattle.std.proofs.Common.{◌≡◌, ℕ, List, [], ◌∷◌, ◌++◌, map, cond, Bool, true, false, ◌&&◌, refl, ap, ◌∙◌}
use Rattle.std.proofs.lemmas.List.{map-append}
use Rattle.arrivals.specs.Shown as shown
use Rattle.arrivals.specs.Shown.{same_turns}
use Rattle.domain.specs.declared.Domain.{Ghosts}
use Rattle.facts.specs.Elements.{Known}
use Rattle.facts.specs.Symbols.{Fact}
use Rattle.walk_trees.specs.Trees.{Ended, Obligation}
use Rattle.obligations.specs.Listing.{Of}
use Rattle.obligations.specs.Meetings as specs
use Rattle.obligations.specs.Notes.{Notes}
use Rattle.two_thread.specs.Meetings.{Meeting, agreements, owed_of, two_meet, meet_each, meet_from, all_meetings, difference, difference_back, meeting_obligation}

module _ {E : Type 0} (g : Ghosts E) (k : Known E) (launch : List Fact) (n : Notes) where
  agreements-are : (u v : Of (Ended E)) (xs : List ℕ) → map (meeting_obligation g k launch n) (agreements u v xs) ≡ specs.agreements g k launch n u v xs
  agreements-are u v [] = refl
  agreements-are u v (x ∷ xs) = ap (λ l. specs.agreement g k launch n u v (difference u v x) ∷ specs.agreement g k launch n u v (difference_back u v x) ∷ l) (agreements-are u v xs)

  owed-are : (u v : Of (Ended E)) (o : shown.Owed) → map (meeting_obligation g k launch n) (owed_of n u v o) ≡ specs.owed_obligations g k launch n u v o
  owed-are u v shown.Nothing = refl
  owed-are u v (shown.Agreement b) = agreements-are u v (n.same b)
  owed-are u v shown.Never = refl

  cond-map : (b : Bool) (ms : List (Meeting E)) (os : List Obligation) → map (meeting_obligation g k launch n) ms ≡ os → map (meeting_obligation g k launch n) (cond b ms []) ≡ cond b os []
  cond-map true ms os e = e
  cond-map false ms os e = refl

  two-are : (u v : Of (Ended E)) → map (meeting_obligation g k launch n) (two_meet n u v) ≡ specs.two_meet g k launch n u v
  two-are u v = cond-map (specs.same_anchor u.anchor v.anchor && specs.is_rest v.it.arrived.stop) _ _ (owed-are u v (shown.owed u.it.arrived.stop v.it.arrived.stop (same_turns u.it.arrived.turns v.it.arrived.turns)))

  each-are : (u : Of (Ended E)) (vs : List (Of (Ended E))) → map (meeting_obligation g k launch n) (meet_each n u vs) ≡ specs.meet_each g k launch n u vs
  each-are u [] = refl
  each-are u (v ∷ vs) = map-append (meeting_obligation g k launch n) (two_meet n u v) (meet_each n u vs) ∙ (λ i. two-are u v i ++ each-are u vs i)

  pub meetings_are : (us : List (Of (Ended E))) → map (meeting_obligation g k launch n) (all_meetings n us) ≡ specs.meetings g k launch n us
  meetings_are [] = refl
  meetings_are (u ∷ us) = map-append (meeting_obligation g k launch n) (meet_from n u (u ∷ us)) (all_meetings n us)
      ∙ (λ i. cond-map (specs.is_rest u.it.arrived.stop) _ _ (each-are u (u ∷ us)) i ++ meetings_are us i)
