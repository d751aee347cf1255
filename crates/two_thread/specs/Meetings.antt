-- The pairs of stops at which two items may be, as a list without what is known there.
use Rattle.std.specs.Prelude.{ℕ, ◌≡◌, ◌<◌, List, [], ◌∷◌, ◌++◌, map, Bool, true, false, ◌&&◌, cond, Option, Some, None}
use Rattle.arrivals.specs.Shown as shown
use Rattle.arrivals.specs.Shown.{same_turns}
use Rattle.walk_trees.specs.Seconds.{second_forms}
use Rattle.walk_trees.specs.Trees as trees
use Rattle.walk_trees.specs.Trees.{Ended, OfSame, OfMeeting, AtLeastZero, Obligation}
use Rattle.domain.specs.declared.Domain.{Ghosts}
use Rattle.facts.specs.Elements.{Known}
use Rattle.facts.specs.Symbols.{Fact, minus, denial}
use Rattle.linear.specs.Exact.{fits}
use Rattle.obligations.specs.Listing.{Of}
use Rattle.obligations.specs.Meetings as specs
use Rattle.obligations.specs.Meetings.{same_anchor, is_rest, first_form, other_form}
use Rattle.obligations.specs.Notes.{Notes}
use Rattle.two_thread.specs.View.{nth_end}
use Rattle.two_thread.specs.declared.meetings.About as declared
use Rattle.two_thread.specs.declared.meetings.About.TheVariants as abouts
use Rattle.two_thread.specs.declared.meetings.Meeting as code
use Rattle.two_thread.specs.declared.meetings.Owed as code_owed
use Rattle.two_thread.specs.declared.meetings.Owed.TheVariants as oweds

-- two ends, the second one the second item's, and what is to be shown of them
pub record Meeting (E : Type 0) : Type 0 where
  pub first : Of (Ended E)
  pub second : Of (Ended E)
  pub about : declared.About

abbrev pub meeting_seen : {E : Type 0} → List (Of (Ended E)) → code.Meeting → Meeting E
meeting_seen us m = record { first = nth_end us m.first; second = nth_end us m.second; about = m.about }

abbrev pub Adds : {E : Type 0} → List (Of (Ended E)) → (old new : List code.Meeting) → List (Meeting E) → Type 0
Adds us old new more = map (meeting_seen us) new ≡ map (meeting_seen us) old ++ more

-- a pair of so many ends
abbrev pub IsInside : (count : ℕ) → code.Meeting → Type 0
IsInside n m = (m.first < n) × (m.second < n)

abbrev pub owed_seen : code_owed.Owed → shown.Owed
owed_seen oweds.Nothing = shown.Nothing
owed_seen (oweds.Agreement n) = shown.Agreement n
owed_seen oweds.Never = shown.Never

abbrev pub about_two : {E : Type 0} → Of (Ended E) → Of (Ended E) → declared.About → Meeting E
about_two u v a = record { first = u; second = v; about = a }

abbrev pub agree_on : {E : Type 0} → Of (Ended E) → Of (Ended E) → ℕ → List (Meeting E)
agree_on u v x = about_two u v (abouts.AtLeast x) ∷ about_two u v (abouts.AtMost x) ∷ []

abbrev pub agreements : {E : Type 0} → Of (Ended E) → Of (Ended E) → List ℕ → List (Meeting E)
agreements u v [] = []
agreements u v (x ∷ xs) = agree_on u v x ++ agreements u v xs

abbrev pub owed_of : {E : Type 0} → Notes → Of (Ended E) → Of (Ended E) → shown.Owed → List (Meeting E)
owed_of n u v shown.Nothing = []
owed_of n u v (shown.Agreement b) = agreements u v (n.same b)
owed_of n u v shown.Never = about_two u v abouts.Never ∷ []

abbrev pub two_meet : {E : Type 0} → Notes → Of (Ended E) → Of (Ended E) → List (Meeting E)
two_meet n u v = cond (same_anchor u.anchor v.anchor && is_rest v.it.arrived.stop) (owed_of n u v (shown.owed u.it.arrived.stop v.it.arrived.stop (same_turns u.it.arrived.turns v.it.arrived.turns))) []

abbrev pub meet_each : {E : Type 0} → Notes → Of (Ended E) → List (Of (Ended E)) → List (Meeting E)
meet_each n u [] = []
meet_each n u (v ∷ vs) = two_meet n u v ++ meet_each n u vs

abbrev pub meet_from : {E : Type 0} → Notes → Of (Ended E) → List (Of (Ended E)) → List (Meeting E)
meet_from n u us = cond (is_rest u.it.arrived.stop) (meet_each n u us) []

abbrev pub all_meetings : {E : Type 0} → Notes → List (Of (Ended E)) → List (Meeting E)
all_meetings n [] = []
all_meetings n (u ∷ us) = meet_from n u (u ∷ us) ++ all_meetings n us

-- what is said to be at least 0
abbrev pub difference : {E : Type 0} → Of (Ended E) → Of (Ended E) → ℕ → Fact
difference u v x = minus (first_form u x) (other_form v x)

abbrev pub difference_back : {E : Type 0} → Of (Ended E) → Of (Ended E) → ℕ → Fact
difference_back u v x = minus (other_form v x) (first_form u x)

-- what is to be shown of it
abbrev pub obligation_about : {E : Type 0} → Ghosts E → Known E → (launch : List Fact) → Notes → Of (Ended E) → Of (Ended E) → declared.About → Obligation
obligation_about g k launch n u v (abouts.AtLeast x) = specs.agreement g k launch n u v (difference u v x)
obligation_about g k launch n u v (abouts.AtMost x) = specs.agreement g k launch n u v (difference_back u v x)
obligation_about g k launch n u v abouts.Never = specs.meeting OfMeeting launch n u v false None

abbrev pub meeting_obligation : {E : Type 0} → Ghosts E → Known E → (launch : List Fact) → Notes → Meeting E → Obligation
meeting_obligation g k launch n m = obligation_about g k launch n m.first m.second m.about

-- what is to be at least 0 of it; none where no two items come to both
abbrev pub goal_between : {E : Type 0} → Of (Ended E) → Of (Ended E) → declared.About → Option Fact
goal_between u v (abouts.AtLeast x) = Some (difference u v x)
goal_between u v (abouts.AtMost x) = Some (difference_back u v x)
goal_between u v abouts.Never = None

abbrev pub goal_about : {E : Type 0} → Meeting E → Option Fact
goal_about m = goal_between m.first m.second m.about

-- it and what denies it are of i64
abbrev pub both_fit : Option Fact → Bool
both_fit None = true
both_fit (Some f) = fits f && fits (denial f)

abbrev pub meeting_fits : {E : Type 0} → Meeting E → Bool
meeting_fits m = both_fit (goal_about m)

abbrev pub meetings_fit : {E : Type 0} → List (Meeting E) → Bool
meetings_fit [] = true
meetings_fit (m ∷ ms) = meeting_fits m && meetings_fit ms

-- what denies it
abbrev pub denied : Option Fact → List Fact
denied None = []
denied (Some f) = denial f ∷ []

abbrev pub facts_about : {E : Type 0} → (launch : List Fact) → Notes → Meeting E → List Fact
facts_about launch n m = launch ++ (m.first.it.facts ++ (second_forms m.second.it.facts ++ specs.group_facts n m.first.anchor m.first.is_head m.second.is_head))

-- it is shown by its facts alone
abbrev pub facts_shown : {E : Type 0} → trees.Manner → (launch : List Fact) → Notes → Meeting E → Option (List Fact)
facts_shown trees.Plainly launch n m = Some (facts_about launch n m ++ denied (goal_about m))
facts_shown trees.ByPositive launch n m = None
facts_shown trees.ByNegative launch n m = None
facts_shown trees.ByQuotient launch n m = None

abbrev pub settled_by : {E : Type 0} → Ghosts E → Known E → Of (Ended E) → Of (Ended E) → Option Fact → Bool
settled_by g k u v None = false
settled_by g k u v (Some f) = specs.is_settled_of_two g k u v f

abbrev pub is_settled_about : {E : Type 0} → Ghosts E → Known E → Meeting E → Bool
is_settled_about g k m = settled_by g k m.first m.second (goal_about m)
