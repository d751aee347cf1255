-- The obligations that were found, by their numbers: the claims of all places, then the pairs of stops, then those of accesses; and whether
-- the own forms of each are of i64.
use Rattle.std.specs.Prelude.{ℕ, ◌-◌, ◌<◌, length, List, [], ◌++◌, map, get_or, Bool, true, false, None}
use Rattle.semantics.specs.Launch.{Kernel}
use Rattle.semantics.specs.Conditions.{Conditions}
use Rattle.domain.specs.declared.Domain.{Ghosts}
use Rattle.linear.specs.Forms.{forms}
use Rattle.facts.specs.Symbols.{Fact}
use Rattle.facts.specs.Elements.{Known}
use Rattle.facts.specs.View.{known_seen}
use Rattle.walk_trees.specs.Statements.{spot_of}
use Rattle.walk_trees.specs.Trees.{OfIndex, Obligation, Access, Ended}
use Rattle.path_steps.specs.Paths.{Claimed}
use Rattle.obligations.specs.Listing.{Of}
use Rattle.obligations.specs.Crossings as crossings
use Rattle.obligations.specs.Crossings.{crossing_obligation}
use Rattle.obligations.specs.Fitting.{is_fit_goal, crossing_fits}
use Rattle.obligations.specs.Meetings.{meetings}
use Rattle.obligations.specs.Notes.{Notes}
use Rattle.two_thread.specs.Alike.{notes_of}
use Rattle.two_thread.specs.Goals.{owed}
use Rattle.two_thread.specs.Meetings as seen
use Rattle.two_thread.specs.Meetings.{meeting_seen, meeting_obligation, meeting_fits}
use Rattle.two_thread.specs.View.{met_claims, nth_claim, met_accesses, met_ends, crossing}
use Rattle.two_thread.specs.declared.met.Met.{Met}
use Rattle.two_thread.specs.declared.numbered.Obligations.{Obligations}
use Rattle.two_thread.specs.declared.crossings.Crossing as code
use Rattle.two_thread.specs.declared.numbered.Which.{Which}
use Rattle.two_thread.specs.declared.numbered.Which.TheVariants as whiches
use Rattle.two_thread.specs.Refusals.{IsInside}
use Rattle.two_thread.specs.declared.meetings.Meeting as code_meeting

-- past the end
abbrev pub no_obligation : Obligation
no_obligation = record { sort = OfIndex; spot = spot_of 0; other = None; needed = false; settled = false; facts = []; goal = None }

abbrev pub found_meetings : {E : Type 0} → Met E → List code_meeting.Meeting → List (seen.Meeting E)
found_meetings m ps = map (meeting_seen (met_ends m)) ps

abbrev pub found_crossings : {E : Type 0} → Met E → List code.Crossing → List (crossings.Crossing E)
found_crossings m ps = map (crossing (met_accesses m)) ps

abbrev pub claims_listed : {E : Type 0} → Obligations E → List Obligation
claims_listed o = map (owed (forms o.launch.items)) (met_claims o.met)

abbrev pub meetings_listed : {E : Type 0} → Ghosts E → Obligations E → List Obligation
meetings_listed g o = map (meeting_obligation g (known_seen o.known) (forms o.launch.items) (notes_of o.alike.items)) (found_meetings o.met o.meetings.items)

abbrev pub crossings_listed : {E : Type 0} → Ghosts E → Obligations E → List Obligation
crossings_listed g o = map (crossing_obligation g (known_seen o.known) (forms o.launch.items) (notes_of o.alike.items)) (found_crossings o.met o.crossings.items)

-- all that is to be shown of what was found
abbrev pub listed : {E : Type 0} → Ghosts E → Obligations E → List Obligation
listed g o = claims_listed o ++ (meetings_listed g o ++ crossings_listed g o)

-- the obligation of a number, counted from 1
abbrev pub nth_obligation : List Obligation → (number : ℕ) → Obligation
nth_obligation os n = get_or os (n - 1) no_obligation

-- whether the own forms of each are of i64: those that deny a claim are, since all these are tried before there are obligations
abbrev pub found_fits : {E : Type 0} → Obligations E → List Bool
found_fits o = map (λ c. true) (met_claims o.met) ++ (map meeting_fits (found_meetings o.met o.meetings.items) ++ map crossing_fits (found_crossings o.met o.crossings.items))

-- those of a number, counted from 1
abbrev pub nth_fits : List Bool → (number : ℕ) → Bool
nth_fits fits n = get_or fits (n - 1) true

-- all that is to be shown of these claims, ends and accesses, under conditions
abbrev pub all_listed : {E : Type 0} → Ghosts E → Known E → (launch : List Fact) → Notes → Kernel → Conditions → List Claimed → List (Of (Ended E)) → List (Of (Access E)) → List Obligation
all_listed g k launch n kernel c cs es us = map (owed launch) cs ++ (meetings g k launch n es ++ map (crossing_obligation g k launch n) (crossings.crossings kernel c us))

-- whether the own forms of each are of i64
abbrev pub all_fits : {E : Type 0} → Ghosts E → Known E → (launch : List Fact) → Notes → Kernel → Conditions → List Claimed → List (Of (Ended E)) → List (Of (Access E)) → List Bool
all_fits g k launch n kernel c cs es us = map (λ x. true) cs ++ (map (λ (o : Obligation). is_fit_goal o.goal) (meetings g k launch n es) ++ map crossing_fits (crossings.crossings kernel c us))

-- the obligation that is meant, and whether it is there and its own forms are of i64
abbrev pub obligation_of : {E : Type 0} → Ghosts E → Obligations E → Which → Obligation
obligation_of g o (whiches.OfClaim i) = owed (forms o.launch.items) (nth_claim o.met i)
obligation_of g o (whiches.OfMeeting m) = meeting_obligation g (known_seen o.known) (forms o.launch.items) (notes_of o.alike.items) (meeting_seen (met_ends o.met) m)
obligation_of g o (whiches.OfCrossing p) = crossing_obligation g (known_seen o.known) (forms o.launch.items) (notes_of o.alike.items) (crossing (met_accesses o.met) p)

abbrev pub IsThere : {E : Type 0} → Obligations E → Which → Type 0
IsThere o (whiches.OfClaim i) = i < length o.met.claims.items
IsThere o (whiches.OfMeeting m) = seen.IsInside (length o.met.ends.items) m
IsThere o (whiches.OfCrossing p) = IsInside (length o.met.accesses.items) p

abbrev pub which_fits : {E : Type 0} → Obligations E → Which → Bool
which_fits o (whiches.OfClaim i) = true
which_fits o (whiches.OfMeeting m) = meeting_fits (meeting_seen (met_ends o.met) m)
which_fits o (whiches.OfCrossing p) = crossing_fits (crossing (met_accesses o.met) p)
