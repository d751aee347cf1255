-- Obligations of the paths that are held.
use Rattle.std.specs.Prelude.{◌≡◌, ◌<◌, List, Bool, true, length}
use Rattle.domain.specs.declared.Domain.{Ghosts}
use Rattle.linear.specs.Forms.{forms}
use Rattle.facts.specs.Symbols.{Fact}
use Rattle.facts.specs.View.{known_seen}
use Rattle.walk_trees.specs.Fitting.{denials_fit}
use Rattle.walk_trees.specs.Trees.{Obligation}
use Rattle.path_steps.specs.Paths.{Claimed}
use Rattle.obligations.specs.Crossings as crossings
use Rattle.obligations.specs.Crossings.{crossing_obligation}
use Rattle.obligations.specs.Fitting.{crossing_fits}
use Rattle.obligations.specs.Notes.{Notes}
use Rattle.two_thread.specs.Alike.{notes_of}
use Rattle.two_thread.specs.Goals as goals
use Rattle.two_thread.specs.Meetings as meetings
use Rattle.two_thread.specs.Meetings.{meeting_seen, meeting_obligation, meeting_fits}
use Rattle.two_thread.specs.Refusals.{IsInside}
use Rattle.two_thread.specs.View.{nth_claim, met_accesses, met_ends, crossing}
use Rattle.two_thread.specs.declared.met.Met.{Met}
use Rattle.entry_check.specs.declared.hand.Owed.{Owed}
use Rattle.entry_check.specs.declared.hand.Owed.TheVariants as oweds
use Rattle.entry_check.specs.declared.hand.Premises.{Premises}

abbrev pub launch_of : {E : Type 0} → Premises E → List Fact
launch_of p = forms p.launch.now

abbrev pub notes_in : {E : Type 0} → Premises E → Notes
notes_in p = notes_of p.alike.now

-- what is to be shown of a claim, of a meeting, of a crossing
abbrev pub claim_owed : {E : Type 0} → Premises E → Claimed → Obligation
claim_owed p c = goals.owed (launch_of p) c

abbrev pub claim_fits : Claimed → Bool
claim_fits c = true

abbrev pub meeting_owed : {E : Type 0} → Ghosts E → Premises E → meetings.Meeting E → Obligation
meeting_owed g p m = meeting_obligation g (known_seen p.known.now) (launch_of p) (notes_in p) m

abbrev pub crossing_owed : {E : Type 0} → Ghosts E → Premises E → crossings.Crossing E → Obligation
crossing_owed g p x = crossing_obligation g (known_seen p.known.now) (launch_of p) (notes_in p) x

abbrev pub obligation_at : {E : Type 0} → Ghosts E → Premises E → Met E → Owed → Obligation
obligation_at g p m (oweds.Claim i) = claim_owed p (nth_claim m i)
obligation_at g p m (oweds.Ends x) = meeting_owed g p (meeting_seen (met_ends m) x)
obligation_at g p m (oweds.Accesses x) = crossing_owed g p (crossing (met_accesses m) x)

-- it is among what is held
abbrev pub IsHeld : {E : Type 0} → Met E → Owed → Type 0
IsHeld m (oweds.Claim i) = i < length m.claims.items
IsHeld m (oweds.Ends x) = meetings.IsInside (length m.ends.items) x
IsHeld m (oweds.Accesses x) = IsInside (length m.accesses.items) x

-- its own forms are of i64, but for what denies a claim
abbrev pub fits_at : {E : Type 0} → Met E → Owed → Bool
fits_at m (oweds.Claim i) = claim_fits (nth_claim m i)
fits_at m (oweds.Ends x) = meeting_fits (meeting_seen (met_ends m) x)
fits_at m (oweds.Accesses x) = crossing_fits (crossing (met_accesses m) x)

-- what denies a claim is of i64
abbrev pub IsDenied : {E : Type 0} → Met E → Owed → Type 0
IsDenied m (oweds.Claim i) = denials_fit (nth_claim m i).goal ≡ true
IsDenied m (oweds.Ends x) = Unit {0}
IsDenied m (oweds.Accesses x) = Unit {0}
