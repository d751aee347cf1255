-- Pairs of what is held: an end or an access of the path at hand with others.
use Rattle.std.specs.Prelude.{ℕ, List, [], ◌∷◌, length, nat_eq, Bool, true, false, ◌&&◌}
use Rattle.arrivals.specs.Trees.{Stop, AtBarrier, AtHead, AtEnd}
use Rattle.domain.specs.declared.Domain.{Ghosts}
use Rattle.walk_trees.specs.Trees.{Access, Ended, Obligation}
use Rattle.semantics.specs.Core.{Space}
use Rattle.obligations.specs.Crossings.{Crossing, crossings_from, crossings_in, crossings_of, with_each, with_one}
use Rattle.obligations.specs.Fitting.{crossing_fits}
use Rattle.obligations.specs.Listing.{Of}
use Rattle.two_thread.specs.Meetings.{meeting_fits, meeting_seen}
use Rattle.two_thread.specs.View.{crossing, met_accesses, met_ends, scope, sought_array}
use Rattle.two_thread.specs.declared.crossings.Crossing as code
use Rattle.two_thread.specs.declared.crossings.Sought.{Sought}
use Rattle.two_thread.specs.declared.meetings.Meeting.{Meeting}
use Rattle.two_thread.specs.declared.met.Met.{Met}
use Rattle.walk.specs.Cursors.{conditions_of, kernel_of}
use Rattle.walk.specs.declared.terrain.Terrain.{Terrain}
use Rattle.entry_check.specs.Hand.{crossing_owed, meeting_owed}
use Rattle.entry_check.specs.declared.hand.Premises.{Premises}

-- the crossings of an access of an array with others, in one scope; of all accesses; of an array in its scopes; of the arrays of a space
-- from a number on
abbrev pub access_with : {E : Type 0} → Terrain E → Sought → Of (Access E) → List (Of (Access E)) → List (Crossing E)
access_with t s u vs = with_each (kernel_of t).sizes (conditions_of t) s.fenced (sought_array s) (scope s.scope) u vs

abbrev pub crossings_sought : {E : Type 0} → Terrain E → Sought → List (Of (Access E)) → List (Crossing E)
crossings_sought t s us = crossings_in (kernel_of t).sizes (conditions_of t) s.fenced (sought_array s) (scope s.scope) us

abbrev pub crossings_of_array : {E : Type 0} → Terrain E → (fenced : Bool) → List (Of (Access E)) → Space → ℕ → List (Crossing E)
crossings_of_array t fenced us sp n = crossings_of (kernel_of t).sizes (conditions_of t) (λ _. fenced) us sp n

abbrev pub crossings_of_arrays : {E A : Type 0} → Terrain E → (fenced : Bool) → List (Of (Access E)) → Space → ℕ → List A → List (Crossing E)
crossings_of_arrays t fenced us sp n as' = crossings_from (kernel_of t).sizes (conditions_of t) (λ _. fenced) us sp n as'

-- an access gives no crossing with itself; nor does any of a list
abbrev pub lone : {E : Type 0} → Terrain E → Sought → Of (Access E) → Bool
lone t s u = nat_eq (length (with_one (kernel_of t).sizes (conditions_of t) s.fenced (sought_array s) (scope s.scope) u u)) 0

abbrev pub all_lone : {E : Type 0} → Terrain E → Sought → List (Of (Access E)) → Bool
all_lone t s [] = true
all_lone t s (u ∷ us) = lone t s u && all_lone t s us

-- an end is at no barrier; nor is any of a list
abbrev pub no_barrier : Stop → Bool
no_barrier (AtBarrier n) = false
no_barrier (AtHead n again) = true
no_barrier AtEnd = true

abbrev pub all_final : {E : Type 0} → List (Of (Ended E)) → Bool
all_final [] = true
all_final (u ∷ us) = no_barrier u.it.arrived.stop && all_final us

-- what is to be shown of a meeting or a crossing that is held
abbrev pub meeting_at : {E : Type 0} → Ghosts E → Premises E → Met E → Meeting → Obligation
meeting_at g p m x = meeting_owed g p (meeting_seen (met_ends m) x)

abbrev pub meeting_fits_at : {E : Type 0} → Met E → Meeting → Bool
meeting_fits_at m x = meeting_fits (meeting_seen (met_ends m) x)

abbrev pub crossing_at : {E : Type 0} → Ghosts E → Premises E → Met E → code.Crossing → Obligation
crossing_at g p m x = crossing_owed g p (crossing (met_accesses m) x)

abbrev pub crossing_fits_at : {E : Type 0} → Met E → code.Crossing → Bool
crossing_fits_at m x = crossing_fits (crossing (met_accesses m) x)
