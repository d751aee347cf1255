-- All that the paths of several places have, one after the other.
use Rattle.std.specs.Prelude.{pos, List, [], ◌∷◌, ◌++◌, map, None, false}
use Rattle.semantics.specs.Core.{Global}
use Rattle.arrivals.specs.Trees.{AtEnd}
use Rattle.facts.specs.Symbols.{constant}
use Rattle.walk_trees.specs.Held.{no_held}
use Rattle.walk_trees.specs.Statements.{spot_of}
use Rattle.walk_trees.specs.Trees.{Access, Ended, AtLeastZero, OfIndex}
use Rattle.path_steps.specs.Paths.{Claimed}
use Rattle.path_steps.specs.View.{followed}
use Rattle.path_steps.specs.declared.path.Path.{Path}
use Rattle.obligations.specs.Listing.{Of, is_some}
use Rattle.two_thread.specs.Places.{joined}
use Rattle.two_thread.specs.declared.walked.Walked.{Walked}
use Rattle.two_thread.specs.declared.walked.Tagged.{Tagged}

-- of one path
abbrev pub claims_on : {E : Type 0} → Path E → List Claimed
claims_on p = (followed p).found.claims

abbrev pub accesses_on : {E : Type 0} → Path E → List (Access E)
accesses_on p = (followed p).found.accesses

abbrev pub ends_on : {E : Type 0} → Path E → List (Ended E)
ends_on p = (followed p).found.ends

-- with its place
abbrev pub tagged : {E A : Type 0} → Tagged E → A → Of A
tagged t a = record { anchor = t.anchor; is_head = t.is_head; it = a }

abbrev pub claims_seen : {E : Type 0} → Tagged E → List Claimed
claims_seen t = claims_on t.path

abbrev pub accesses_seen : {E : Type 0} → Tagged E → List (Of (Access E))
accesses_seen t = map (tagged t) (accesses_on t.path)

abbrev pub ends_seen : {E : Type 0} → Tagged E → List (Of (Ended E))
ends_seen t = map (tagged t) (ends_on t.path)

-- past the end
abbrev pub no_claim : Claimed
no_claim = record { demand = record { sort = OfIndex; spot = spot_of 0 }; needed = false; settled = false; goal = AtLeastZero (constant (pos 0)); facts = [] }

abbrev pub at_entry : {A : Type 0} → A → Of A
at_entry a = record { anchor = None; is_head = false; it = a }

abbrev pub no_access : {E : Type 0} → Of (Access E)
no_access = at_entry (record { target = record { is_store = false; array = record { space = Global; number = 0 }; spot = spot_of 0 }; index = constant (pos 0); held = no_held; facts = [] })

abbrev pub no_end : {E : Type 0} → Of (Ended E)
no_end = at_entry (record { arrived = record { stop = AtEnd; turns = None; variables = []; held = no_held }; facts = [] })

-- all claims, all accesses and all ends of paths
abbrev pub all_claims : {E : Type 0} → List (Tagged E) → List Claimed
all_claims ts = joined (map claims_seen ts)

abbrev pub all_accesses : {E : Type 0} → List (Tagged E) → List (Of (Access E))
all_accesses ts = joined (map accesses_seen ts)

abbrev pub all_ends : {E : Type 0} → List (Tagged E) → List (Of (Ended E))
all_ends ts = joined (map ends_seen ts)

-- of a place's paths, with the place's anchor, and whether it is a loop's
abbrev pub of_walked : {E A : Type 0} → Walked E → A → Of A
of_walked w a = record { anchor = w.anchor; is_head = is_some w.head; it = a }

-- place by place
abbrev pub claims_of : {E : Type 0} → List (Walked E) → List Claimed
claims_of [] = []
claims_of (w ∷ ws) = joined (map claims_on w.paths.items) ++ claims_of ws

abbrev pub accesses_of : {E : Type 0} → List (Walked E) → List (Of (Access E))
accesses_of [] = []
accesses_of (w ∷ ws) = map (of_walked w) (joined (map accesses_on w.paths.items)) ++ accesses_of ws

abbrev pub ends_of : {E : Type 0} → List (Walked E) → List (Of (Ended E))
ends_of [] = []
ends_of (w ∷ ws) = map (of_walked w) (joined (map ends_on w.paths.items)) ++ ends_of ws
