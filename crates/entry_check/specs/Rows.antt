-- Rows of one kind, which are ends, or accesses to one array in one scope: those of paths, and the pairs of them.
use Rattle.std.specs.Prelude.{ℕ, List, map, get_or, Bool}
use Rattle.domain.specs.declared.Domain.{Ghosts}
use Rattle.walk_trees.specs.Trees.{Access, Ended, Obligation}
use Rattle.obligations.specs.Crossings as crossings
use Rattle.obligations.specs.Crossings.{is_array}
use Rattle.obligations.specs.Fitting.{crossing_fits}
use Rattle.obligations.specs.Listing.{Of}
use Rattle.obligations.specs.Meetings.{is_rest}
use Rattle.two_thread.specs.Meetings as meetings
use Rattle.two_thread.specs.Meetings.{all_meetings, meet_each, meet_from, meeting_fits}
use Rattle.two_thread.specs.Paths.{accesses_seen, ends_seen, no_access, no_end}
use Rattle.two_thread.specs.Places.{joined}
use Rattle.two_thread.specs.View.{sought_array}
use Rattle.two_thread.specs.declared.met.Met.{Met}
use Rattle.two_thread.specs.declared.walked.Tagged.{Tagged}
use Rattle.walk.specs.Cursors.{left_accesses, left_ends}
use Rattle.walk.specs.declared.cursor.Paths.{Paths}
use Rattle.walk.specs.declared.error.FindError.{FindError}
use Rattle.walk.specs.declared.terrain.Terrain.{Terrain}
use Rattle.entry_check.specs.Hand.{crossing_owed, meeting_owed, notes_in}
use Rattle.entry_check.specs.Pairs.{access_with, all_final, all_lone, crossings_sought}
use Rattle.entry_check.specs.Tallies.{Cuts, Fails, Takes}
use Rattle.entry_check.specs.View.{said}
use Rattle.entry_check.specs.declared.asked.Asked.{Asked}
use Rattle.entry_check.specs.declared.paired.Paired.{Paired}
use Rattle.entry_check.specs.declared.paired.Paired.TheVariants as kinds
use Rattle.entry_check.specs.declared.tally.Tally.{Tally}

-- an end or an access, and a pair of two
abbrev pub Row : Type 0 → Paired → Type 0
Row E kinds.Ends = Of (Ended E)
Row E (kinds.Accesses s) = Of (Access E)

abbrev pub Pair : Type 0 → Paired → Type 0
Pair E kinds.Ends = meetings.Meeting E
Pair E (kinds.Accesses s) = crossings.Crossing E

-- those of one path, of some paths, of the paths that are held, and of those that are left
abbrev pub rows_seen : {E : Type 0} → (k : Paired) → Tagged E → List (Row E k)
rows_seen kinds.Ends t = ends_seen t
rows_seen (kinds.Accesses s) t = accesses_seen t

abbrev pub all_rows : {E : Type 0} → (k : Paired) → List (Tagged E) → List (Row E k)
all_rows k ts = joined (map (rows_seen k) ts)

abbrev pub held_rows : {E : Type 0} → (k : Paired) → Met E → List (Row E k)
held_rows k m = all_rows k m.paths.items

abbrev pub left_rows : {E : Type 0} → Ghosts E → Terrain E → (k : Paired) → Paths → List (Row E k)
left_rows g t kinds.Ends p = left_ends g t p
left_rows g t (kinds.Accesses s) p = left_accesses g t p

-- past the end; of a number
abbrev pub no_row : (E : Type 0) → (k : Paired) → Row E k
no_row E kinds.Ends = no_end
no_row E (kinds.Accesses s) = no_access

abbrev pub nth_row : {E : Type 0} → (k : Paired) → List (Tagged E) → ℕ → Row E k
nth_row {E} k ts i = get_or (all_rows k ts) i (no_row E k)

abbrev pub held_row : {E : Type 0} → (k : Paired) → Met E → ℕ → Row E k
held_row k m i = nth_row k m.paths.items i

-- an end has pairs where an item comes to rest, an access where it is to the array
abbrev pub has_pairs : (E : Type 0) → (k : Paired) → Row E k → Bool
has_pairs E kinds.Ends u = is_rest u.it.arrived.stop
has_pairs E (kinds.Accesses s) u = is_array (sought_array s) u.it.target

abbrev pub held_has_pairs : {E : Type 0} → (k : Paired) → Met E → ℕ → Bool
held_has_pairs {E} k m i = has_pairs E k (held_row k m i)

-- the pairs of a row that has pairs with others; of any row; of all rows
abbrev pub pairs_with : {E : Type 0} → Asked E → Terrain E → (k : Paired) → Row E k → List (Row E k) → List (Pair E k)
pairs_with a t kinds.Ends u vs = meet_each (notes_in a.premises) u vs
pairs_with a t (kinds.Accesses s) u vs = access_with t s u vs

abbrev pub pairs_from : {E : Type 0} → Asked E → Terrain E → (k : Paired) → Row E k → List (Row E k) → List (Pair E k)
pairs_from a t kinds.Ends u vs = meet_from (notes_in a.premises) u vs
pairs_from a t (kinds.Accesses s) u vs = access_with t s u vs

abbrev pub all_pairs : {E : Type 0} → Asked E → Terrain E → (k : Paired) → List (Row E k) → List (Pair E k)
all_pairs a t kinds.Ends us = all_meetings (notes_in a.premises) us
all_pairs a t (kinds.Accesses s) us = crossings_sought t s us

-- where each row is so, there are no pairs
abbrev pub all_alone : {E : Type 0} → Terrain E → (k : Paired) → List (Row E k) → Bool
all_alone t kinds.Ends us = all_final us
all_alone t (kinds.Accesses s) us = all_lone t s us

-- what is to be shown of a pair, and whether its own forms are of i64
abbrev pub pair_owed : {E : Type 0} → Ghosts E → Asked E → (k : Paired) → Pair E k → Obligation
pair_owed g a kinds.Ends x = meeting_owed g a.premises x
pair_owed g a (kinds.Accesses s) x = crossing_owed g a.premises x

abbrev pub pair_fits : {E : Type 0} → Asked E → (k : Paired) → Pair E k → Bool
pair_fits a kinds.Ends x = meeting_fits x
pair_fits a (kinds.Accesses s) x = crossing_fits x

-- how far the check of pairs came
abbrev pub TakesPairs : {E : Type 0} → Ghosts E → Asked E → (k : Paired) → (front left : List (Pair E k)) → (before behind : Tally) → Type 0
TakesPairs g a k xs ys x y = Takes (said a.said.now) (pair_owed g a k) (pair_fits a k) xs ys x y

abbrev pub CutsPairs : {E : Type 0} → Ghosts E → Asked E → (k : Paired) → (front : List (Pair E k)) → Tally → FindError → Type 0
CutsPairs g a k xs x e = Cuts (said a.said.now) (pair_owed g a k) (pair_fits a k) xs x e

abbrev pub FailsPairs : {E : Type 0} → Ghosts E → Asked E → Terrain E → (k : Paired) → (front : List (Pair E k)) → Tally → FindError → Type 0
FailsPairs g a t k xs x e = Fails g t (said a.said.now) (pair_owed g a k) (pair_fits a k) xs x e
