-- Cursors over the paths of all places: what is left of the trees from where a cursor stands, and that it stands there rightly.
use Rattle.std.specs.Prelude.{◌≡◌, ℕ, suc, ◌+◌, List, [], ◌∷◌, ◌++◌, map, drop, length, Bool, true, ◌&&◌, Option, None, Some, Result, Ok, Err}
use Rattle.semantics.specs.Launch.{Kernel}
use Rattle.semantics.specs.Conditions.{Conditions}
use Rattle.core_code.specs.View.{kernel}
use Rattle.launch.specs.View.{conditions}
use Rattle.domain.specs.declared.Domain.{Ghosts}
use Rattle.facts.specs.Launching.{are_sizes, known}
use Rattle.facts.specs.View.{known_seen}
use Rattle.walk_trees.specs.Fitting.{all_fit, tree_fits}
use Rattle.walk_trees.specs.Trees.{Access, Ended, leaves}
use Rattle.path_steps.specs.Paths.{Choice, Claimed}
use Rattle.path_steps.specs.Turns.{Listed, from, listed_claims, listed_accesses, listed_ends, AreRight}
use Rattle.path_steps.specs.View.{setting, choice}
use Rattle.obligations.specs.Listing.{Planted, Of, of_place, all_trees, claims_of, accesses_of, ends_in}
use Rattle.obligations.specs.Notes.{Notes}
use Rattle.obligations.specs.Owning.{all_own_accesses, all_own_ends}
use Rattle.obligations.specs.View.{seen}
use Rattle.places.specs.View.{place}
use Rattle.two_thread.specs.Paths.{claims_seen, accesses_seen, ends_seen}
use Rattle.two_thread.specs.declared.walked.Tagged.{Tagged}
use Rattle.walk.specs.Behind.{paths_from, fits_from}
use Rattle.walk.specs.Owned.{AllAreOwn}
use Rattle.walk.specs.Planting.{all_by}
use Rattle.walk.specs.Unfound.{HaveFewPaths, IsUnfound}
use Rattle.walk.specs.declared.error.FindError.{FindError}
use Rattle.walk.specs.declared.terrain.Terrain.{Terrain}
use Rattle.walk.specs.declared.cursor.Paths.{Paths}

-- what is listed of trees with their places, of the first one along these choices and all paths behind them
abbrev pub listed_from : {E A : Type 0} → Listed E A → List Choice → List (Planted E) → List (Of A)
listed_from w cs [] = []
listed_from w cs (p ∷ ps) = map (of_place p) (from w p.facts cs p.claims p.tree) ++ listed_from w [] ps

abbrev pub claims_from : {E : Type 0} → List Choice → List (Planted E) → List Claimed
claims_from cs [] = []
claims_from cs (p ∷ ps) = from listed_claims p.facts cs p.claims p.tree ++ claims_from [] ps

-- how many paths these are
abbrev pub count_from : {E : Type 0} → List Choice → List (Planted E) → ℕ
count_from cs [] = 0
count_from cs (p ∷ ps) = paths_from cs p.claims p.tree + count_from [] ps

-- what is known at each place, and all forms along its paths are of i64
abbrev pub walks_fit : {E : Type 0} → List (Planted E) → Bool
walks_fit [] = true
walks_fit (p ∷ ps) = (all_fit p.facts && tree_fits p.claims p.tree) && walks_fit ps

-- where these choices come next in a tree: their numbers are right, so many of its paths came to an end before, and all forms along the
-- paths before were of i64
pub record IsWithin {E : Type 0} (p : Planted E) (ends : ℕ) (cs : List Choice) : Type 0 where
  pub right : AreRight cs p.claims p.tree
  pub counted : ends + length (from listed_ends p.facts cs p.claims p.tree) ≡ leaves p.claims p.tree
  pub fit : fits_from cs p.claims p.tree ≡ tree_fits p.claims p.tree

abbrev pub IsAt : {E : Type 0} → List (Planted E) → (ends : ℕ) → List Choice → Type 0
IsAt [] ends cs = Unit {0}
IsAt (p ∷ ps) ends cs = IsWithin p ends cs

-- of these trees those are left, of the first one from these choices on; the trees before them were walked, and have so many claims
pub record Comes {E : Type 0} (trees left : List (Planted E)) (claims ends : ℕ) (cs : List Choice) : Type 0 where
  pub front : List (Planted E)
  pub whole : trees ≡ front ++ left
  pub few : HaveFewPaths front
  pub fit : walks_fit front ≡ true
  pub counted : (c : Conditions) → length (claims_of c front) ≡ claims
  pub within : IsAt left ends cs
  pub own_accesses : all_own_accesses (listed_from listed_accesses cs left) ≡ true
  pub own_ends : all_own_ends (listed_from listed_ends cs left) ≡ true

-- what a terrain is of
abbrev pub kernel_of : {E : Type 0} → Terrain E → Kernel
kernel_of t = kernel t.core.now

abbrev pub conditions_of : {E : Type 0} → Terrain E → Conditions
conditions_of t = conditions t.conditions.now

abbrev pub notes_of : {E : Type 0} → Terrain E → Notes
notes_of t = seen t.notes.now t.setting.entries.items

abbrev pub trees_of : {E : Type 0} → Ghosts E → Terrain E → List (Planted E)
trees_of g t = all_trees g (kernel_of t) (conditions_of t) (notes_of t)

-- from a place on, with so many claims before it
abbrev pub trees_at : {E : Type 0} → Ghosts E → Terrain E → (claims at : ℕ) → List (Planted E)
trees_at g t claims at = all_by g (setting g t.setting) (kernel_of t) (notes_of t) claims (map place (drop at t.places.now))

-- what a walk of one place asks for: no tree has symbols of the second item, however many claims are taken to stand before its place
abbrev pub IsWalkable : {E : Type 0} → Ghosts E → Terrain E → Type 0
IsWalkable g t = (are_sizes (kernel_of t).sizes ≡ true) × AllAreOwn g (setting g t.setting) (kernel_of t) (notes_of t)

-- the places are those of the kernel, and the setting is that of its conditions
pub record IsWhole {E : Type 0} (g : Ghosts E) (t : Terrain E) : Type 0 where
  pub sizes : are_sizes (kernel_of t).sizes ≡ true
  pub trees : trees_of g t ≡ trees_at g t 0 0
  pub known : known_seen t.setting.known ≡ known g (kernel_of t).sizes (conditions_of t)
  pub own_accesses : all_own_accesses (accesses_of (trees_of g t)) ≡ true
  pub own_ends : all_own_ends (ends_in (trees_of g t)) ≡ true
  pub own : AllAreOwn g (setting g t.setting) (kernel_of t) (notes_of t)

-- the trees that are left, and the choices with which the first of them goes on
abbrev pub trees_left : {E : Type 0} → Ghosts E → Terrain E → Paths → List (Planted E)
trees_left g t p = trees_at g t p.claims p.at

abbrev pub choices_left : Paths → List Choice
choices_left p = map choice p.given.items

abbrev pub left_claims : {E : Type 0} → Ghosts E → Terrain E → Paths → List Claimed
left_claims g t p = claims_from (choices_left p) (trees_left g t p)

abbrev pub left_accesses : {E : Type 0} → Ghosts E → Terrain E → Paths → List (Of (Access E))
left_accesses g t p = listed_from listed_accesses (choices_left p) (trees_left g t p)

abbrev pub left_ends : {E : Type 0} → Ghosts E → Terrain E → Paths → List (Of (Ended E))
left_ends g t p = listed_from listed_ends (choices_left p) (trees_left g t p)

abbrev pub left_count : {E : Type 0} → Ghosts E → Terrain E → Paths → ℕ
left_count g t p = count_from (choices_left p) (trees_left g t p)

-- a cursor stands somewhere in the trees of a terrain
pub record Stands {E : Type 0} (g : Ghosts E) (t : Terrain E) (p : Paths) : Type 0 where
  pub whole : IsWhole g t
  pub comes : Comes (trees_of g t) (trees_left g t p) p.claims p.ends (choices_left p)

-- the error that the last call answered
abbrev pub stopped : Paths → Option FindError
stopped p = p.stopped

-- what was left is what stands on a path, and what is left behind it. The path has no symbols of the second item
pub record Gives {E : Type 0} (g : Ghosts E) (t : Terrain E) (before : Paths) (path : Tagged E) (behind : Paths) : Type 0 where
  pub claims : left_claims g t before ≡ claims_seen path ++ left_claims g t behind
  pub accesses : left_accesses g t before ≡ accesses_seen path ++ left_accesses g t behind
  pub ends : left_ends g t before ≡ ends_seen path ++ left_ends g t behind
  pub count : left_count g t before ≡ suc (left_count g t behind)
  pub own_accesses : all_own_accesses (accesses_seen path) ≡ true
  pub own_ends : all_own_ends (ends_seen path) ≡ true

-- nothing was left: from each place at most 256 paths come to an end, and all forms along them are of i64
pub record IsOver {E : Type 0} (g : Ghosts E) (t : Terrain E) (before : Paths) : Type 0 where
  pub claims : left_claims g t before ≡ []
  pub accesses : left_accesses g t before ≡ []
  pub ends : left_ends g t before ≡ []
  pub few : HaveFewPaths (trees_of g t)
  pub fit : walks_fit (trees_of g t) ≡ true

-- an error is one of the kernel's obligations
abbrev pub IsUnfoundIn : {E : Type 0} → Ghosts E → Terrain E → FindError → Type 0
IsUnfoundIn g t e = IsUnfound g (kernel_of t) (conditions_of t) (notes_of t) e

-- what an answer tells of what was left before the call, and what is left behind it
abbrev pub Answers : {E : Type 0} → Ghosts E → Terrain E → (before : Paths) → Result (Option (Tagged E)) FindError → (behind : Paths) → Type 0
Answers g t before (Ok None) behind = IsOver g t before × IsOver g t behind × (stopped behind ≡ None)
Answers g t before (Ok (Some path)) behind = Gives g t before path behind × (stopped behind ≡ None)
Answers g t before (Err e) behind = IsUnfoundIn g t e × (stopped behind ≡ Some e)
