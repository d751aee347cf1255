-- How far the walk of a place's paths, and of all places, has come; and what an error says of it.
use Rattle.std.specs.Prelude.{◌≡◌, ◌<◌, ◌≤◌, ℕ, List, [], ◌∷◌, Option, None, length, true, false, ◌&&◌}
use Rattle.semantics.specs.Conditions.{Conditions}
use Rattle.facts.specs.declared.error.WalkError.{WalkError}
use Rattle.facts.specs.declared.error.WalkError.TheVariants as walks
use Rattle.walk_trees.specs.Fitting.{all_fit, tree_fits}
use Rattle.walk_trees.specs.Trees.{after, leaves, accesses, ends}
use Rattle.path_steps.specs.Paths.{Choice, collect}
use Rattle.path_steps.specs.Turns.{from, listed_claims}
use Rattle.path_steps.specs.declared.path.Path.{Path}
use Rattle.walk.specs.Paths.{all_claims, all_accesses, all_ends, begun}
use Rattle.walk.specs.Behind.{paths_left}
use Rattle.walk.specs.Walked as turns
use Rattle.obligations.specs.Listing.{Planted, claims_of}
use Rattle.obligations.specs.Fitting.{planted_fits, trees_fit}
use Rattle.two_thread.specs.declared.walked.Walked.{Walked}
use Rattle.walk.specs.Unfound.{statement_of, IsFirstOfMany}
use Rattle.walk.specs.declared.error.FindError.{FindError}
use Rattle.walk.specs.declared.error.FindError.TheVariants as errors

-- one path was not walked to its end
abbrev pub IsCut : {E : Type 0} → Planted E → List Choice → WalkError → Type 0
IsCut p cs walks.TooMany = (collect (begun p.facts p.claims cs) p.tree).is_few ≡ false
IsCut p cs walks.TooLarge = (all_fit p.facts && (collect (begun p.facts p.claims cs) p.tree).is_fit) ≡ false
IsCut p cs walks.Memory = Unit {0}

-- these paths of a place are found, and behind the last of them it is known that what is known at the place is of i64
pub record Goes {E : Type 0} (p : Planted E) (found : List (Path E)) (so_many count : ℕ) (next : Option (List Choice)) : Type 0 where
  pub walked : turns.Walked p.facts p.claims p.tree found so_many count next
  pub known : next ≡ None → all_fit p.facts ≡ true

abbrev pub left_of : {E : Type 0} → Planted E → Option (List Choice) → ℕ
left_of p next = paths_left p.claims p.tree next

-- the paths of a place are those of its tree
pub record AreOf {E : Type 0} (paths : List (Path E)) (p : Planted E) : Type 0 where
  pub claims : all_claims paths ≡ from listed_claims p.facts [] p.claims p.tree
  pub accesses : all_accesses paths ≡ accesses p.facts p.claims p.tree
  pub ends : all_ends paths ≡ ends p.facts p.claims p.tree
  pub few : leaves p.claims p.tree ≤ 256
  pub known : all_fit p.facts ≡ true
  pub fit : tree_fits p.claims p.tree ≡ true

pub record IsOf {E : Type 0} (w : Walked E) (p : Planted E) : Type 0 where
  pub anchor : w.anchor ≡ p.anchor
  pub head : w.head ≡ p.head
  pub paths : AreOf w.paths.items p

-- not all paths of a place were walked
abbrev pub IsStuck : {E : Type 0} → Planted E → FindError → Type 0
IsStuck p (errors.ManyPaths s) = (s ≡ statement_of p) × (256 < leaves p.claims p.tree)
IsStuck p (errors.Walk walks.TooMany) = 65536 < after p.claims p.tree
IsStuck p (errors.Walk walks.TooLarge) = planted_fits p ≡ false
IsStuck p (errors.Walk walks.Memory) = Unit {0}

-- these are of the first trees, and the others are left
abbrev pub Walks : {E : Type 0} → List (Walked E) → (trees left : List (Planted E)) → Type 0
Walks [] ts rest = ts ≡ rest
Walks (w ∷ ws) [] rest = ⊥
Walks (w ∷ ws) (p ∷ ps) rest = IsOf w p × Walks ws ps rest

-- not all places were walked
abbrev pub IsAnyStuck : {E : Type 0} → List (Planted E) → FindError → Type 0
IsAnyStuck ts (errors.ManyPaths s) = IsFirstOfMany s ts
IsAnyStuck ts (errors.Walk walks.TooMany) = (c : Conditions) → 65536 < length (claims_of c ts)
IsAnyStuck ts (errors.Walk walks.TooLarge) = trees_fit ts ≡ false
IsAnyStuck ts (errors.Walk walks.Memory) = Unit {0}
