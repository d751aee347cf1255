-- What an error says where the obligations of a kernel's places are not found.
use Rattle.std.specs.Prelude.{◌≡◌, ◌<◌, ◌≤◌, ◌⊎◌, ℕ, length, List, [], ◌∷◌, Option, Some, None, false}
use Rattle.semantics.specs.Launch.{Kernel}
use Rattle.semantics.specs.Conditions.{Conditions}
use Rattle.domain.specs.declared.Domain.{Ghosts}
use Rattle.facts.specs.declared.error.WalkError.{WalkError}
use Rattle.facts.specs.declared.error.WalkError.TheVariants as walks
use Rattle.walk_trees.specs.Trees.{leaves}
use Rattle.obligations.specs.Notes.{Notes}
use Rattle.obligations.specs.Listing.{Planted, all_trees}
use Rattle.obligations.specs.Fitting.{trees_fit}
use Rattle.obligations.specs.Shown.{obligations}
use Rattle.walk.specs.declared.error.FindError.{FindError}
use Rattle.walk.specs.declared.error.FindError.TheVariants as errors

-- the number of a place's statement: of its loop, else of its barrier; the entry has none
abbrev pub statement_by : (anchor head : Option ℕ) → Option ℕ
statement_by a None = a
statement_by a (Some h) = Some h

abbrev pub statement_of : {E : Type 0} → Planted E → Option ℕ
statement_of p = statement_by p.anchor p.head

-- from each place at most 256 paths come to an end
abbrev pub HaveFewPaths : {E : Type 0} → List (Planted E) → Type 0
HaveFewPaths [] = Unit {0}
HaveFewPaths (p ∷ ps) = (leaves p.claims p.tree ≤ 256) × HaveFewPaths ps

-- of the first place from which more do, this is the statement
abbrev pub IsFirstOfMany : {E : Type 0} → Option ℕ → List (Planted E) → Type 0
IsFirstOfMany s [] = ⊥
IsFirstOfMany s (p ∷ ps) = ((s ≡ statement_of p) × (256 < leaves p.claims p.tree)) ⊎ ((leaves p.claims p.tree ≤ 256) × IsFirstOfMany s ps)

-- over 65,536 obligations, or a form of a place or its tree, or what denies a claim, is not of i64
abbrev pub IsUnlisted : {E : Type 0} → Ghosts E → Kernel → Conditions → Notes → WalkError → Type 0
IsUnlisted g k c n walks.TooMany = 65536 < length (obligations g k c n)
IsUnlisted g k c n walks.TooLarge = trees_fit (all_trees g k c n) ≡ false
IsUnlisted g k c n walks.Memory = Unit {0}

abbrev pub IsUnfound : {E : Type 0} → Ghosts E → Kernel → Conditions → Notes → FindError → Type 0
IsUnfound g k c n (errors.ManyPaths s) = IsFirstOfMany s (all_trees g k c n)
IsUnfound g k c n (errors.Walk e) = IsUnlisted g k c n e
