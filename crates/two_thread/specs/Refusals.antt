-- What an error about two items says.
use Rattle.std.specs.Prelude.{◌≡◌, ◌<◌, ℕ, List, length, Bool, false}
use Rattle.facts.specs.Symbols.{Fact}
use Rattle.facts.specs.declared.error.WalkError.{WalkError}
use Rattle.facts.specs.declared.error.WalkError.TheVariants as errors
use Rattle.walk_trees.specs.Fitting.{differences_fit}
use Rattle.walk_trees.specs.Trees.{Obligation}
use Rattle.obligations.specs.Crossings as crossings
use Rattle.two_thread.specs.declared.crossings.Crossing.{Crossing}

-- not all forms that are made are of i64, or there was no memory
abbrev pub DoNotFit : (fit : Bool) → WalkError → Type 0
DoNotFit fit errors.TooMany = ⊥
DoNotFit fit errors.TooLarge = fit ≡ false
DoNotFit fit errors.Memory = Unit {0}

-- a difference was not made: a number of it is no i64, or there was no memory
abbrev pub AreUnfit : WalkError → Fact → Fact → Type 0
AreUnfit errors.TooMany f g = ⊥
AreUnfit errors.TooLarge f g = differences_fit f g ≡ false
AreUnfit errors.Memory f g = Unit {0}

abbrev pub IsUnfitCrossing : {E : Type 0} → WalkError → crossings.Crossing E → Type 0
IsUnfitCrossing e p = AreUnfit e p.first.it.index (crossings.second_index p)

-- so many were not listed: they are over the most, or there was no memory
abbrev pub IsOver : (most count : ℕ) → WalkError → Type 0
IsOver most n errors.TooMany = most < n
IsOver most n errors.TooLarge = ⊥
IsOver most n errors.Memory = Unit {0}

-- a pair of accesses of so many
abbrev pub IsInside : (count : ℕ) → Crossing → Type 0
IsInside n p = (p.first < n) × (p.second < n)

-- these were not gathered: there are over 65,536, not all that denies claims is of i64, or there was no memory
abbrev pub AreUngathered : List Obligation → (fit : Bool) → WalkError → Type 0
AreUngathered os fit errors.TooMany = 65536 < length os
AreUngathered os fit errors.TooLarge = fit ≡ false
AreUngathered os fit errors.Memory = Unit {0}
