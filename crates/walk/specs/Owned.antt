-- Trees of places whose accesses and ends have no symbols of the second item.
use Rattle.std.specs.Prelude.{◌≡◌, ℕ, [], ◌∷◌, true}
use Rattle.semantics.specs.Launch.{Kernel}
use Rattle.domain.specs.declared.Domain.{Ghosts}
use Rattle.arrivals.specs.Places.{Place}
use Rattle.walk_trees.specs.Walks.{Setting}
use Rattle.obligations.specs.Listing.{Planted, accesses_of, ends_in}
use Rattle.obligations.specs.Notes.{Notes}
use Rattle.obligations.specs.Owning.{all_own_accesses, all_own_ends}
use Rattle.walk.specs.Planting.{planted_by}

abbrev pub IsOwn : {E : Type 0} → Planted E → Type 0
IsOwn p = (all_own_accesses (accesses_of (p ∷ [])) ≡ true) × (all_own_ends (ends_in (p ∷ [])) ≡ true)

-- of each place, with any number of claims before it
abbrev pub AllAreOwn : {E : Type 0} → Ghosts E → Setting E → Kernel → Notes → Type 0
AllAreOwn g s k n = (claims : ℕ) (p : Place) → IsOwn (planted_by g s k n claims p)
