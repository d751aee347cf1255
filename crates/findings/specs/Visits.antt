-- What the code finds in a world, before it is a finding.
use Rattle.std.specs.Prelude.{◌≡◌, ◌<◌, ◌∷◌, [], ℕ, List}
use Rattle.semantics.specs.Setup.{Setup, item_count}
use Rattle.semantics.specs.World as worlds
use Rattle.words.specs.View.{fault}
use Rattle.kernel_names.specs.NameMap.{NameMap}
use Rattle.findings.specs.Findings as findings
use Rattle.findings.specs.Showing.{item_of, Shows}
use Rattle.findings.specs.View.{spot, work_item}
use Rattle.findings.specs.declared.visit.Visit.{Visit}
use Rattle.findings.specs.declared.sighting.Sighting.{Sighting}
use Rattle.findings.specs.declared.sighting.Sighting.TheVariants as variants

-- the item of this number comes there
pub record IsVisit (s : Setup) (i : ℕ) (there : findings.Spot) (v : Visit) : Type 0 where
  pub among : i < item_count s
  pub at : spot v.spot ≡ there
  pub who : work_item v.item ≡ item_of s i

abbrev pub spots_of : (first second : Visit) → List findings.Spot
spots_of v u = spot v.spot ∷ spot u.spot ∷ []

abbrev pub items_of : (first second : Visit) → List findings.WorkItem
items_of v u = work_item v.item ∷ work_item u.item ∷ []

abbrev pub IsSighting : Setup → NameMap → worlds.World → Sighting → Type 0
IsSighting s k w (variants.Fault f v) = Shows s k w (findings.Faults (fault f)) (spot v.spot ∷ []) (work_item v.item ∷ [])
IsSighting s k w (variants.Size v) = Shows s k w findings.Sizes (spot v.spot ∷ []) (work_item v.item ∷ [])
IsSighting s k w (variants.Race v u) = Shows s k w findings.Race (spots_of v u) (items_of v u)
IsSighting s k w (variants.Divergence v u) = Shows s k w findings.Divergence (spots_of v u) (items_of v u)
