-- What may be wrong with a kernel at a launch, where, and of which work-items.
use Rattle.std.specs.Prelude.{ℕ, List, Option}
use Rattle.semantics.specs.Core.{Site}
use Rattle.semantics.specs.Word.{Fault}
use Rattle.semantics.specs.Launch.{Three}
use Rattle.semantics.specs.World.{Event}

pub data FindingKind : Type 0 where
  Race : FindingKind
  Divergence : FindingKind
  Faults : (fault : Fault) → FindingKind
  Sizes : FindingKind
  Bound : FindingKind
  Values : FindingKind

-- an access by its array's name, a barrier, an item's end, or what faults or does not end
pub data Spot : Type 0 where
  Store : (site : Site) → Spot
  Load : (site : Site) → Spot
  Barrier : (site : Site) → Spot
  End : Spot
  At : (site : Site) → Spot

-- a work-item's number, its group's ids and its local ids
pub record WorkItem : Type 0 where
  pub number : ℕ
  pub group : Three ℕ
  pub local : Three ℕ

-- a confirmed one has a schedule, and an item for each of its sites
pub record Finding : Type 0 where
  pub kind : FindingKind
  pub sites : List Spot
  pub items : List WorkItem
  pub schedule : Option (List Event)
