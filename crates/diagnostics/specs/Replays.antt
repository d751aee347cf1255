-- What a replay keeps, and what it makes of what it sees.
use Rattle.std.specs.Prelude.{◌≡◌, ◌∷◌, [], List, map, Some}
use Rattle.semantics.specs.World.{opening_world, run}
use Rattle.words.specs.View.{fault}
use Rattle.machine.specs.Worlds.{setup, world, event, IsSound}
use Rattle.machine.specs.declared.world.World.{World}
use Rattle.machine.specs.declared.world.Event.{Event}
use Rattle.findings.specs.Findings as findings
use Rattle.findings.specs.View.{spot, work_item}
use Rattle.findings.specs.Visits.{spots_of, items_of}
use Rattle.findings.specs.declared.sighting.Sighting.{Sighting}
use Rattle.findings.specs.declared.sighting.Sighting.TheVariants as variants

-- the finding that says it, with this schedule
abbrev pub finding_of : Sighting → List Event → findings.Finding
finding_of (variants.Fault f v) events = record { kind = findings.Faults (fault f); sites = spot v.spot ∷ []; items = work_item v.item ∷ []; schedule = Some (map event events) }
finding_of (variants.Size v) events = record { kind = findings.Sizes; sites = spot v.spot ∷ []; items = work_item v.item ∷ []; schedule = Some (map event events) }
finding_of (variants.Race v u) events = record { kind = findings.Race; sites = spots_of v u; items = items_of v u; schedule = Some (map event events) }
finding_of (variants.Divergence v u) events = record { kind = findings.Divergence; sites = spots_of v u; items = items_of v u; schedule = Some (map event events) }

-- the events lead to the world from the opening world of its launch
pub record IsAfter (w : World) (events : List Event) : Type 0 where
  pub sound : IsSound w
  pub run : run (setup w) (map event events) (opening_world (setup w)) ≡ Some (world w)
