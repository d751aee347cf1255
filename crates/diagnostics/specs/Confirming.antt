-- What confirms a finding: a run of the definitions from the opening world of a launch, by the finding's schedule, whose last world shows
-- what the finding says.
use Rattle.std.specs.Prelude.{◌≡◌, List, Option, Some, None}
use Rattle.semantics.specs.Setup.{Setup}
use Rattle.semantics.specs.World.{World, Event, opening_world, run}
use Rattle.kernel_names.specs.NameMap.{NameMap}
use Rattle.findings.specs.Findings.{Finding}
use Rattle.findings.specs.Showing.{Shows}

abbrev pub IsShownBy : Setup → NameMap → Finding → Option (List Event) → Type 0
IsShownBy s k f None = ⊥
IsShownBy s k f (Some events) = (w : World) × (run s events (opening_world s) ≡ Some w) × Shows s k w f.kind f.sites f.items

-- the finding is confirmed, of this kernel at this launch
abbrev pub IsConfirmed : Setup → NameMap → Finding → Type 0
IsConfirmed s k f = IsShownBy s k f f.schedule
