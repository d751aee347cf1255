-- Findings of the code as those of the definitions.
use Rattle.std.specs.Prelude.{List, map, Option, Some, None}
use Rattle.semantics.specs.World as worlds
use Rattle.words.specs.View.{fault}
use Rattle.core_code.specs.View.{site}
use Rattle.launch.specs.View.{counts}
use Rattle.machine.specs.Worlds.{event}
use Rattle.findings.specs.Findings as findings
use Rattle.findings.specs.declared.finding.FindingKind.{FindingKind}
use Rattle.findings.specs.declared.finding.FindingKind.TheVariants as kinds
use Rattle.findings.specs.declared.finding.Spot.{Spot}
use Rattle.findings.specs.declared.finding.Spot.TheVariants as spots
use Rattle.findings.specs.declared.finding.WorkItem.{WorkItem}
use Rattle.findings.specs.declared.finding.Grade.{Grade}
use Rattle.findings.specs.declared.finding.Grade.TheVariants as grades
use Rattle.findings.specs.declared.finding.Finding.{Finding}

abbrev pub kind : FindingKind → findings.FindingKind
kind kinds.Race = findings.Race
kind kinds.Divergence = findings.Divergence
kind (kinds.Fault f) = findings.Faults (fault f)
kind kinds.Size = findings.Sizes
kind kinds.Bound = findings.Bound
kind kinds.Values = findings.Values

abbrev pub spot : Spot → findings.Spot
spot (spots.Store s) = findings.Store (site s)
spot (spots.Load s) = findings.Load (site s)
spot (spots.Barrier s) = findings.Barrier (site s)
spot spots.End = findings.End
spot (spots.At s) = findings.At (site s)

abbrev pub work_item : WorkItem → findings.WorkItem
work_item i = record { number = i.number; group = counts i.group; local = counts i.local }

abbrev pub schedule : Grade → Option (List worlds.Event)
schedule grades.Possible = None
schedule (grades.Confirmed events) = Some (map event events.items)

abbrev pub finding : Finding → findings.Finding
finding f = record { kind = kind f.kind; sites = map spot f.sites.items; items = map work_item f.items.items; schedule = schedule f.grade }
