use Rattle.std.proofs.Common.{◌≡◌, drop, map}
use Rattle.certificate_notes.specs.Sights as sights
use Rattle.certificate_notes.specs.View.{named}
use Rattle.certificate_notes.proofs.sight.slot_of.Given as goal

abbrev pub invariant-loop-variable : goal.invariant-loop-variable
invariant-loop-variable l = sights.slot_of (map named (drop l.variable-index l.names)) l.name ≡ sights.slot_of (map named l.names) l.name
