use Rattle.std.proofs.Common.{◌≡◌, ◌++◌, drop, map}
use Rattle.certificate_notes.specs.Noted as noted
use Rattle.certificate_notes.specs.View.{named}
use Rattle.certificate_notes.proofs.visible.slots_of.Given as goal

abbrev pub invariant-loop-variable : goal.invariant-loop-variable
invariant-loop-variable l = l.slots.items ++ map noted.slot (map named (drop l.variable-index l.names)) ≡ map noted.slot (map named l.names)
