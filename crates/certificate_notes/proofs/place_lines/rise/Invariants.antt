use Rattle.std.proofs.Common.{◌≡◌, drop}
use Rattle.certificate_notes.specs.Noted as noted
use Rattle.certificate_notes.proofs.place_lines.rise.Given as goal

abbrev pub invariant-loop-slot : goal.invariant-loop-slot
invariant-loop-slot l = noted.rise l.least (drop l.slot-index l.slots) ≡ noted.rise 0 l.slots
