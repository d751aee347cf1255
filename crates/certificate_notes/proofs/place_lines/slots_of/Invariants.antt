use Rattle.std.proofs.Common.{◌≡◌, drop, map}
use Rattle.std.specs.String.{string_bytes}
use Rattle.certificate_notes.specs.Noted.{each}
use Rattle.certificate_notes.specs.Sights.{slot_of}
use Rattle.certificate_notes.specs.View.{named}
use Rattle.certificate_notes.specs.Behind.{after}
use Rattle.certificate_notes.proofs.place_lines.slots_of.Given as goal

abbrev pub invariant-loop-name : goal.invariant-loop-name
invariant-loop-name l = after l.slots.items (each (slot_of (map named l.agreeing)) (map string_bytes (drop l.name-index l.names))) ≡ each (slot_of (map named l.agreeing)) (map string_bytes l.names)
