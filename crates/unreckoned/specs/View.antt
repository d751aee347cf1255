-- Marks of the code as those of the definitions.
use Rattle.unreckoned.specs.Marking as marking
use Rattle.unreckoned.specs.declared.marks.Marks.{Marks}

abbrev pub marks : Marks → marking.Marks
marks m = record { slots = m.slots.items; buffers = m.buffers.items; arrays = m.arrays.items }
