-- What the code answers of texts, as the definitions have it.
use Rattle.std.specs.Prelude.{ℕ, Bool, List, map, Vec}
use Rattle.std.specs.declared.alloc.Global.{Global}
use Rattle.opencl_tokens.specs.Seen.{site}
use Rattle.opencl_macros.specs.Macros as macros
use Rattle.opencl_macros.specs.Reading as readings
use Rattle.opencl_macros.specs.Seen.{table, tokens_seen}
use Rattle.opencl_macros.specs.declared.macros.Entry.{Entry}
use Rattle.opencl_macros.specs.declared.reading.Conditional.{Conditional}
use Rattle.opencl_macros.specs.declared.reading.Group.{Group}
use Rattle.opencl_macros.specs.declared.reading.Group.TheVariants as groups
use Rattle.opencl_macros.specs.declared.reading.State.{State}

abbrev pub group : Group → readings.Group
group groups.Taken = readings.Taken
group groups.Awaited = readings.Awaited
group groups.Passed = readings.Passed

abbrev pub conditional : Conditional → readings.Conditional
conditional c = record { site = site c.site; group = group c.group; is_last = c.is_last }

abbrev pub conditionals : List Conditional → List readings.Conditional
conditionals cs = map conditional cs

abbrev pub state : State → readings.State
state s =
    record { table = table s.table.items; conditionals = conditionals s.conditionals.items; out = tokens_seen s.out.items; left = s.left }

abbrev pub held : Bool × ℕ → Bool × ℕ
held h = h

abbrev pub table_of : Vec Entry Global → macros.Table
table_of es = table es.items
