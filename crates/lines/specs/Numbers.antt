-- Numbers that the code has read.
use Rattle.std.specs.Prelude.{Result, Ok, Err}
use Rattle.lines.specs.Lines as lines
use Rattle.lines.specs.declared.number.NumberFault.{NumberFault}
use Rattle.lines.specs.declared.number.NumberFault.TheVariants as faults

abbrev pub fault : NumberFault → lines.NumberFault
fault faults.NoDecimal = lines.NoDecimal
fault faults.TooLarge = lines.TooLarge

abbrev pub seen : {A : Type 0} → Result A NumberFault → Result A lines.NumberFault
seen (Ok a) = Ok a
seen (Err e) = Err (fault e)
