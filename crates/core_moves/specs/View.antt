-- What the code's moves stand for.
use Rattle.std.specs.Prelude.{map}
use Rattle.core_code.specs.View.{array}
use Rattle.core_moves.specs.Moving as rules
use Rattle.core_moves.specs.declared.moving.Move.{Move}
use Rattle.core_moves.specs.declared.moving.Target.{Target}

abbrev pub target : Target → rules.Target
target t = rules.whole (array t.array)

abbrev pub move : Move → rules.Move
move m = record { statements = m.statements; slots = m.slots; arrays = map target m.arrays.items }
