use Rattle.std.proofs.Common.{◌≡◌, drop}
use Rattle.opencl_tree.specs.View.{statements}
use Rattle.opencl_core.specs.Writing.{write_all}
use Rattle.opencl_core.specs.View.{room, around}
use Rattle.opencl_core.proofs.writing.+writing.Given as goal

abbrev pub invariant-write_all-loop-statement : goal.invariant-write_all-loop-statement
invariant-write_all-loop-statement l =
    write_all (around l.around) (statements (drop l.statement-index l.body)) (room l.room)
    ≡ write_all (around l.around) (statements l.body) (room l.initial.room)
