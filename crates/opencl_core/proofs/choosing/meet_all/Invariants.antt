use Rattle.std.proofs.Common.{◌≡◌, drop}
use Rattle.core_code.specs.View.{site}
use Rattle.opencl_tree.specs.View.{statements}
use Rattle.opencl_core.specs.Choosing.{meet_all}
use Rattle.opencl_core.specs.ChoosingView.{met}
use Rattle.opencl_core.specs.View.{room}
use Rattle.opencl_core.proofs.choosing.meet_all.Given as goal

abbrev pub invariant-loop-statement : goal.invariant-loop-statement
invariant-loop-statement l =
    meet_all (site l.at) (statements (drop l.statement-index l.labels)) (room l.room) (met l.so)
    ≡ meet_all (site l.at) (statements l.labels) (room l.room) (met l.initial.so)
