use Rattle.std.proofs.Common.{◌≡◌, drop}
use Rattle.semantics.specs.Core.{none}
use Rattle.core_code.specs.View.{statements}
use Rattle.opencl_core.specs.Places.{placed_behind}
use Rattle.opencl_core.proofs.places.+placing_all.Given as goal

abbrev pub invariant-placed_all-loop-statement : goal.invariant-placed_all-loop-statement
invariant-placed_all-loop-statement l =
    placed_behind (statements l.all.items) (statements (drop l.statement-index l.of)) l.next ≡ placed_behind none (statements l.of) l.initial.next
