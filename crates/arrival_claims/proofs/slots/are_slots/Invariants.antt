use Rattle.std.proofs.Common.{◌≡◌, drop, map}
use Rattle.core_code.specs.View.{kernel}
use Rattle.path_steps.specs.View.{value}
use Rattle.obligations.specs.Roots.{kinds, are_slots}
use Rattle.arrival_claims.proofs.slots.are_slots.Given as goal

abbrev pub invariant-loop-slot : goal.invariant-loop-slot
invariant-loop-slot l = are_slots (kernel l.core) l.slot (drop l.slot (kinds (kernel l.core))) (drop l.slot (map value l.values)) ≡ are_slots (kernel l.core) 0 (kinds (kernel l.core)) (map value l.values)
