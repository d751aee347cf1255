use Rattle.std.proofs.Common.{◌≡◌, ◌++◌, drop, length, map}
use Rattle.core_code.specs.View.{kernel}
use Rattle.path_steps.specs.View.{value}
use Rattle.obligations.specs.Roots.{kinds, values_from}
use Rattle.path_walk.proofs.variables.slot_values.Given as goal

abbrev pub invariant-loop-slot : goal.invariant-loop-slot
invariant-loop-slot l = record {
  many : length l.values.items ≡ l._slot;
  same : map value l.values.items ++ values_from (kernel l.core) l._slot (drop l._slot (kinds (kernel l.core))) ≡ values_from (kernel l.core) 0 (kinds (kernel l.core));
}
