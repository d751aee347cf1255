use Rattle.std.proofs.Common.{length, ◌≡◌, ◌++◌, drop, map}
use Rattle.std.specs.List.{All}
use Rattle.launch.specs.View.{conditions}
use Rattle.facts.specs.View.{three}
use Rattle.obligations.specs.Crossings as specs
use Rattle.two_thread.specs.Refusals.{IsInside}
use Rattle.two_thread.specs.View.{scope, crossing, sought_array, met_accesses}
use Rattle.two_thread.proofs.crossings.crossings_in.Given as goal

abbrev pub invariant-loop-i : goal.invariant-loop-i
invariant-loop-i g l = record {
  found : map (crossing (met_accesses l.pairing.met.now)) l.found.items ++ specs.crossings_in (three l.pairing.sizes) (conditions l.pairing.conditions.now) l.sought.fenced (sought_array l.sought) (scope l.sought.scope) (drop l.i (met_accesses l.pairing.met.now)) ≡ map (crossing (met_accesses l.pairing.met.now)) l.fn.found.items ++ specs.crossings_in (three l.pairing.sizes) (conditions l.pairing.conditions.now) l.sought.fenced (sought_array l.sought) (scope l.sought.scope) (met_accesses l.pairing.met.now);
  inside : All (IsInside (length l.pairing.met.now.accesses.items)) l.fn.found.items → All (IsInside (length l.pairing.met.now.accesses.items)) l.found.items;
}
