use Rattle.std.proofs.Common.{length, ◌≡◌, ◌++◌, drop, map}
use Rattle.std.specs.List.{All}
use Rattle.launch.specs.View.{conditions}
use Rattle.facts.specs.View.{three}
use Rattle.obligations.specs.Crossings as specs
use Rattle.two_thread.specs.Refusals.{IsInside}
use Rattle.two_thread.specs.View.{scope, crossing, sought_array, nth_access, met_accesses}
use Rattle.two_thread.proofs.crossings.with_each.Given as goal

abbrev pub invariant-loop-j : goal.invariant-loop-j
invariant-loop-j g l = record {
  found : map (crossing (met_accesses l.pairing.met.now)) l.found.items ++ specs.with_each (three l.pairing.sizes) (conditions l.pairing.conditions.now) l.sought.fenced (sought_array l.sought) (scope l.sought.scope) (nth_access (met_accesses l.pairing.met.now) l.i) (drop l.j (met_accesses l.pairing.met.now)) ≡ map (crossing (met_accesses l.pairing.met.now)) l.fn.found.items ++ specs.with_each (three l.pairing.sizes) (conditions l.pairing.conditions.now) l.sought.fenced (sought_array l.sought) (scope l.sought.scope) (nth_access (met_accesses l.pairing.met.now) l.i) (drop l.i (met_accesses l.pairing.met.now));
  inside : All (IsInside (length l.pairing.met.now.accesses.items)) l.fn.found.items → All (IsInside (length l.pairing.met.now.accesses.items)) l.found.items;
}
