use Rattle.std.proofs.Common.{◌≡◌, ◌++◌, drop, length, map}
use Rattle.std.specs.List.{All}
use Rattle.two_thread.specs.Refusals.{IsInside}
use Rattle.two_thread.specs.View.{crossing, met_access, met_accesses}
use Rattle.entry_check.specs.Pairs.{access_with}
use Rattle.entry_check.proofs.crossings.crossings_with.Given as goal

abbrev pub invariant-loop-j : goal.invariant-loop-j
invariant-loop-j g l = record {
  found : map (crossing (met_accesses l.met)) l.found.items ++ access_with l.terrain l.sought (met_access l.met l.i) (drop l.j (met_accesses l.met)) ≡ access_with l.terrain l.sought (met_access l.met l.i) (drop l.from (met_accesses l.met));
  inside : All (IsInside (length l.met.accesses.items)) l.found.items;
}
