use Rattle.std.proofs.Common.{length, ◌≡◌, ◌++◌, drop, map}
use Rattle.std.specs.List.{All}
use Rattle.core_code.specs.View.{space}
use Rattle.launch.specs.View.{conditions}
use Rattle.facts.specs.View.{three}
use Rattle.obligations.specs.Crossings as specs
use Rattle.two_thread.specs.Refusals.{IsInside}
use Rattle.two_thread.specs.View.{crossing, met_accesses}
use Rattle.two_thread.proofs.arrays.crossings_from.Given as goal

abbrev pub invariant-loop-number : goal.invariant-loop-number
invariant-loop-number g l = record {
  found : map (crossing (met_accesses l.pairing.met.now)) l.found.items ++ specs.crossings_from (three l.pairing.sizes) (conditions l.pairing.conditions.now) (λ _. l.fenced) (met_accesses l.pairing.met.now) (space l.space) l.number (drop l.number l.arrays) ≡ map (crossing (met_accesses l.pairing.met.now)) l.fn.found.items ++ specs.crossings_from (three l.pairing.sizes) (conditions l.pairing.conditions.now) (λ _. l.fenced) (met_accesses l.pairing.met.now) (space l.space) 0 l.arrays;
  inside : All (IsInside (length l.pairing.met.now.accesses.items)) l.fn.found.items → All (IsInside (length l.pairing.met.now.accesses.items)) l.found.items;
}
