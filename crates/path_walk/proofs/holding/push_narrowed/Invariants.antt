use Rattle.std.proofs.Common.{◌≡◌, ◌++◌, drop, map}
use Rattle.core_code.specs.View.{kernel}
use Rattle.path_steps.specs.View.{narrowed_seen}
use Rattle.obligations.specs.Roots.{kinds, narrowed_from}
use Rattle.facts.specs.Families.{symbol_in}
use Rattle.path_walk.proofs.holding.push_narrowed.Given as goal

abbrev pub invariant-loop-slot : goal.invariant-loop-slot
invariant-loop-slot g l = map narrowed_seen l.narrowed.items ++ narrowed_from g.D.Domain (symbol_in l.family) l.slot (drop l.slot (kinds (kernel l.core))) ≡ map narrowed_seen l.fn.narrowed.items ++ narrowed_from g.D.Domain (symbol_in l.family) 0 (kinds (kernel l.core))
