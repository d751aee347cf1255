use Rattle.std.proofs.Common.{◌≡◌, drop}
use Rattle.syntax.specs.View.{statements}
use Rattle.kernel_names.specs.NameMap.{with_all}
use Rattle.kernel_names.specs.View.{names_seen}
use Rattle.kernel_names.proofs.gathering.+gathering.Given as goal

abbrev pub invariant-with_all-loop-statement : goal.invariant-with_all-loop-statement
invariant-with_all-loop-statement l = with_all (statements (drop l.statement-index l.body)) l.last (names_seen l.map) ≡ with_all (statements l.body) l.last (names_seen l.initial.map)
