use Rattle.std.proofs.Common.{◌≡◌, drop}
use Rattle.syntax.specs.View.{statements}
use Rattle.kernel_names.specs.NameMap.{last_among}
use Rattle.kernel_names.proofs.numbers.+numbers.Given as goal

abbrev pub invariant-last_among-loop-statement : goal.invariant-last_among-loop-statement
invariant-last_among-loop-statement l = last_among (statements (drop l.statement-index l.body)) l.last ≡ last_among (statements l.body) l.fn.before
