use Rattle.std.proofs.Common.{◌≡◌, drop}
use Rattle.texts.specs.Limits as limits
use Rattle.syntax.specs.View.{statements}
use Rattle.parser.specs.Counted.{counts}
use Rattle.parser.proofs.counts.+counts.Given as goal

abbrev pub invariant-count_statements-loop-s : goal.invariant-count_statements-loop-s
invariant-count_statements-loop-s l = limits.count_statements (counts l.counted) (statements (drop l.s-index l.body)) ≡ limits.count_statements (counts l.fn.so_far) (statements l.body)
