use Rattle.std.proofs.Common.{◌≡◌, drop}
use Rattle.texts.specs.Limits as limits
use Rattle.parser.specs.Counted.{counts, parameters}
use Rattle.parser.proofs.counts.count_parameters.Given as goal

abbrev pub invariant-loop-p : goal.invariant-loop-p
invariant-loop-p l = limits.count_parameters (counts l.counted) (parameters (drop l.p-index l.list)) ≡ limits.count_parameters (counts l.fn.so_far) (parameters l.list)
