use Rattle.std.proofs.Common.{drop}
use Rattle.rankings.specs.Limits.{AreFitting}
use Rattle.shown_kernels.proofs.ranked.reads_numbers.Given as goal

abbrev pub invariant-loop-bound : goal.invariant-loop-bound
invariant-loop-bound l = AreFitting (drop l.bound-index l.bounds) → AreFitting l.bounds
