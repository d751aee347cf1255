use Rattle.std.proofs.Common.{◌≡◌, drop}
use Rattle.obligations.specs.Fitting.{crossings_fit}
use Rattle.two_thread.specs.Listed.{found_crossings}
use Rattle.two_thread.proofs.numbered.Obligations.try_crossings.Given as goal

abbrev pub invariant-loop-i : goal.invariant-loop-i
invariant-loop-i g l = crossings_fit (drop l.i (found_crossings l.self.met l.self.crossings.items)) ≡ crossings_fit (found_crossings l.self.met l.self.crossings.items)
