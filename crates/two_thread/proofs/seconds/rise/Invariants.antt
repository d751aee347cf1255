use Rattle.std.proofs.Common.{◌≡◌, drop}
use Rattle.linear.specs.Terms.{numbers}
use Rattle.two_thread.specs.Seconds.{rise, rise_from}
use Rattle.two_thread.proofs.seconds.rise.Given as goal

abbrev pub invariant-loop-symbol : goal.invariant-loop-symbol
invariant-loop-symbol l = rise_from l.last (numbers (drop l.symbol-index l.symbol-items)) ≡ rise (numbers l.symbols)
