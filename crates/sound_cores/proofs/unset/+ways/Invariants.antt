use Rattle.std.proofs.Common.{◌≡◌, drop}
use Rattle.core_code.specs.View.{statements}
use Rattle.sound_cores.specs.Unset.{follows, all_ways}
use Rattle.sound_cores.specs.View.{ways}
use Rattle.sound_cores.proofs.unset.+ways.Given as goal

abbrev pub invariant-all_ways-loop-statement : goal.invariant-all_ways-loop-statement
invariant-all_ways-loop-statement l = follows (ways l.so_far) (all_ways l.slot l.so_far.after (statements (drop l.statement-index l.statements))) ≡ all_ways l.slot l.set (statements l.statements)
