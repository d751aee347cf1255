use Rattle.std.proofs.Common.{◌≡◌, ◌++◌}
use Rattle.write_log.proofs.log.list_of.Given as goal

abbrev pub invariant-loop-at : goal.invariant-loop-at
invariant-loop-at l = l.list.items ++ l.at-iterator ≡ l.map.entries
