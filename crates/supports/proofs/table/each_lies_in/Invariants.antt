use Rattle.std.proofs.Common.{◌≡◌, drop}
use Rattle.supports.specs.Sets.{members, each_in}
use Rattle.supports.specs.View.{obligations}
use Rattle.supports.proofs.table.each_lies_in.Given as goal

abbrev pub invariant-loop-lists : goal.invariant-loop-lists
invariant-loop-lists l = each_in (members l.fn.set.words) (obligations (drop l.lists-index l.obligations)) ≡ each_in (members l.fn.set.words) (obligations l.obligations)
