use Rattle.std.proofs.Common.{◌≡◌, drop}
use Rattle.supports.specs.Sets.{members, all, any}
use Rattle.supports.specs.View.{sets}
use Rattle.supports.proofs.table.one_lies_in.Given as goal

abbrev pub invariant-loop-list : goal.invariant-loop-list
invariant-loop-list l = any (all (members l.fn.set.words)) (sets (drop l.list-index l.lists)) ≡ any (all (members l.fn.set.words)) (sets l.lists)
