use Rattle.std.proofs.Common.{◌≡◌, ◌++◌, drop}
use Rattle.linear.specs.Forms.{forms}
use Rattle.core_code.specs.View.{kernel}
use Rattle.obligations.specs.Roots.{all_ends}
use Rattle.facts.specs.Families.{symbol_in}
use Rattle.path_walk.proofs.ends.push_all_ends.Given as goal

abbrev pub invariant-loop-slot : goal.invariant-loop-slot
invariant-loop-slot l = forms l.into.items ++ all_ends (kernel l.core) (symbol_in l.family) (drop l.slot-index l.slots) ≡ forms l.fn.into.items ++ all_ends (kernel l.core) (symbol_in l.family) l.slots
