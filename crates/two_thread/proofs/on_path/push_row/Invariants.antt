use Rattle.std.proofs.Common.{◌≡◌, ◌++◌, ◌-◌}
use Rattle.two_thread.specs.Places.{row}
use Rattle.two_thread.proofs.on_path.push_row.Given as goal

abbrev pub invariant-loop-item : goal.invariant-loop-item
invariant-loop-item l = l.found.items ++ row l.path l.item (l.count - l.item) ≡ l.fn.found.items ++ row l.path 0 l.count
