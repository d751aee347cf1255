use Rattle.std.proofs.Common.{◌≡◌, ℕ, map}
use Rattle.std.specs.Prelude.{replicate}
use Rattle.semantics.specs.Solo.{opening}
use Rattle.work_item.specs.View.{setup_of}
use Rattle.work_item.specs.Items.{item}
use Rattle.machine.proofs.world.open_items.Given as goal

abbrev pub invariant-loop-number : goal.invariant-loop-number
invariant-loop-number l = (i : ℕ) → map item l.all.items ≡ replicate l._number (opening (setup_of l.core l.launch) i)
