use Rattle.std.proofs.Common.{◌<◌, ◌≤◌, ◌+◌, ℕ}
use Rattle.semantics.specs.Item as items
use Rattle.work_item.specs.Items.{HasEpochs}
use Rattle.machine.specs.Worlds.{items_in}
use Rattle.machine.proofs.world.World.have_epochs.Given as goal

abbrev pub invariant-loop-k : goal.invariant-loop-k
invariant-loop-k l = (past : ℕ → items.Item) (i : ℕ) → l.first ≤ i → i < l.first + l.k → HasEpochs (items_in l.self.items.items past i)
