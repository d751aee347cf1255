use Rattle.std.proofs.Common.{◌≡◌, ℕ, cond, length}
use Rattle.semantics.specs.Item as items
use Rattle.machine.specs.Worlds.{items_in, is_among, past_barrier}
use Rattle.machine.proofs.release.pass_all.Given as goal

abbrev pub invariant-loop-passed : goal.invariant-loop-passed
invariant-loop-passed l =
    ((past : ℕ → items.Item) (i : ℕ) → items_in l.all.items past i ≡ cond (is_among l.first l.passed i) (past_barrier (items_in l.fn.all.items past i)) (items_in l.fn.all.items past i))
    × (length l.all.items ≡ length l.fn.all.items)
