-- The tests that decide data races and barrier divergence.
use Rattle.std.specs.Prelude.{ℕ, Bool, not, ◌&&◌, ◌||◌, nat_eq, bytes_eq}
use Rattle.semantics.specs.Setup.{Setup, group_of}
use Rattle.semantics.specs.Memory.{same_cell}
use Rattle.semantics.specs.Item.{has_ended, trail}
use Rattle.semantics.specs.Solo.{Access}
use Rattle.semantics.specs.World.{World, waits}

abbrev pub clashes : Setup → Access → Access → Bool
clashes s a b =
    not (nat_eq a.item b.item) && same_cell a.at b.at && (a.is_store || b.is_store)
    && (not (nat_eq (group_of s a.item) (group_of s b.item)) || nat_eq a.epoch b.epoch)

abbrev pub diverges : Setup → World → ℕ → ℕ → Bool
diverges s w i j =
    nat_eq (group_of s i) (group_of s j) && waits (w.items i).status
    && (has_ended (w.items j).status || (waits (w.items j).status && not (bytes_eq (trail (w.items i).left) (trail (w.items j).left))))
