-- The first of all barrier divergences of a world, by the numbers of the two items.
use Rattle.std.specs.Prelude.{◌≡◌, ◌<◌, ◌≤◌, ◌+◌, ◌⊎◌, ℕ, true}
use Rattle.semantics.specs.Setup.{Setup, item_count}
use Rattle.semantics.specs.Item.{Item}
use Rattle.semantics.specs.World.{World}
use Rattle.semantics.specs.Safety.{Divergent}
use Rattle.machine.specs.Worlds.{is_apart}

abbrev pub IsUndivided : Setup → World → Type 0
IsUndivided s w = (i j : ℕ) → i < item_count s → j < item_count s → Divergent s w i j → ⊥

-- the lowest item that waits so, then the lowest other one
abbrev pub IsBefore : (i j k l : ℕ) → Type 0
IsBefore i j k l = (i < k) ⊎ ((i ≡ k) × (j ≤ l))

pub record IsFirst (s : Setup) (w : World) (i j : ℕ) : Type 0 where
  pub item : i < item_count s
  pub other : j < item_count s
  pub divergent : Divergent s w i j
  pub lowest : (k l : ℕ) → k < item_count s → l < item_count s → Divergent s w k l → IsBefore i j k l

-- the same within a block of items
abbrev pub IsAmong : (first count i : ℕ) → Type 0
IsAmong first count i = (first ≤ i) × (i < first + count)

abbrev pub AreTogether : (ℕ → Item) → (first count : ℕ) → Type 0
AreTogether all first count = (k l : ℕ) → IsAmong first count k → IsAmong first count l → is_apart all k l ≡ true → ⊥

pub record AreFirst (all : ℕ → Item) (first count i j : ℕ) : Type 0 where
  pub item : IsAmong first count i
  pub other : IsAmong first count j
  pub apart : is_apart all i j ≡ true
  pub lowest : (k l : ℕ) → IsAmong first count k → IsAmong first count l → is_apart all k l ≡ true → IsBefore i j k l
