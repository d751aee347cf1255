-- Data races, barrier divergence, worlds that are safe within a budget, and the condition on two work-items.
use Rattle.std.specs.Prelude.{ℕ, ◌<◌, ◌≤◌, ◌≡◌, ◌≢◌, ◌⊎◌, ℤ, List, true}
use Rattle.std.specs.List.{Contains}
use Rattle.semantics.specs.Core.{Site}
use Rattle.semantics.specs.Word.{Fault}
use Rattle.semantics.specs.Setup.{Setup, group_of, item_count}
use Rattle.semantics.specs.Item.{Waiting, Ended, Stopped, trail}
use Rattle.semantics.specs.Solo.{Access, after, Touched, passed, arrived}
use Rattle.semantics.specs.Ask.{ask}
use Rattle.semantics.specs.Conditions.{Content}
use Rattle.semantics.specs.Contents.{IsHonest, StoresKept}
use Rattle.semantics.specs.World.{World}

-- a data race: two accesses of different items to one element, one of them a store, that no barrier orders; a barrier
-- orders within one group alone, and only the space of its flags (OpenCL 1.2, 3.3.1 and 6.12.8). Stores of equal values
-- race too (ours)
pub record Clash (s : Setup) (a b : Access) : Type 0 where
  pub items : a.item ≢ b.item
  pub element : a.at ≡ b.at
  pub stored : (a.is_store ≡ true) ⊎ (b.is_store ≡ true)
  pub unordered : (group_of s a.item ≢ group_of s b.item) ⊎ (a.epoch ≡ b.epoch)

-- barrier divergence: an item waits where another of its group has ended, or waits with another list left
-- (OpenCL 1.2, 6.12.8)
pub record Divergent (s : Setup) (w : World) (i j : ℕ) : Type 0 where
  pub group : group_of s i ≡ group_of s j
  pub waits : (w.items i).status ≡ Waiting
  pub apart : ((w.items j).status ≡ Ended) ⊎ (((w.items j).status ≡ Waiting) × (trail (w.items i).left ≢ trail (w.items j).left))

-- a world in which nothing has gone wrong so far; of a run, each world on it is one of a shorter run
pub record IsSafe (s : Setup) (bound : ℕ) (w : World) : Type 0 where
  pub no_fault : (i : ℕ) (f : Fault) (site : Site) → i < item_count s → (w.items i).status ≢ Stopped f site
  pub no_data_race : (a b : Access) → Contains w.history a → Contains w.history b → Clash s a b → ⊥
  pub no_barrier_divergence : (i j : ℕ) → i < item_count s → j < item_count s → Divergent s w i j → ⊥
  pub within_budget : (i : ℕ) → i < item_count s → (w.items i).steps ≤ bound

-- where both wait, each having passed equally many barriers, their lists left are equal: so their k-th arrivals are
abbrev pub WaitAlike : Setup → ℕ → ℕ → Type 0
WaitAlike s i j = (ws vs : List ℤ) → (after s i ws).status ≡ Waiting → (after s j vs).status ≡ Waiting → passed s i ws ≡ passed s j vs → trail (after s i ws).left ≡ trail (after s j vs).left

-- where the first has ended, the second has arrived at most as often
abbrev pub EndsLast : Setup → ℕ → ℕ → Type 0
EndsLast s i j = (ws vs : List ℤ) → (after s i ws).status ≡ Ended → arrived s j vs ≤ arrived s i ws

-- the two-thread reduction (GPUVerify): what one item alone, and any two distinct items, keep in all their solo runs
pub record IsPairSafe (s : Setup) (bound : ℕ) : Type 0 where
  pub quiet : (i : ℕ) (ws : List ℤ) (f : Fault) (site : Site) → i < item_count s → (after s i ws).status ≢ Stopped f site
  pub short : (i : ℕ) (ws : List ℤ) → i < item_count s → (after s i ws).steps ≤ bound
  pub apart : (i j : ℕ) (ws vs : List ℤ) (a b : Access) → i < item_count s → j < item_count s → i ≢ j → Touched s i ws a → Touched s j vs b → Clash s a b → ⊥
  pub agree : (i j : ℕ) → i < item_count s → j < item_count s → i ≢ j → group_of s i ≡ group_of s j → WaitAlike s i j
  pub ends : (i j : ℕ) → i < item_count s → j < item_count s → i ≢ j → group_of s i ≡ group_of s j → EndsLast s i j

-- the same of the solo runs whose loads are answered by what the lines let buffers hold
abbrev pub WaitAlikeWithin : List Content → Setup → ℕ → ℕ → Type 0
WaitAlikeWithin cs s i j = (ws vs : List ℤ) → IsHonest s cs i ws → IsHonest s cs j vs → (after s i ws).status ≡ Waiting → (after s j vs).status ≡ Waiting → passed s i ws ≡ passed s j vs → trail (after s i ws).left ≡ trail (after s j vs).left

abbrev pub EndsLastWithin : List Content → Setup → ℕ → ℕ → Type 0
EndsLastWithin cs s i j = (ws vs : List ℤ) → IsHonest s cs i ws → IsHonest s cs j vs → (after s i ws).status ≡ Ended → arrived s j vs ≤ arrived s i ws

-- and each store keeps it. Without lines that is `IsPairSafe`
pub record IsPairSafeWithin (cs : List Content) (s : Setup) (bound : ℕ) : Type 0 where
  pub quiet : (i : ℕ) (ws : List ℤ) (f : Fault) (site : Site) → i < item_count s → IsHonest s cs i ws → (after s i ws).status ≢ Stopped f site
  pub short : (i : ℕ) (ws : List ℤ) → i < item_count s → IsHonest s cs i ws → (after s i ws).steps ≤ bound
  pub apart : (i j : ℕ) (ws vs : List ℤ) (a b : Access) → i < item_count s → j < item_count s → i ≢ j → IsHonest s cs i ws → IsHonest s cs j vs → Touched s i ws a → Touched s j vs b → Clash s a b → ⊥
  pub agree : (i j : ℕ) → i < item_count s → j < item_count s → i ≢ j → group_of s i ≡ group_of s j → WaitAlikeWithin cs s i j
  pub ends : (i j : ℕ) → i < item_count s → j < item_count s → i ≢ j → group_of s i ≡ group_of s j → EndsLastWithin cs s i j
  pub keeps : (i : ℕ) (ws : List ℤ) → i < item_count s → IsHonest s cs i ws → StoresKept s cs (ask s i (after s i ws))
