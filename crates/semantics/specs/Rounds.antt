-- The result of a launch (synchronous, delayed visibility): each group in rounds from barrier to barrier, where an item
-- sees the round's opening memory with its own stores alone.
use Rattle.std.specs.Prelude.{ℕ, zero, suc, ◌+◌, ℤ, List, [], ◌∷◌, ◌++◌, ◌<◌, ◌≡◌, Bool, true, false, ◌&&◌, ◌||◌, Option, Some, None, cond}
use Rattle.semantics.specs.Setup.{Setup, group_size, group_count, member}
use Rattle.semantics.specs.Memory.{Cell, Memory, put, opening_memory, same_cell}
use Rattle.semantics.specs.Item.{Item, has_ended}
use Rattle.semantics.specs.Ask.{Ask, Loads, Stores, Goes, Waits, Rests, ask}
use Rattle.semantics.specs.Solo.{opening, moved}
use Rattle.semantics.specs.World.{past, may_go, every}

-- an item, and its stores in order
pub record Part : Type 0 where
  pub item : Item
  pub stores : List (Cell × ℤ)

abbrev pub applied : List (Cell × ℤ) → Memory → Memory
applied [] m = m
applied (x ∷ xs) m = applied xs (put x.0 x.1 m)

abbrev pub noting : Cell → ℤ → Part → Part
noting c v p = record { item = p.item; stores = (c, v) ∷ p.stores }

-- one item alone over a memory, up to its next arrival or its end, for so many steps at most
abbrev pub alone_by : (Item → Memory → Part) → Item → Memory → Ask → Part
alone_by go it m (Loads at kind site) = go (moved it (Loads at kind site) (m at)) m
alone_by go it m (Stores at site value next) = noting at value (go next (put at value m))
alone_by go it m (Goes next) = go next m
alone_by go it m (Waits next) = record { item = it; stores = [] }
alone_by go it m Rests = record { item = it; stores = [] }

abbrev pub alone : Setup → ℕ → ℕ → Item → Memory → Part
alone s i zero it m = record { item = it; stores = [] }
alone s i (suc fuel) it m = alone_by (alone s i fuel) it m (ask s i it)

-- the stores of a round, by the first n items of the group in order
abbrev pub round_stores : Setup → ℕ → ℕ → (ℕ → Item) → Memory → ℕ → List (Cell × ℤ)
round_stores s g fuel items m zero = []
round_stores s g fuel items m (suc n) = round_stores s g fuel items m n ++ (alone s (member s g n) fuel (items (member s g n)) m).stores

abbrev pub after_round : Setup → ℕ → (ℕ → Item) → Memory → ℕ → Item
after_round s fuel items m i = (alone s i fuel (items i) m).item

abbrev pub next_round : Bool → List (Cell × ℤ) → List (Cell × ℤ)
next_round true later = later
next_round false later = []

-- all stores of a group, round by round; a further round begins where all its items wait at one barrier
abbrev pub rounds : Setup → ℕ → ℕ → ℕ → (ℕ → Item) → Memory → List (Cell × ℤ)
rounds s g fuel zero items m = []
rounds s g fuel (suc n) items m =
    round_stores s g fuel items m (group_size s) ++ next_round (may_go s (after_round s fuel items m) g)
    (rounds s g fuel n (λ i. past s i (after_round s fuel items m i)) (applied (round_stores s g fuel items m (group_size s)) m))

-- every group starts from the launch's memory
abbrev pub group_stores : Setup → ℕ → ℕ → List (Cell × ℤ)
group_stores s bound g = rounds s g (bound + 1) (bound + 1) (opening s) (opening_memory s)

-- the rounds of a group come to an end: in each its items all arrive with equal lists left, or all end
abbrev pub rounds_end : Setup → ℕ → ℕ → ℕ → (ℕ → Item) → Memory → Bool
rounds_end s g fuel zero items m = false
rounds_end s g fuel (suc n) items m =
    every (group_size s) (λ k. has_ended (after_round s fuel items m (member s g k)).status)
    || (may_go s (after_round s fuel items m) g && rounds_end s g fuel n (λ i. past s i (after_round s fuel items m i)) (applied (round_stores s g fuel items m (group_size s)) m))

-- the result is defined within a budget where the rounds of each group come to an end
abbrev pub IsDefined : Setup → ℕ → Type 0
IsDefined s bound = (g : ℕ) → g < group_count s → rounds_end s g (bound + 1) (bound + 1) (opening s) (opening_memory s) ≡ true

-- a log: the last number stored to an element, if any was; else what came before
abbrev pub log_of : List (Cell × ℤ) → Cell → Option ℤ → Option ℤ
log_of [] c before = before
log_of (x ∷ xs) c before = log_of xs c (cond (same_cell c x.0) (Some x.1) before)

abbrev pub logged : Option ℤ → ℤ → ℤ
logged None before = before
logged (Some z) before = z

-- a group's log has the last number that it stored to each element of a buffer
abbrev pub group_log : Setup → ℕ → ℕ → (array index : ℕ) → Option ℤ
group_log s bound g array index = log_of (group_stores s bound g) (record { owner = 0; array = array; index = index }) None

-- the launch's memory with the stores of the first n groups in order
abbrev pub result_of : Setup → ℕ → ℕ → Memory
result_of s bound zero = opening_memory s
result_of s bound (suc n) = applied (group_stores s bound n) (result_of s bound n)

abbrev pub result_by_rounds : Setup → ℕ → Memory
result_by_rounds s bound = result_of s bound (group_count s)
