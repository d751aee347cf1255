-- What is known of an element, against the accesses of it in a history. A group has `n` items.
use Rattle.std.specs.Prelude.{◌≡◌, ◌≢◌, ◌≤◌, ◌/◌, ◌||◌, ℕ, List, true, Option, Some, None}
use Rattle.std.specs.List.{Contains}
use Rattle.semantics.specs.Memory.{Cell}
use Rattle.semantics.specs.Solo.{Access}
use Rattle.clashes.specs.Marks.{are_unordered, loads_meet, store_meets}
use Rattle.clashes.specs.declared.mark.Mark.{Mark}
use Rattle.clashes.specs.declared.seen.Loads.{Loads}
use Rattle.clashes.specs.declared.seen.Loads.TheVariants.{Nobody, OneItem, OneGroup, Groups}
use Rattle.clashes.specs.declared.seen.Seen.{Seen}

abbrev pub mark : Access → Mark
mark a = record { item = a.item; epoch = a.epoch }

-- epochs of one group never fall
abbrev pub InOrder : ℕ → Mark → Mark → Type 0
InOrder n a b = a.item / n ≡ b.item / n → a.epoch ≤ b.epoch

-- an access of the element comes after those of a history
abbrev pub IsLater : ℕ → List Access → Cell → Mark → Type 0
IsLater n history c m = (a : Access) → Contains history a → a.at ≡ c → InOrder n (mark a) m

-- a history has an access of the element so
abbrev pub Has : List Access → Cell → Mark → Type 0
Has history c m = (a : Access) × Contains history a × (a.at ≡ c) × (mark a ≡ m)

abbrev pub HasStore : List Access → Cell → Option Mark → Type 0
HasStore history c None = Unit {0}
HasStore history c (Some m) = (a : Access) × Contains history a × (a.at ≡ c) × (a.is_store ≡ true) × (mark a ≡ m)

-- two items of one group, in one epoch
pub record InGroup (n : ℕ) (history : List Access) (c : Cell) (g e : ℕ) : Type 0 where
  pub one : Mark
  pub other : Mark
  pub has_one : Has history c one
  pub has_other : Has history c other
  pub items : one.item ≢ other.item
  pub group_one : one.item / n ≡ g
  pub group_other : other.item / n ≡ g
  pub epoch_one : one.epoch ≡ e
  pub epoch_other : other.epoch ≡ e

-- items of two groups
pub record InGroups (n : ℕ) (history : List Access) (c : Cell) : Type 0 where
  pub one : Mark
  pub other : Mark
  pub has_one : Has history c one
  pub has_other : Has history c other
  pub groups : one.item / n ≢ other.item / n

abbrev pub HasLoads : ℕ → List Access → Cell → Loads → Type 0
HasLoads n history c Nobody = Unit {0}
HasLoads n history c (OneItem m) = Has history c m
HasLoads n history c (OneGroup g e) = InGroup n history c g e
HasLoads n history c Groups = InGroups n history c

-- of a history without a clash: what is known is of its accesses, and a later access that clashes with one of them clashes with what is
-- known
pub record Knows (n : ℕ) (history : List Access) (c : Cell) (seen : Seen) : Type 0 where
  pub store : HasStore history c seen.store
  pub loads : HasLoads n history c seen.loads
  pub stores_met : (m : Mark) → IsLater n history c m → (a : Access) → Contains history a → a.at ≡ c → a.is_store ≡ true → are_unordered n (mark a) m ≡ true → store_meets n seen.store m ≡ true
  pub all_met : (m : Mark) → IsLater n history c m → (a : Access) → Contains history a → a.at ≡ c → are_unordered n (mark a) m ≡ true → (store_meets n seen.store m || loads_meet n seen.loads m) ≡ true
