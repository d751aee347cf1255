-- The code's world as the definitions' one, and what an event answers.
use Rattle.std.specs.Prelude.{◌≡◌, ◌<◌, ◌≤◌, ◌+◌, ◌&&◌, ◌||◌, not, nat_le, nat_lt, bytes_eq, ℕ, ℤ, pos, List, true, false, Bool, length, map, slice_index_or, Some, None}
use Rattle.std.specs.List.{Contains}
use Rattle.semantics.specs.Word as word
use Rattle.semantics.specs.Core as core
use Rattle.semantics.specs.Launch.{Fits}
use Rattle.semantics.specs.Setup.{Setup, group_of, item_count}
use Rattle.semantics.specs.Memory as memories
use Rattle.semantics.specs.Item as items
use Rattle.semantics.specs.Ask.{Ask, Loads, Stores, Goes, Waits, Rests, passes}
use Rattle.semantics.specs.Solo as solo
use Rattle.semantics.specs.World as meaning
use Rattle.words.specs.View.{fault}
use Rattle.core_code.specs.View.{kernel, site}
use Rattle.launch.specs.View.{launch}
use Rattle.work_item.specs.Proper.{is_proper, is_proper_left}
use Rattle.work_item.specs.View.{setup_of}
use Rattle.work_item.specs.Items.{item}
use Rattle.work_item.specs.Asks.{cell}
use Rattle.work_item.specs.declared.item.Item.{Item}
use Rattle.work_item.specs.declared.ask.Ask as asks
use Rattle.work_item.specs.declared.ask.Ask.TheVariants as variants
use Rattle.clashes.specs.Watched.{accesses, IsWatched}
use Rattle.machine.specs.Memories.{memory, HasShape, Inside}
use Rattle.machine.specs.declared.memory.Memory.{Memory}
use Rattle.machine.specs.declared.world.World.{World}
use Rattle.machine.specs.declared.world.Event.{Event}
use Rattle.machine.specs.declared.world.Event.TheVariants as events
use Rattle.machine.specs.declared.world.Applied.{Applied}
use Rattle.machine.specs.declared.world.Applied.TheVariants as answers

abbrev pub setup : World → Setup
setup w = setup_of w.core.now w.launch.now

-- items that a launch does not have stand as they begin
abbrev pub items_in : List Item → (ℕ → items.Item) → ℕ → items.Item
items_in xs past i = slice_index_or (map item xs) i (past i)

abbrev pub items_of : World → ℕ → items.Item
items_of w = items_in w.items.items (solo.opening (setup w))

abbrev pub world : World → meaning.World
world w = record { memory = memory w.memory; items = items_of w; history = accesses w.history }

abbrev pub event : Event → meaning.Event
event (events.Step i) = meaning.Step i
event (events.Release g) = meaning.Release g

abbrev pub AreLevel : items.Item → items.Item → Type 0
AreLevel a b = (a.local_epoch ≡ b.local_epoch) × (a.global_epoch ≡ b.global_epoch)

-- items of one group stand at equal epochs, and no access is of a later one than those of its group
pub record KeepsEpochs (s : Setup) (w : meaning.World) : Type 0 where
  pub level : (i j : ℕ) → i < item_count s → j < item_count s → group_of s i ≡ group_of s j → AreLevel (w.items i) (w.items j)
  pub noted : (a : solo.Access) → Contains w.history a → (j : ℕ) → j < item_count s → group_of s a.item ≡ group_of s j → a.epoch ≤ solo.epoch (w.items j) a.at.owner

-- what holds of each world that was opened
pub record IsSound (w : World) : Type 0 where
  pub proper : is_proper (kernel w.core.now) ≡ true
  pub fits : Fits (kernel w.core.now) (launch w.launch.now)
  pub count : length w.items.items ≡ item_count (setup w)
  pub left : (i : ℕ) → is_proper_left (items_of w i).left ≡ true
  pub shape : HasShape (setup w) w.memory
  pub epochs : KeepsEpochs (setup w) (world w)
  pub watched : IsWatched (setup w) w.history

-- memory after a step of an item that asks so
abbrev pub remembered : Ask → memories.Memory → memories.Memory
remembered (Loads at k s) m = m
remembered (Stores at s z next) m = memories.put at z m
remembered (Goes next) m = m
remembered (Waits next) m = m
remembered Rests m = m

-- the number that memory answers
abbrev pub answered : Ask → memories.Memory → ℤ
answered (Loads at k s) m = m at
answered (Stores at s z next) m = pos 0
answered (Goes next) m = pos 0
answered (Waits next) m = pos 0
answered Rests m = pos 0

-- the world after a step of an item that asks so
abbrev pub stepped : meaning.World → ℕ → Ask → meaning.World
stepped w i a = record {
  memory = remembered a w.memory;
  items = meaning.put_item i (solo.moved (w.items i) a (answered a w.memory)) w.items;
  history = meaning.noted (solo.touch i (w.items i) a) w.history;
}

-- an item waits, with what is left of another
abbrev pub is_alike : (ℕ → items.Item) → ℕ → ℕ → Bool
is_alike all i j = meaning.waits (all i).status && bytes_eq (items.trail (all i).left) (items.trail (all j).left)

-- an item waits where another has ended, or waits with another list left
abbrev pub is_apart : (ℕ → items.Item) → ℕ → ℕ → Bool
is_apart all i j = meaning.waits (all i).status && (items.has_ended (all j).status || (meaning.waits (all j).status && not (bytes_eq (items.trail (all i).left) (items.trail (all j).left))))

-- an item past the barrier in front
abbrev pub past_barrier : items.Item → items.Item
past_barrier it = solo.moved it (passes it it.left) (pos 0)

-- from one number on, so many
abbrev pub is_among : (first count i : ℕ) → Bool
is_among first count i = nat_le first i && nat_lt i (first + count)

-- what is stored lies in an array
abbrev pub StoresInside : Memory → asks.Ask → Type 0
StoresInside m (variants.Loads at k s) = Unit {0}
StoresInside m (variants.Stores at s w) = Inside m (cell at)
StoresInside m (variants.Faults f s) = Unit {0}
StoresInside m (variants.Sets slot w) = Unit {0}
StoresInside m (variants.Takes block) = Unit {0}
StoresInside m (variants.Repeats body update) = Unit {0}
StoresInside m variants.PassesBy = Unit {0}
StoresInside m variants.Arrives = Unit {0}
StoresInside m variants.Ends = Unit {0}
StoresInside m (variants.Leaves n) = Unit {0}
StoresInside m (variants.Resumes n) = Unit {0}
StoresInside m variants.Waits = Unit {0}
StoresInside m variants.Rests = Unit {0}

-- a step may follow
abbrev pub is_move : asks.Ask → Bool
is_move (variants.Loads at k s) = true
is_move (variants.Stores at s w) = true
is_move (variants.Faults f s) = true
is_move (variants.Sets slot w) = true
is_move (variants.Takes block) = true
is_move (variants.Repeats body update) = true
is_move variants.PassesBy = true
is_move variants.Arrives = true
is_move variants.Ends = true
is_move (variants.Leaves n) = true
is_move (variants.Resumes n) = true
is_move variants.Waits = false
is_move variants.Rests = false

-- what a step tells
abbrev pub told : asks.Ask → Applied
told (variants.Loads at k s) = answers.Done
told (variants.Stores at s w) = answers.Done
told (variants.Faults f s) = answers.Faulted f s
told (variants.Sets slot w) = answers.Done
told (variants.Takes block) = answers.Done
told (variants.Repeats body update) = answers.Done
told variants.PassesBy = answers.Done
told variants.Arrives = answers.Done
told variants.Ends = answers.Done
told (variants.Leaves n) = answers.Done
told (variants.Resumes n) = answers.Done
told variants.Waits = answers.Done
told variants.Rests = answers.Done

-- the event stops its item by a fault
abbrev pub Stops : meaning.Event → meaning.World → word.Fault → core.Site → Type 0
Stops (meaning.Step i) w f s = (w.items i).status ≡ items.Stopped f s
Stops (meaning.Release g) w f s = ⊥

-- what an event answers, of the world before it and the world after it: done, with no fault; not possible; or a fault of the item
abbrev pub Answers : Setup → meaning.Event → (old new : meaning.World) → Applied → Type 0
Answers s e old new answers.Done = (meaning.happens s old e ≡ Some new) × ((f : word.Fault) (at : core.Site) → Stops e new f at → ⊥)
Answers s e old new answers.NotPossible = (meaning.happens s old e ≡ None) × (new ≡ old)
Answers s e old new (answers.Faulted f at) = (meaning.happens s old e ≡ Some new) × Stops e new (fault f) (site at)
