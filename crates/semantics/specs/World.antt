-- All work-items over one memory, what can happen next, and runs (OpenCL 1.2, 3.2 and 3.3; interleaving at single accesses is ours).
use Rattle.std.specs.Prelude.{ℕ, zero, suc, pos, List, [], ◌∷◌, ◌++◌, Bool, true, false, cond, ◌&&◌, Option, Some, None, nat_eq, nat_lt, bytes_eq}
use Rattle.semantics.specs.Setup.{Setup, group_of, group_size, group_count, item_count, member}
use Rattle.semantics.specs.Memory.{Memory, put, opening_memory}
use Rattle.semantics.specs.Item.{Item, Status, Running, Waiting, Ended, Stopped, trail}
use Rattle.semantics.specs.Ask.{Ask, Loads, Stores, Goes, Waits, Rests, ask}
use Rattle.semantics.specs.Solo.{opening, Access, touch, moved}

-- memory, the items by their numbers, and the accesses so far, the oldest first
pub record World : Type 0 where
  pub memory : Memory
  pub items : ℕ → Item
  pub history : List Access

-- one step of an item, or the release of a group that waits at a barrier
pub data Event : Type 0 where
  Step : (item : ℕ) → Event
  Release : (group : ℕ) → Event

unfoldable pub opening_world : Setup → World
opening_world s = record { memory = opening_memory s; items = opening s; history = [] }

unfoldable pub put_item : ℕ → Item → (ℕ → Item) → ℕ → Item
put_item i it items j = cond (nat_eq j i) it (items j)

abbrev pub noted : Option Access → List Access → List Access
noted None history = history
noted (Some a) history = history ++ a ∷ []

-- a load is answered by memory, a store changes it
abbrev pub stepped : World → ℕ → Ask → Option World
stepped w i (Loads at kind site) =
    Some (record { memory = w.memory; items = put_item i (moved (w.items i) (Loads at kind site) (w.memory at)) w.items; history = noted (touch i (w.items i) (Loads at kind site)) w.history })
stepped w i (Stores at site value next) =
    Some (record { memory = put at value w.memory; items = put_item i next w.items; history = noted (touch i (w.items i) (Stores at site value next)) w.history })
stepped w i (Goes next) = Some (record { memory = w.memory; items = put_item i next w.items; history = w.history })
stepped w i (Waits next) = None
stepped w i Rests = None

abbrev pub waits : Status → Bool
waits Running = false
waits Waiting = true
waits Ended = false
waits (Stopped f site) = false

abbrev pub every : ℕ → (ℕ → Bool) → Bool
every zero test = true
every (suc n) test = test n && every n test

-- all items of the group wait, with equal lists left: at one barrier, in the same iterations (OpenCL 1.2, 6.12.8)
unfoldable pub may_go : Setup → (ℕ → Item) → ℕ → Bool
may_go s items g = every (group_size s) (λ k.
    waits (items (member s g k)).status && bytes_eq (trail (items (member s g k)).left) (trail (items (member s g 0)).left))

-- an item past its barrier
abbrev pub past : Setup → ℕ → Item → Item
past s i it = moved it (ask s i it) (pos 0)

unfoldable pub released : Setup → ℕ → World → World
released s g w = record { memory = w.memory; items = λ i. cond (nat_eq (group_of s i) g) (past s i (w.items i)) (w.items i); history = w.history }

abbrev pub guarded : Bool → Option World → Option World
guarded true w = w
guarded false w = None

-- the world after an event, where the event is possible
unfoldable pub happens : Setup → World → Event → Option World
happens s w (Step i) = guarded (nat_lt i (item_count s)) (stepped w i (ask s i (w.items i)))
happens s w (Release g) = guarded (nat_lt g (group_count s) && may_go s w.items g) (Some (released s g w))

abbrev pub then_run : Option World → (World → Option World) → Option World
then_run None go = None
then_run (Some w) go = go w

-- the world after a list of events, each possible where it stands
abbrev pub run : Setup → List Event → World → Option World
run s [] w = Some w
run s (e ∷ es) w = then_run (happens s w e) (run s es)
