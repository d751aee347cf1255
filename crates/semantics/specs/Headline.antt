-- The headline: what a kernel has at a launch, over every interleaving of its work-items.
use Rattle.std.specs.Prelude.{ℕ, ◌*◌, ◌<◌, ◌≤◌, ◌≡◌, List, length, Some, None}
use Rattle.semantics.specs.Setup.{Setup, item_count}
use Rattle.semantics.specs.Item.{Ended}
use Rattle.semantics.specs.World.{World, Event, opening_world, happens, run}
use Rattle.semantics.specs.Rounds.{result_by_rounds}
use Rattle.semantics.specs.Safety.{IsSafe}

-- no event is possible
abbrev pub IsOver : Setup → World → Type 0
IsOver s w = (e : Event) → happens s w e ≡ None

-- of a run with these events that leads to this world: nothing has gone wrong in it; it is bounded; it can be carried on to
-- one that is over; and if it is over, all items have ended, and memory is the result by rounds
pub record HoldsOfRun (s : Setup) (bound : ℕ) (es : List Event) (w : World) : Type 0 where
  pub is_safe : IsSafe s bound w
  pub is_bounded : length es ≤ 2 * bound * item_count s
  pub can_go_on : (more : List Event) × (v : World) × (run s more w ≡ Some v) × IsOver s v
  pub all_ended : IsOver s w → (i : ℕ) → i < item_count s → (w.items i).status ≡ Ended
  pub ends_with_the_result : IsOver s w → w.memory ≡ result_by_rounds s bound

-- that holds of every run from the launch's opening world
abbrev pub Headline : Setup → ℕ → Type 0
Headline s bound = (es : List Event) (w : World) → run s es (opening_world s) ≡ Some w → HoldsOfRun s bound es w
