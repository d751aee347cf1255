-- What a world of the definitions shows that is wrong: a fault, a data race or barrier divergence, of which work-items and at which sites
-- of the source.
use Rattle.std.specs.Prelude.{◌≡◌, ◌<◌, ◌++◌, ◌∷◌, [], ℕ, List, Bool, true, false, cond, Option, Some, None}
use Rattle.semantics.specs.Core as core
use Rattle.semantics.specs.Core.{number}
use Rattle.semantics.specs.Word.{Fault, Overflow}
use Rattle.semantics.specs.Setup.{Setup, group_id, local_id, item_count}
use Rattle.semantics.specs.Item.{Entry, Item, Stopped}
use Rattle.semantics.specs.Solo.{Access}
use Rattle.semantics.specs.Safety.{Clash, Divergent}
use Rattle.semantics.specs.World.{World, waits}
use Rattle.kernel_names.specs.NameMap.{NameMap, site_at}
use Rattle.findings.specs.Sizes.{is_of_size}
use Rattle.findings.specs.Findings.{FindingKind, Race, Divergence, Faults, Sizes, Bound, Values, Spot, Store, Load, Barrier, End, At, WorkItem}

-- the item of a number, with its ids (OpenCL 1.2, 3.2 and 6.12.1)
abbrev pub item_of : Setup → ℕ → WorkItem
item_of s i = record {
  number = i;
  group = record { x = group_id s i 0; y = group_id s i 1; z = group_id s i 2 };
  local = record { x = local_id s i 0; y = local_id s i 1; z = local_id s i 2 };
}

-- an access, by its array's name in the source
abbrev pub access_spot : Access → Spot
access_spot a = cond a.is_store (Store a.site) (Load a.site)

abbrev pub front_number : List Entry → Option ℕ
front_number [] = None
front_number (e ∷ rest) = Some (number e.statement)

-- of an item that waits the barrier in front of it, by where that statement begins in the source; of one that has ended its end
abbrev pub standing_spot : NameMap → Item → Spot
standing_spot k it = cond (waits it.status) (Barrier (site_at k (front_number it.left))) End

-- an item was stopped by the fault, of a size or not, and the site is that of the fault
pub record HasFault (s : Setup) (w : World) (f : Fault) (of_size : Bool) (sites : List Spot) (items : List WorkItem) : Type 0 where
  pub item : ℕ
  pub site : core.Site
  pub among : item < item_count s
  pub stopped : (w.items item).status ≡ Stopped f site
  pub told : is_of_size s.kernel.body f site ≡ of_size
  pub at : sites ≡ At site ∷ []
  pub who : items ≡ item_of s item ∷ []

-- two accesses of the history clash; the earlier one stands first
pub record HasRace (s : Setup) (w : World) (sites : List Spot) (items : List WorkItem) : Type 0 where
  pub earlier : Access
  pub later : Access
  pub before : List Access
  pub between : List Access
  pub after : List Access
  pub history : w.history ≡ (before ++ earlier ∷ between) ++ later ∷ after
  pub clash : Clash s earlier later
  pub among : (earlier.item < item_count s) × (later.item < item_count s)
  pub at : sites ≡ access_spot earlier ∷ access_spot later ∷ []
  pub who : items ≡ item_of s earlier.item ∷ item_of s later.item ∷ []

-- two items of a group diverge; the one that waits where the other does not stands first
pub record HasDivergence (s : Setup) (k : NameMap) (w : World) (sites : List Spot) (items : List WorkItem) : Type 0 where
  pub waiting : ℕ
  pub other : ℕ
  pub divergent : Divergent s w waiting other
  pub among : (waiting < item_count s) × (other < item_count s)
  pub at : sites ≡ standing_spot k (w.items waiting) ∷ standing_spot k (w.items other) ∷ []
  pub who : items ≡ item_of s waiting ∷ item_of s other ∷ []

-- no world shows that a loop has too many turns; and what a buffer may hold is no matter of a world
abbrev pub Shows : Setup → NameMap → World → FindingKind → List Spot → List WorkItem → Type 0
Shows s k w Race sites items = HasRace s w sites items
Shows s k w Divergence sites items = HasDivergence s k w sites items
Shows s k w (Faults f) sites items = HasFault s w f false sites items
Shows s k w Sizes sites items = HasFault s w Overflow true sites items
Shows s k w Bound sites items = ⊥
Shows s k w Values sites items = ⊥
