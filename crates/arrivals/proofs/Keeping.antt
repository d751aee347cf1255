-- Each store of a solo run keeps what buffers hold.
use Rattle.std.proofs.Common.{◌≡◌, ℕ, ◌<◌, ℤ, Bool, ◌||◌, List, [], ◌∷◌, refl, inl}
use Rattle.semantics.specs.Core.{Statement, Set, Store, If, Loop, Barrier, Return, Break, Continue}
use Rattle.semantics.specs.Setup.{Setup, item_count}
use Rattle.semantics.specs.Item.{Entry, Item, Status, Running, Waiting, Ended, Stopped, trail}
use Rattle.semantics.specs.Ask.{Ask, Loads, Stores, Goes, Waits, Rests, act, front, passes, by_status, ask}
use Rattle.semantics.specs.Solo.{after, passed}
use Rattle.semantics.specs.Contents.{IsHonest, HonestFront, StoresKept, Holds}
use Rattle.semantics.proofs.HonestRuns.{front_of}
use Rattle.arrivals.specs.Loops.{have_barrier}
use Rattle.arrivals.specs.Trees.{IsFront, left}
use Rattle.arrivals.specs.Paths.{held}
use Rattle.arrivals.specs.Shown.{Notes, Shown, IsSound}
use Rattle.arrivals.specs.Faults.{StoresShown}
use Rattle.arrivals.proofs.Controlled.{bare, has_turned}
use Rattle.arrivals.proofs.Standing.{Standing, front_one}
use Rattle.arrivals.proofs.Placing.{Stands, Placed}
use Rattle.arrivals.proofs.Rooted.{rooted}
use Rattle.arrivals.proofs.Runs.{is_placed}
use Rattle.arrivals.proofs.Seen.{in_front, told_turned}

module _ (s : Setup) (k : Notes) (sound : IsSound s) (shown : Shown s k) (stores : StoresShown s k) (i : ℕ) (ws : List ℤ) (is_item : i < item_count s) (fair : IsHonest s k.contents i ws) where
  abbrev it : Item
  it = after s i ws

  -- whatever it asks for, where a store of it keeps them
  kept_by : (a : Ask) → ((at : _) (site : _) (value : ℤ) (next : Item) → a ≡ Stores at site value next → Holds s k.contents at value) → StoresKept s k.contents a
  kept_by (Loads at kind site) f = tt
  kept_by (Stores at site value next) f = f at site value next refl
  kept_by (Goes next) f = tt
  kept_by (Waits next) f = tt
  kept_by Rests f = tt

  keeps_at : (again : Bool) (st : Statement) (t : ℕ) (r : List Entry) → it.status ≡ Running → HonestFront s k.contents i (trail it.left) st it.variables it.answers → (h : Standing s k i (passed s i ws) (record { statement = st; turns = t } ∷ r) it.variables (front_one st (has_turned t) (bare r)))
      → IsFront (record { statement = left st again; path = h.path }) h.path (front_one st (has_turned t) (bare r) h.turns) → StoresKept s k.contents (act s i it st t r)
  keeps_at again st t r run front h q = kept_by (act s i it st t r) (λ at site value next e.
      stores h.place (record { statement = left st again; path = h.path }) h.is_place (h.fronts (record { statement = left st again; path = h.path }) q) i h.start (held it.variables h.ranks) is_item h.came at value
      (record { it = it; turns = t; rest = r; site = site; next = next; runs = run; variables = refl; honest = front; stores = e }))

  keeps_by : (st : Statement) (t : ℕ) (r : List Entry) → it.status ≡ Running → HonestFront s k.contents i (trail it.left) st it.variables it.answers → Standing s k i (passed s i ws) (record { statement = st; turns = t } ∷ r) it.variables (front_one st (has_turned t) (bare r)) → StoresKept s k.contents (act s i it st t r)
  keeps_by (Set m x e) t r run front p = keeps_at (has_turned t) (Set m x e) t r run front p (inl refl)
  keeps_by (Store m y a x e) t r run front p = keeps_at (has_turned t) (Store m y a x e) t r run front p (inl refl)
  keeps_by (If m e yeses noes) t r run front p = keeps_at (has_turned t) (If m e yeses noes) t r run front p (inl refl)
  keeps_by (Loop m e b u) t r run front p = keeps_at (told_turned (have_barrier b || have_barrier u) (has_turned t)) (Loop m e b u) t r run front p (in_front m e b u (has_turned t) (bare r) (have_barrier b || have_barrier u) p.turns p.path)
  keeps_by (Barrier m l g) t r run front p = tt
  keeps_by (Return m) t r run front p = tt
  keeps_by (Break m j) t r run front p = tt
  keeps_by (Continue m j) t r run front p = tt

  keeps_left : (left : List Entry) → it.status ≡ Running → it.left ≡ left → Stands s k i (passed s i ws) left it.variables → StoresKept s k.contents (front s i it left)
  keeps_left [] run same p = tt
  keeps_left (e ∷ r) run same p = keeps_by e.statement e.turns r run (front_of s k.contents i ws e r fair same) (rooted s k shown i is_item (passed s i ws) (e ∷ r) it.variables p)

  keeps_passed : (left : List Entry) → StoresKept s k.contents (passes it left)
  keeps_passed [] = tt
  keeps_passed (e ∷ r) = tt

  keeps_status : (st : Status) → it.status ≡ st → Placed s k i (passed s i ws) it.left it.variables st → StoresKept s k.contents (by_status s i it st)
  keeps_status Running e p = keeps_left it.left e refl p
  keeps_status Waiting e p = keeps_passed it.left
  keeps_status Ended e p = tt
  keeps_status (Stopped f site) e p = tt

  pub keeps : StoresKept s k.contents (ask s i (after s i ws))
  unfolding ask
  keeps = keeps_status (after s i ws).status refl (is_placed s k shown i is_item sound ws fair)
