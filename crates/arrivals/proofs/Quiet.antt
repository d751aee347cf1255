-- No solo run is stopped by a fault.
use Rattle.std.proofs.Common.{◌≡◌, ◌≢◌, ℕ, ◌<◌, ℤ, ◌||◌, List, [], ◌∷◌, refl, inl, Bool}
use Rattle.semantics.specs.Word.{Fault}
use Rattle.semantics.specs.Core.{Site, Statement, Set, Store, If, Loop, Barrier, Return, Break, Continue}
use Rattle.semantics.specs.Setup.{Setup, item_count}
use Rattle.semantics.specs.Item.{Entry, Item, Status, Running, Waiting, Ended, Stopped, status_of, enter, leave, resume, trail}
use Rattle.semantics.specs.Ask.{act, front, passes, by_status, ask}
use Rattle.semantics.specs.Solo.{after, passed, opening, moved}
use Rattle.semantics.specs.Contents.{IsHonest, HonestFront}
use Rattle.semantics.proofs.HonestRuns.{front_of}
use Rattle.arrivals.specs.Loops.{have_barrier}
use Rattle.arrivals.specs.Trees.{IsFront, left}
use Rattle.arrivals.specs.Paths.{held}
use Rattle.arrivals.specs.Shown.{Notes, Shown, IsSound}
use Rattle.arrivals.specs.Faults.{FaultsShown}
use Rattle.arrivals.proofs.Controlled.{bare, has_turned}
use Rattle.arrivals.proofs.Standing.{Standing, front_one}
use Rattle.arrivals.proofs.Placing.{Stands, Placed}
use Rattle.arrivals.proofs.Rooted.{rooted}
use Rattle.arrivals.proofs.Runs.{is_placed}
use Rattle.arrivals.proofs.Seen.{in_front, told_turned}

goes_on : (left : List Entry) (f : Fault) (site : Site) → status_of left ≡ Stopped f site → ⊥
goes_on [] f site h = cc
goes_on (e ∷ r) f site h = cc

module _ (s : Setup) (k : Notes) (sound : IsSound s) (shown : Shown s k) (faults : FaultsShown s k) (i : ℕ) (is_item : i < item_count s) (ws : List ℤ) (fair : IsHonest s k.contents i ws) (z : ℤ) (f : Fault) (site : Site) where
  abbrev it : Item
  it = after s i ws

  fault_at : (again : Bool) (st : Statement) (t : ℕ) (r : List Entry) → it.status ≡ Running → HonestFront s k.contents i (trail it.left) st it.variables it.answers → (moved it (act s i it st t r) z).status ≡ Stopped f site → (h : Standing s k i (passed s i ws) (record { statement = st; turns = t } ∷ r) it.variables (front_one st (has_turned t) (bare r))) → IsFront (record { statement = left st again; path = h.path }) h.path (front_one st (has_turned t) (bare r) h.turns) → ⊥
  fault_at again st t r run front e h q = faults h.place (record { statement = left st again; path = h.path }) h.is_place (h.fronts (record { statement = left st again; path = h.path }) q) i h.start (held it.variables h.ranks) is_item h.came
      (record { it = it; turns = t; rest = r; answer = z; fault = f; site = site; runs = run; variables = refl; honest = front; stops = e })

  fault_by : (st : Statement) (t : ℕ) (r : List Entry) → it.status ≡ Running → HonestFront s k.contents i (trail it.left) st it.variables it.answers → (moved it (act s i it st t r) z).status ≡ Stopped f site → Standing s k i (passed s i ws) (record { statement = st; turns = t } ∷ r) it.variables (front_one st (has_turned t) (bare r)) → ⊥
  fault_by (Set m x e) t r run front h p = fault_at (has_turned t) (Set m x e) t r run front h p (inl refl)
  fault_by (Store m y a x e) t r run front h p = fault_at (has_turned t) (Store m y a x e) t r run front h p (inl refl)
  fault_by (If m e yeses noes) t r run front h p = fault_at (has_turned t) (If m e yeses noes) t r run front h p (inl refl)
  fault_by (Loop m e b u) t r run front h p = fault_at (told_turned (have_barrier b || have_barrier u) (has_turned t)) (Loop m e b u) t r run front h p (in_front m e b u (has_turned t) (bare r) (have_barrier b || have_barrier u) p.turns p.path)
  fault_by (Barrier m l g) t r run front h p = cc
  fault_by (Return m) t r run front h p = cc
  fault_by (Break m j) t r run front h p = goes_on (leave j r) f site h
  fault_by (Continue m j) t r run front h p = goes_on (resume j r) f site h

  fault_left : (left : List Entry) → it.status ≡ Running → it.left ≡ left → (moved it (front s i it left) z).status ≡ Stopped f site → Stands s k i (passed s i ws) left it.variables → ⊥
  fault_left [] run same h p = cc
  fault_left (e ∷ r) run same h p = fault_by e.statement e.turns r run (front_of s k.contents i ws e r fair same) h (rooted s k shown i is_item (passed s i ws) (e ∷ r) it.variables p)

  passed_on : (left : List Entry) → (moved it (passes it left) z).status ≡ Stopped f site → ⊥
  passed_on [] h = cc
  passed_on (e ∷ r) h = goes_on r f site h

  fault_status : (st : Status) → it.status ≡ st → ((g : Fault) (at : Site) → it.status ≢ Stopped g at) → (moved it (by_status s i it st) z).status ≡ Stopped f site → Placed s k i (passed s i ws) it.left it.variables st → ⊥
  fault_status Running e before h p = fault_left it.left e refl h p
  fault_status Waiting e before h p = passed_on it.left h
  fault_status Ended e before h p = before f site h
  fault_status (Stopped g at) e before h p = before f site h

pub quiet : (s : Setup) (k : Notes) → IsSound s → Shown s k → FaultsShown s k → (i : ℕ) (ws : List ℤ) (f : Fault) (site : Site) → i < item_count s → IsHonest s k.contents i ws → (after s i ws).status ≢ Stopped f site
unfolding opening ask
quiet s k sound shown faults i [] f site is_item fair h = goes_on (enter s.kernel.body []) f site h
quiet s k sound shown faults i (z ∷ ws) f site is_item fair h = fault_status s k sound shown faults i is_item ws fair.0 z f site (after s i ws).status refl (λ g at. quiet s k sound shown faults i ws g at is_item fair.0) h (is_placed s k shown i is_item sound ws fair.0)
