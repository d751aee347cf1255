-- Each access of a solo run is made at a front of a place.
use Rattle.std.proofs.Common.{◌≡◌, ℕ, ◌<◌, ℤ, Bool, true, false, ◌||◌, List, [], ◌∷◌, Option, Some, refl, inl, inr, subst}
use Rattle.semantics.specs.Core.{Statement, Set, Store, If, Loop, Barrier, Return, Break, Continue}
use Rattle.semantics.specs.Setup.{Setup, item_count}
use Rattle.semantics.specs.Item.{Entry, Item, Status, Running, Waiting, Ended, Stopped, trail}
use Rattle.semantics.specs.Ask.{Ask, Loads, Stores, Goes, Waits, Rests, act, front, passes, by_status, ask}
use Rattle.semantics.specs.Solo.{Access, after, passed, touch, Touched, epoch}
use Rattle.semantics.specs.Contents.{IsHonest, HonestFront}
use Rattle.semantics.proofs.HonestRuns.{front_of}
use Rattle.arrivals.specs.Loops.{have_barrier}
use Rattle.arrivals.specs.Points.{Has, Point}
use Rattle.arrivals.specs.Trees.{Step, Front, IsFront, left}
use Rattle.arrivals.specs.Places.{Place, places, tree}
use Rattle.arrivals.specs.Paths.{Held, held}
use Rattle.arrivals.specs.Shown.{Notes, Shown, IsSound}
use Rattle.arrivals.specs.Races.{Touch}
use Rattle.arrivals.proofs.Counting.{Counts}
use Rattle.arrivals.proofs.Controlled.{bare, has_turned}
use Rattle.arrivals.proofs.Standing.{Visited, Standing, front_loop, front_one}
use Rattle.arrivals.proofs.Placing.{Stands, Placed}
use Rattle.arrivals.proofs.Rooted.{rooted}
use Rattle.arrivals.proofs.Runs.{is_placed}

touch-item : (i : ℕ) (it : Item) (k : Ask) (a : Access) → touch i it k ≡ Some a → (a.item ≡ i) × (a.epoch ≡ epoch it a.at.owner)
touch-item i it (Loads at kind site) a h = by a h
  where
    by : (a : Access) → Some (record { item = i; at = at; is_store = false; epoch = epoch it at.owner; site = site }) ≡ Some a → (a.item ≡ i) × (a.epoch ≡ epoch it a.at.owner)
    by a h = let e : record { item = i; at = at; is_store = false; epoch = epoch it at.owner; site = site } ≡ a = cc in subst (λ (a : Access). (a.item ≡ i) × (a.epoch ≡ epoch it a.at.owner)) e (refl, refl)
touch-item i it (Stores at site value next) a h = by a h
  where
    by : (a : Access) → Some (record { item = i; at = at; is_store = true; epoch = epoch it at.owner; site = site }) ≡ Some a → (a.item ≡ i) × (a.epoch ≡ epoch it a.at.owner)
    by a h = let e : record { item = i; at = at; is_store = true; epoch = epoch it at.owner; site = site } ≡ a = cc in subst (λ (a : Access). (a.item ≡ i) × (a.epoch ≡ epoch it a.at.owner)) e (refl, refl)
touch-item i it (Goes next) a h = cc
touch-item i it (Waits next) a h = cc
touch-item i it Rests a h = cc

-- an access of a solo run: the visit, and the front at which it is made
pub record Seen (s : Setup) (k : Notes) (i : ℕ) (a : Access) : Type 0 where
  pub words : List ℤ
  pub honest : IsHonest s k.contents i words
  pub anchor : Option Point
  pub base : Counts
  pub start : Held
  pub visited : Visited s k i (passed s i words) anchor base start
  pub place : Place
  pub is_place : Has place (places s.kernel.body)
  pub of : place.anchor ≡ anchor
  pub at : Front
  pub is_front : IsFront at [] (tree s.kernel.body place)
  pub touch : Touch s k place at i start a
  pub item : a.item ≡ i
  pub epoch : a.epoch ≡ epoch (after s i words) a.at.owner

-- what the tree says there of whether the loop has turned
abbrev pub told_turned : (x a : Bool) → Bool
told_turned true a = a
told_turned false a = true

pub in_front : (n : ℕ) (e : _) (b u : _) (a : Bool) (rest : _) (x : Bool) (t : _) (path : List Step) → IsFront (record { statement = left (Loop n e b u) (told_turned x a); path = path }) path (front_loop x n e b u a rest t)
in_front n e b u a rest true t path = inl refl
in_front n e b u a rest false t path = inl refl

module _ (s : Setup) (k : Notes) (sound : IsSound s) (shown : Shown s k) (i : ℕ) (is_item : i < item_count s) where
  seen_at : (again : Bool) (ws : List ℤ) (a : Access) (st : Statement) (t : ℕ) (r : List Entry) → IsHonest s k.contents i ws → HonestFront s k.contents i (trail (after s i ws).left) st (after s i ws).variables (after s i ws).answers → touch i (after s i ws) (act s i (after s i ws) st t r) ≡ Some a → (h : Standing s k i (passed s i ws) (record { statement = st; turns = t } ∷ r) (after s i ws).variables (front_one st (has_turned t) (bare r)))
      → IsFront (record { statement = left st again; path = h.path }) h.path (front_one st (has_turned t) (bare r) h.turns) → Seen s k i a
  seen_at again ws a st t r fair front e h f =
      let w = touch-item i (after s i ws) (act s i (after s i ws) st t r) a e in
      record {
        words = ws;
        honest = fair;
        anchor = h.anchor;
        base = h.base;
        start = h.start;
        visited = h.visited;
        place = h.place;
        is_place = h.is_place;
        of = h.of;
        at = record { statement = left st again; path = h.path };
        is_front = h.fronts (record { statement = left st again; path = h.path }) f;
        touch = record { here = held (after s i ws).variables h.ranks; came = h.came; makes = record { it = after s i ws; turns = t; rest = r; variables = refl; honest = front; touches = e } };
        item = w.0;
        epoch = w.1;
      }

  seen_by : (ws : List ℤ) (a : Access) (st : Statement) (t : ℕ) (r : List Entry) → IsHonest s k.contents i ws → HonestFront s k.contents i (trail (after s i ws).left) st (after s i ws).variables (after s i ws).answers → touch i (after s i ws) (act s i (after s i ws) st t r) ≡ Some a → Standing s k i (passed s i ws) (record { statement = st; turns = t } ∷ r) (after s i ws).variables (front_one st (has_turned t) (bare r)) → Seen s k i a
  seen_by ws a (Set m x e) t r fair front h p = seen_at (has_turned t) ws a (Set m x e) t r fair front h p (inl refl)
  seen_by ws a (Store m y site x e) t r fair front h p = seen_at (has_turned t) ws a (Store m y site x e) t r fair front h p (inl refl)
  seen_by ws a (If m e yeses noes) t r fair front h p = seen_at (has_turned t) ws a (If m e yeses noes) t r fair front h p (inl refl)
  seen_by ws a (Loop m e b u) t r fair front h p = seen_at (told_turned (have_barrier b || have_barrier u) (has_turned t)) ws a (Loop m e b u) t r fair front h p (in_front m e b u (has_turned t) (bare r) (have_barrier b || have_barrier u) p.turns p.path)
  seen_by ws a (Barrier m l g) t r fair front h p = cc
  seen_by ws a (Return m) t r fair front h p = cc
  seen_by ws a (Break m j) t r fair front h p = cc
  seen_by ws a (Continue m j) t r fair front h p = cc

  seen_left : (ws : List ℤ) (a : Access) (left : List Entry) → IsHonest s k.contents i ws → (after s i ws).left ≡ left → touch i (after s i ws) (front s i (after s i ws) left) ≡ Some a → Stands s k i (passed s i ws) left (after s i ws).variables → Seen s k i a
  seen_left ws a [] fair same h p = cc
  seen_left ws a (e ∷ r) fair same h p = seen_by ws a e.statement e.turns r fair (front_of s k.contents i ws e r fair same) h (rooted s k shown i is_item (passed s i ws) (e ∷ r) (after s i ws).variables p)

  no_touch : (it : Item) (left : List Entry) (a : Access) → touch i it (passes it left) ≡ Some a → ⊥
  no_touch it [] a h = cc
  no_touch it (e ∷ r) a h = cc

  seen_status : (ws : List ℤ) (a : Access) (st : Status) → IsHonest s k.contents i ws → touch i (after s i ws) (by_status s i (after s i ws) st) ≡ Some a → Placed s k i (passed s i ws) (after s i ws).left (after s i ws).variables st → Seen s k i a
  seen_status ws a Running fair h p = seen_left ws a (after s i ws).left fair refl h p
  seen_status ws a Waiting fair h p = absurd (no_touch (after s i ws) (after s i ws).left a h)
  seen_status ws a Ended fair h p = cc
  seen_status ws a (Stopped f site) fair h p = cc

  pub seen : (ws : List ℤ) (a : Access) → IsHonest s k.contents i ws → Touched s i ws a → Seen s k i a
  unfolding ask
  seen [] a fair h = absurd h
  seen (z ∷ ws) a fair (inl h) = seen_status ws a (after s i ws).status fair.0 h (is_placed s k shown i is_item sound ws fair.0)
  seen (z ∷ ws) a fair (inr h) = seen ws a fair.0 h
