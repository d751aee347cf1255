-- Where an item stands in the trees by its status, and a step along a path.
use Rattle.std.proofs.Common.{◌≡◌, ℕ, ℤ, true, false, List, [], ◌∷◌, map, Option, Some, refl}
use Rattle.semantics.specs.Word.{Word}
use Rattle.semantics.specs.Core.{number}
use Rattle.semantics.specs.Setup.{Setup}
use Rattle.semantics.specs.Evaluation.{Outcome, Gives, Needs, Faults, Index, At, Outside}
use Rattle.semantics.specs.Item.{Entry, Item, Status, Running, Waiting, Ended, Stopped, status_of, trail}
use Rattle.semantics.specs.Ask.{Ask, on_value, stores}
use Rattle.semantics.specs.Solo.{moved}
use Rattle.semantics.specs.Conditions.{Content}
use Rattle.semantics.specs.Contents.{HonestFront}
use Rattle.arrivals.specs.Points.{Point}
use Rattle.arrivals.specs.Trees.{Step, Turns, Later, End, Front, IsEnd, IsFront, walk_left, left}
use Rattle.arrivals.specs.LoopTests.{IsEntering}
use Rattle.arrivals.specs.Places.{Reach, Meets, is_barrier}
use Rattle.arrivals.specs.Paths.{Held, held}
use Rattle.arrivals.specs.Shown.{Notes, Came}
use Rattle.arrivals.proofs.Counting.{Counts, counted}
use Rattle.arrivals.proofs.Controlled.{bare, Controlled}
use Rattle.arrivals.proofs.Ranked.{AreRan}
use Rattle.arrivals.proofs.Standing.{all_points, Visited, Standing}

-- the answers to the loads of the statement in front are numbers that the lines let buffers hold
abbrev pub IsHonestItem : Setup → List Content → ℕ → Item → Type 0
IsHonestItem s cs i it = (e : Entry) (r : List Entry) → it.left ≡ e ∷ r → HonestFront s cs i (trail it.left) e.statement it.variables it.answers

-- a barrier is in front
abbrev pub IsAtBarrier : List Entry → Type 0
IsAtBarrier [] = ⊥
IsAtBarrier (e ∷ r) = is_barrier e.statement ≡ true

abbrev pub Stands : Setup → Notes → (i n : ℕ) → List Entry → List Word → Type 0
Stands s k i n left vars = Standing s k i n left vars (walk_left false (bare left))

-- past so many barriers it stood somewhere
pub record Somewhere (s : Setup) (k : Notes) (i n : ℕ) : Type 0 where
  pub anchor : Option Point
  pub counts : Counts
  pub start : Held
  pub visited : Visited s k i n anchor counts start

pub somewhere : (s : Setup) (k : Notes) (i n : ℕ) (left : List Entry) (vars : List Word) (here : Later) → Standing s k i n left vars here → Somewhere s k i n
somewhere s k i n left vars here h = record { anchor = h.anchor; counts = h.base; start = h.start; visited = h.visited }

abbrev pub Placed : Setup → Notes → (i n : ℕ) → List Entry → List Word → Status → Type 0
Placed s k i n left vars Running = Stands s k i n left vars
Placed s k i n left vars Waiting = IsAtBarrier left × Stands s k i n left vars
Placed s k i n left vars Ended = (left ≡ []) × Stands s k i n left vars
Placed s k i n left vars (Stopped f site) = Somewhere s k i n

abbrev pub IsPlaced : Setup → Notes → (i n : ℕ) → Item → Type 0
IsPlaced s k i n it = Placed s k i n it.left it.variables it.status

-- whatever answers its load
abbrev pub Fine : Setup → Notes → (i n : ℕ) → Item → Ask → Type 0
Fine s k i n it a = (z : ℤ) → IsPlaced s k i n (moved it a z)

pub placed_by : (s : Setup) (k : Notes) (i n : ℕ) (left : List Entry) (vars : List Word) → Stands s k i n left vars → Placed s k i n left vars (status_of left)
placed_by s k i n [] vars h = (refl, h)
placed_by s k i n (e ∷ r) vars h = h

pub value_fine : (s : Setup) (k : Notes) (i n : ℕ) (it : Item) (o : Outcome) (go : Word → List Word → Ask) → Somewhere s k i n → IsPlaced s k i n it → ((v : Word) (rest : List Word) → o ≡ Gives v rest → Fine s k i n it (go v rest)) → Fine s k i n it (on_value s i it o go)
value_fine s k i n it (Gives v rest) go w h f = f v rest refl
value_fine s k i n it (Needs a x site) go w h f = λ z. h
value_fine s k i n it (Faults f site) go w h g = λ z. w

pub stores_fine : (s : Setup) (k : Notes) (i n : ℕ) (it : Item) (a : _) (site : _) (x : Index) (v : ℤ) (rest : List Entry) → Stands s k i n rest it.variables → Fine s k i n it (stores s i it a site x v rest)
stores_fine s k i n it a site (At x) v rest h = λ z. placed_by s k i n rest it.variables h
stores_fine s k i n it a site Outside v rest h = λ z. somewhere s k i n rest it.variables (walk_left false (bare rest)) h

-- on the same path, with other statements left
module _ (s : Setup) (k : Notes) (i n : ℕ) where
  pub going : (left next : List Entry) (vars : List Word) (here there : Later) → ((c : Counts) → Controlled (all_points s) c left → Controlled (all_points s) c next) → ((ranks : ℕ → ℤ) → AreRan s k i ranks left → AreRan s k i ranks next) → ((l : List ℕ) (x : Reach) → Meets x (walk_left true (bare next) (Some l)) → Meets x (walk_left true (bare left) (Some l)))
      → ((u : End) (path : List Step) (t : Turns) → IsEnd u path (there t) → IsEnd u path (here t)) → ((f : Front) (path : List Step) (t : Turns) → IsFront f path (there t) → IsFront f path (here t)) → ((m : ℕ) (end path : List Step) (t : Turns) → IsEntering m end path (there t) → IsEntering m end path (here t)) → Standing s k i n left vars here → Standing s k i n next vars there
  going left next vars here there c a m e f g h = record {
    anchor = h.anchor;
    base = h.base;
    start = h.start;
    visited = h.visited;
    are_places = h.are_places;
    ls = h.ls;
    loops = h.loops;
    control = c (counted h.base h.ls) h.control;
    reach = λ x q. h.reach x (m (map number h.ls) x q);
    place = h.place;
    is_place = h.is_place;
    of = h.of;
    turns = h.turns;
    agrees = h.agrees;
    path = h.path;
    ranks = h.ranks;
    ran = a h.ranks h.ran;
    came = h.came;
    ends = λ u q. h.ends u (e u h.path h.turns q);
    fronts = λ u q. h.fronts u (f u h.path h.turns q);
    enters = λ m end q. h.enters m end (g m end h.path h.turns q);
  }

  -- one step along the path
  pub stepping : (left next : List Entry) (vars there_vars : List Word) (here there : Later) (st : Step) → ((path : List Step) (p : _) (a : Held) (ranks : ℕ → ℤ) → Came s k p i path a (held vars ranks) → Came s k p i (st ∷ path) a (held there_vars ranks))
      → ((c : Counts) → Controlled (all_points s) c left → Controlled (all_points s) c next) → ((ranks : ℕ → ℤ) → AreRan s k i ranks left → AreRan s k i ranks next) → ((l : List ℕ) (x : Reach) → Meets x (walk_left true (bare next) (Some l)) → Meets x (walk_left true (bare left) (Some l)))
      → ((u : End) (path : List Step) (t : Turns) → IsEnd u (st ∷ path) (there t) → IsEnd u path (here t)) → ((f : Front) (path : List Step) (t : Turns) → IsFront f (st ∷ path) (there t) → IsFront f path (here t)) → ((m : ℕ) (end path : List Step) (t : Turns) → IsEntering m end (st ∷ path) (there t) → IsEntering m end path (here t)) → Standing s k i n left vars here → Standing s k i n next there_vars there
  stepping left next vars there_vars here there st w c a m e f g h = record {
    anchor = h.anchor;
    base = h.base;
    start = h.start;
    visited = h.visited;
    are_places = h.are_places;
    ls = h.ls;
    loops = h.loops;
    control = c (counted h.base h.ls) h.control;
    reach = λ x q. h.reach x (m (map number h.ls) x q);
    place = h.place;
    is_place = h.is_place;
    of = h.of;
    turns = h.turns;
    agrees = h.agrees;
    path = st ∷ h.path;
    ranks = h.ranks;
    ran = a h.ranks h.ran;
    came = w h.path h.place h.start h.ranks h.came;
    ends = λ u q. h.ends u (e u h.path h.turns q);
    fronts = λ u q. h.fronts u (f u h.path h.turns q);
    enters = λ m end q. h.enters m end (g m end h.path h.turns q);
  }
