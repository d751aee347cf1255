-- A loop's test, seen from where the item stands.
use Rattle.std.proofs.Common.{◌≡◌, ℕ, ◌+◌, Bool, true, false, not, ◌||◌, List, ◌∷◌, map, Some, refl, ap, ◌∙◌, inl, inr, subst, ℤ, nat_eq, eq-eqb}
use Rattle.semantics.specs.Word.{Word, is_zero}
use Rattle.semantics.specs.Core.{Term, Loop, Statements, number}
use Rattle.semantics.specs.Setup.{Setup}
use Rattle.semantics.specs.Item.{Entry, enter}
use Rattle.semantics.specs.Ask.{choose}
use Rattle.arrivals.specs.Loops.{have_barrier, slip, skip, first_of, loop_fault, unmet}
use Rattle.arrivals.specs.Points.{point, join, turning, have_loop}
use Rattle.arrivals.specs.Trees.{Step, End, Front, Tests, turned, Later, IsEnd, IsFront, ways, walk_left, left, Enters}
use Rattle.arrivals.specs.LoopTests.{IsEntering}
use Rattle.arrivals.specs.Places.{Meets}
use Rattle.arrivals.specs.Paths.{CanBe, Held, held, ranked}
use Rattle.arrivals.specs.Shown.{Notes, Came}
use Rattle.arrivals.proofs.Counting.{counted}
use Rattle.arrivals.proofs.Tests.{or_left}
use Rattle.arrivals.proofs.Controlled.{Controlled, bare, bare-enter, first_none, controlled-rest, has_turned, turned-once_more}
use Rattle.arrivals.proofs.Turning.{controlled-turn, controlled-again}
use Rattle.arrivals.proofs.Through.{through_head, whether_turned}
use Rattle.arrivals.proofs.Ranked.{AtTest, Entering, AreRan, ran-enter, ran-turn}
use Rattle.arrivals.proofs.Standing.{all_points, Standing, front_loop}
use Rattle.arrivals.proofs.LoopBodies.{walk-body, met_inside, met_behind, agrees-turn}

module _ (s : Setup) (k : Notes) (i c : ℕ) (n : ℕ) (e : Term) (b u : Statements) (t : ℕ) (r : List Entry) (vars : List Word) (v : Word) (can : CanBe s k.contents i e vars v) where
  abbrev after_turn : List Entry
  after_turn = enter b (enter u (record { statement = Loop n e b u; turns = t + 1 } ∷ r))

  -- along the same path, with the test behind
  tested_on : (x : Bool) → is_zero v.value ≡ not x → {p : _} {a : Held} {ranks : ℕ → ℤ} {path : List Step} → Came s k p i path a (held vars ranks) → Came s k p i (Tests e x ∷ path) a (held vars ranks)
  tested_on x z {ranks = ranks} h = record { root = h.root; line = h.line; own = h.own; follows = (held vars ranks, (h.follows, (v, (can, (z, refl))))) }

  -- and into the body
  entered_on : {p : _} {a : Held} {ranks : ℕ → ℤ} {path : List Step} → Came s k p i path a (held vars ranks) → Came s k p i (Enters n ∷ path) a (ranked k.rank n i (held vars ranks))
  entered_on {ranks = ranks} h = record { root = h.root; line = h.line; own = h.own; follows = (held vars ranks, (h.follows, refl)) }

  -- ranked by the turn
  ran_on : {all : _} {counts : _} (ranks : ℕ → ℤ) → Controlled all counts (record { statement = Loop n e b u; turns = t } ∷ r) → AtTest s k i n (has_turned t) (held vars ranks) → Entering s k i n (held vars ranks) → AreRan s k i ranks (record { statement = Loop n e b u; turns = t } ∷ r) → AreRan s k i (ranked k.rank n i (held vars ranks)).ranks after_turn
  ran_on {counts = counts} ranks control a x h =
      let out = control.separate.1.0 n (or_left (nat_eq n n) (have_loop n b || have_loop n u) (eq-eqb n n refl)) in
      let later = (ranked k.rank n i (held vars ranks)).ranks in
      let left = record { statement = Loop n e b u; turns = t + 1 } ∷ r in
      ran-enter s k i later b (enter u left) (ran-enter s k i later u left (ran-turn s k i counts n e b u t r (held vars ranks) out control.fits.1 a x h))

  -- a true test of a loop with a barrier
  turned_on : (have_barrier b || have_barrier u) ≡ true → is_zero v.value ≡ false → (h : Standing s k i c (record { statement = Loop n e b u; turns = t } ∷ r) vars (front_loop true n e b u (has_turned t) (bare r))) → AtTest s k i n (has_turned t) (held vars h.ranks) → Standing s k i c after_turn vars (walk_left false (bare after_turn))
  turned_on hb z h a =
      let d = h.control.separate.0 in
      let f = first_none (loop_fault (have_barrier b || have_barrier u) (slip b || skip b) n) (first_of (unmet b) (unmet u)) h.control.met.0 in
      let same = walk-body false n e b u (t + 1) r d hb f in
      let deep = walk-body true n e b u (t + 1) r d hb f in
      record {
        anchor = h.anchor;
        base = h.base;
        start = h.start;
        visited = h.visited;
        are_places = h.are_places;
        ls = Loop n e b u ∷ h.ls;
        loops = ((bare r, h.control.covered.0 (point (Loop n e b u) (bare r)) (inl refl)), h.loops);
        control = controlled-turn (all_points s) (counted h.base h.ls) n e b u t r hb h.control;
        reach = λ x m. h.reach x (met_inside (have_barrier b || have_barrier u) n (left (Loop n e b u) (has_turned t)) e _ _ _ (Some (map number h.ls)) x hb (subst (λ (g : Later). Meets x (g (Some (n ∷ map number h.ls)))) deep m));
        place = h.place;
        is_place = h.is_place;
        of = h.of;
        turns = turned n h.turns;
        agrees = agrees-turn n (Loop n e b u) h.turns h.ls refl h.agrees;
        path = Enters n ∷ Tests e true ∷ h.path;
        ranks = (ranked k.rank n i (held vars h.ranks)).ranks;
        ran = ran_on h.ranks h.control a (record { place = h.place; is_place = h.is_place; path = Tests e true ∷ h.path; is_entering = h.enters n (Tests e true ∷ h.path) (inl (inr (inl (refl, refl)))); start = h.start; came = tested_on true z h.came }) h.ran;
        came = entered_on (tested_on true z h.came);
        ends = λ x q. h.ends x (inl (subst (λ (g : Later). IsEnd x (Enters n ∷ Tests e true ∷ h.path) (g (turned n h.turns))) same q));
        fronts = λ x q. h.fronts x (inr (inl (subst (λ (g : Later). IsFront x (Enters n ∷ Tests e true ∷ h.path) (g (turned n h.turns))) same q)));
        enters = λ m end q. h.enters m end (inl (inr (inr (subst (λ (g : Later). IsEntering m end (Enters n ∷ Tests e true ∷ h.path) (g (turned n h.turns))) same q))));
      }

  -- a true test at a head
  again_on : (have_barrier b || have_barrier u) ≡ false → is_zero v.value ≡ false → (h : Standing s k i c (record { statement = Loop n e b u; turns = t } ∷ r) vars (front_loop false n e b u (has_turned t) (bare r))) → AtTest s k i n (has_turned t) (held vars h.ranks) → Standing s k i c after_turn vars (walk_left false (bare after_turn))
  again_on hb z h a =
      let d = h.control.separate.0 in
      let same : bare after_turn ≡ join b (join u (turning (Loop n e b u) ∷ bare r)) = bare-enter b (enter u (record { statement = Loop n e b u; turns = t + 1 } ∷ r)) ∙ ap (join b) (bare-enter u (record { statement = Loop n e b u; turns = t + 1 } ∷ r)) ∙ ap (λ x. join b (join u (left (Loop n e b u) x ∷ bare r))) (turned-once_more t) in
      record {
        anchor = h.anchor;
        base = h.base;
        start = h.start;
        visited = h.visited;
        are_places = h.are_places;
        ls = h.ls;
        loops = h.loops;
        control = controlled-again (all_points s) (counted h.base h.ls) n e b u t r hb h.control;
        reach = λ x m. h.reach x (whether_turned n e b u (ways true (bare r)) (Some (map number h.ls)) x true (has_turned t) (through_head n e b u (bare r) (Some (map number h.ls)) x hb d (subst (λ left. Meets x (walk_left true left (Some (map number h.ls)))) same m)));
        place = h.place;
        is_place = h.is_place;
        of = h.of;
        turns = h.turns;
        agrees = h.agrees;
        path = Enters n ∷ Tests e true ∷ h.path;
        ranks = (ranked k.rank n i (held vars h.ranks)).ranks;
        ran = ran_on h.ranks h.control a (record { place = h.place; is_place = h.is_place; path = Tests e true ∷ h.path; is_entering = h.enters n (Tests e true ∷ h.path) (inl (inr (inl (refl, refl)))); start = h.start; came = tested_on true z h.came }) h.ran;
        came = entered_on (tested_on true z h.came);
        ends = λ x q. h.ends x (inl (subst (λ left. IsEnd x (Enters n ∷ Tests e true ∷ h.path) (walk_left false left h.turns)) same q));
        fronts = λ x q. h.fronts x (inr (inl (subst (λ left. IsFront x (Enters n ∷ Tests e true ∷ h.path) (walk_left false left h.turns)) same q)));
        enters = λ m end q. h.enters m end (inl (inr (inr (subst (λ left. IsEntering m end (Enters n ∷ Tests e true ∷ h.path) (walk_left false left h.turns)) same q))));
      }

  -- a false test
  left_on : (x : Bool) → is_zero v.value ≡ true → Standing s k i c (record { statement = Loop n e b u; turns = t } ∷ r) vars (front_loop x n e b u (has_turned t) (bare r)) → Standing s k i c r vars (walk_left false (bare r))
  left_on x z h = record {
    anchor = h.anchor;
    base = h.base;
    start = h.start;
    visited = h.visited;
    are_places = h.are_places;
    ls = h.ls;
    loops = h.loops;
    control = controlled-rest (all_points s) (counted h.base h.ls) _ r h.control;
    reach = λ x m. h.reach x (met_behind (have_barrier b || have_barrier u) n (left (Loop n e b u) (has_turned t)) e _ _ _ (Some (map number h.ls)) x m);
    place = h.place;
    is_place = h.is_place;
    of = h.of;
    turns = h.turns;
    agrees = h.agrees;
    path = Tests e false ∷ h.path;
    ranks = h.ranks;
    ran = h.ran.1;
    came = tested_on false z h.came;
    ends = λ y q. h.ends y (behind_end x y q);
    fronts = λ y q. h.fronts y (behind_front x y q);
    enters = λ m end q. h.enters m end (behind_entering x m end q);
  }
    where
      behind_end : (x : Bool) (y : End) → IsEnd y (Tests e false ∷ h.path) (walk_left false (bare r) h.turns) → IsEnd y h.path (front_loop x n e b u (has_turned t) (bare r) h.turns)
      behind_end true y q = inr q
      behind_end false y q = inr q

      behind_front : (x : Bool) (y : Front) → IsFront y (Tests e false ∷ h.path) (walk_left false (bare r) h.turns) → IsFront y h.path (front_loop x n e b u (has_turned t) (bare r) h.turns)
      behind_front true y q = inr (inr q)
      behind_front false y q = inr (inr q)

      behind_entering : (x : Bool) (m : ℕ) (end : List Step) → IsEntering m end (Tests e false ∷ h.path) (walk_left false (bare r) h.turns) → IsEntering m end h.path (front_loop x n e b u (has_turned t) (bare r) h.turns)
      behind_entering true m end q = inr (inr q)
      behind_entering false m end q = inr (inr q)

  pub loop_on : (x z : Bool) → (have_barrier b || have_barrier u) ≡ x → is_zero v.value ≡ z → (h : Standing s k i c (record { statement = Loop n e b u; turns = t } ∷ r) vars (front_loop x n e b u (has_turned t) (bare r))) → AtTest s k i n (has_turned t) (held vars h.ranks) → Standing s k i c (choose z r after_turn) vars (walk_left false (bare (choose z r after_turn)))
  loop_on true false hb z h a = turned_on hb z h a
  loop_on false false hb z h a = again_on hb z h a
  loop_on true true hb z h a = left_on true z h
  loop_on false true hb z h a = left_on false z h
