-- So does it at each moment of its solo run; and its history is told by the barriers that it passed.
use Rattle.std.proofs.Common.{◌≡◌, ℕ, suc, ◌+◌, ◌<◌, ℤ, Bool, true, false, List, [], ◌∷◌, Some, None, refl, sym, inl, subst, arith, add-zero}
use Rattle.std.specs.Prelude.{pos}
use Rattle.semantics.specs.Word.{Word}
use Rattle.semantics.specs.Core.{Statement, Set, Store, If, Loop, Barrier, Return, Break, Continue}
use Rattle.semantics.specs.Setup.{Setup, item_count}
use Rattle.semantics.specs.Item.{Entry, Item, Status, Running, Waiting, Ended, Stopped, enter}
use Rattle.semantics.specs.Ask.{passes, by_status, ask}
use Rattle.semantics.specs.Solo.{moved, opening, after, passed, is_waiting}
use Rattle.semantics.specs.Contents.{IsHonest}
use Rattle.semantics.proofs.HonestRuns.{front_of}
use Rattle.arrivals.specs.Points.{Has, Point, point, join}
use Rattle.arrivals.specs.Trees.{AtBarrier, IsEnd, IsFront, walk_left}
use Rattle.arrivals.specs.LoopTests.{IsEntering}
use Rattle.arrivals.specs.Places.{Place, Meets, places_from, from_barriers, own_place, is_barrier}
use Rattle.arrivals.specs.Paths.{held}
use Rattle.arrivals.specs.Shown.{Notes, Shown, IsSound, at_opening}
use Rattle.arrivals.proofs.Counting.{counted, fits_all-new}
use Rattle.arrivals.proofs.Joined.{has_left, has_right}
use Rattle.arrivals.proofs.Controlled.{bare, bare-enter, controlled-rest, controlled-enter, nothing_left}
use Rattle.arrivals.proofs.Members.{barriers-have}
use Rattle.arrivals.proofs.Ranked.{ran-enter}
use Rattle.arrivals.proofs.Standing.{all_points, no_turns}
use Rattle.arrivals.proofs.Placing.{IsAtBarrier, IsHonestItem, Stands, Placed, IsPlaced, placed_by}
use Rattle.arrivals.proofs.Moves.{front_fine}

module _ (s : Setup) (k : Notes) (shown : Shown s k) (i : ℕ) (is_item : i < item_count s) where
  behind_barrier : (n m : ℕ) (l g : Bool) (t : ℕ) (r : List Entry) (vars : List Word) → Stands s k i n (record { statement = Barrier m l g; turns = t } ∷ r) vars → Stands s k i (suc n) r vars
  behind_barrier n m l g t r vars h =
      let b : Point = point (Barrier m l g) (bare r) in
      let is_point = h.control.covered.0 b (inl refl) in
      let are_places = λ (p : Place) (q : Has p (places_from s.kernel.body (Some b))). has_right p (places_from s.kernel.body None) (from_barriers s.kernel.body (all_points s)) (barriers-have s.kernel.body (all_points s) b is_point refl p q) in
      let is_place = are_places (own_place (Some b)) (inl refl) in
      let is_leaf = h.ends (record { stop = AtBarrier m; turns = h.turns; path = h.path }) refl in
      record {
        anchor = Some b;
        base = counted h.base h.ls;
        start = held vars h.ranks;
        visited = record {
          from = h.anchor;
          base = h.base;
          first = h.start;
          visited = h.visited;
          ls = h.ls;
          loops = h.loops;
          barrier = b;
          is_point = is_point;
          arrives = record { place = h.place; is_place = h.is_place; of = h.of; leaf = record { stop = AtBarrier m; turns = h.turns; path = h.path }; is_leaf = is_leaf; stops = refl; agrees = h.agrees; came = h.came };
          anchor_is = refl;
          counts = refl;
        };
        are_places = are_places;
        ls = [];
        loops = tt;
        control = controlled-rest (all_points s) (counted h.base h.ls) _ r h.control;
        reach = λ x q. q;
        place = own_place (Some b);
        is_place = is_place;
        of = refl;
        turns = Some [];
        agrees = λ l e. by l e;
        path = [];
        ranks = h.ranks;
        ran = h.ran.1;
        came = record {
          root = held vars h.ranks;
          line = shown.at_barriers h.place b (record { stop = AtBarrier m; turns = h.turns; path = h.path }) h.is_place is_place is_leaf refl i h.start (held vars h.ranks) is_item h.came;
          own = λ e. refl;
          follows = refl;
        };
        ends = λ u q. q;
        fronts = λ f q. q;
        enters = λ m end q. q;
      }
    where
      by : (l : List ℕ) → Some [] ≡ Some l → l ≡ []
      by [] e = refl
      by (n ∷ l) e = cc

  past_barrier : (n : ℕ) (st : Statement) (t : ℕ) (r : List Entry) (vars : List Word) → is_barrier st ≡ true → Stands s k i n (record { statement = st; turns = t } ∷ r) vars → Stands s k i (suc n) r vars
  past_barrier n (Set m x e) t r vars b h = cc
  past_barrier n (Store m a site x e) t r vars b h = cc
  past_barrier n (If m e yeses noes) t r vars b h = cc
  past_barrier n (Loop m e x u) t r vars b h = cc
  past_barrier n (Barrier m l g) t r vars b h = behind_barrier n m l g t r vars h
  past_barrier n (Return m) t r vars b h = cc
  past_barrier n (Break m j) t r vars b h = cc
  past_barrier n (Continue m j) t r vars b h = cc

  passed_fine : (n : ℕ) (it : Item) (left : List Entry) → IsAtBarrier left → Stands s k i n left it.variables → (z : ℤ) → IsPlaced s k i (suc n) (moved it (passes it left) z)
  passed_fine n it [] b h z = absurd b
  passed_fine n it (e ∷ r) b h z = placed_by s k i (suc n) r it.variables (past_barrier n e.statement e.turns r it.variables b h)

  by_fine : (n : ℕ) (it : Item) (st : Status) → it.status ≡ st → Placed s k i n it.left it.variables st → IsPlaced s k i n it → IsHonestItem s k.contents i it → (z : ℤ) → IsPlaced s k i (n + is_waiting st) (moved it (by_status s i it st) z)
  by_fine n it Running e h p fair z = subst (λ m. IsPlaced s k i m (moved it (by_status s i it Running) z)) (sym (add-zero n)) (front_fine s k i n shown is_item it it.left e refl h p fair z)
  by_fine n it Waiting e h p fair z = let m : suc n ≡ n + 1 = omega arith in subst (λ m. IsPlaced s k i m (moved it (by_status s i it Waiting) z)) m (passed_fine n it it.left h.0 h.1 z)
  by_fine n it Ended e h p fair z = subst (λ m. IsPlaced s k i m it) (sym (add-zero n)) p
  by_fine n it (Stopped f site) e h p fair z = subst (λ m. IsPlaced s k i m it) (sym (add-zero n)) p

  opening_stands : IsSound s → Stands s k i 0 (enter s.kernel.body []) (opening s i).variables
  opening_stands sound =
      let same : bare (enter s.kernel.body []) ≡ join s.kernel.body [] = bare-enter s.kernel.body [] in
      record {
        anchor = None;
        base = no_turns;
        start = at_opening s i;
        visited = (refl, (refl, refl));
        are_places = λ p q. has_left p (places_from s.kernel.body None) (from_barriers s.kernel.body (all_points s)) q;
        ls = [];
        loops = tt;
        control = controlled-enter (all_points s) no_turns s.kernel.body [] (fits_all-new no_turns s.kernel.body (λ k q. refl)) (λ q. tt) sound.formed (λ k q. refl) (λ p q. q) sound.met (nothing_left (all_points s) no_turns);
        reach = λ x q. subst (λ left. Meets x (walk_left true left (Some []))) same q;
        place = own_place None;
        is_place = inl refl;
        of = refl;
        turns = Some [];
        agrees = λ l e. by l e;
        path = [];
        ranks = λ n. pos 0;
        ran = ran-enter s k i (λ n. pos 0) s.kernel.body [] tt;
        came = record { root = at_opening s i; line = shown.opens i is_item; own = λ e. refl; follows = refl };
        ends = λ u q. subst (λ left. IsEnd u [] (walk_left false left (Some []))) same q;
        fronts = λ f q. subst (λ left. IsFront f [] (walk_left false left (Some []))) same q;
        enters = λ m end q. subst (λ left. IsEntering m end [] (walk_left false left (Some []))) same q;
      }
    where
      by : (l : List ℕ) → Some [] ≡ Some l → l ≡ []
      by [] e = refl
      by (n ∷ l) e = cc

  placed_first : IsSound s → IsPlaced s k i 0 (opening s i)
  unfolding opening
  placed_first sound = placed_by s k i 0 (enter s.kernel.body []) (opening s i).variables (opening_stands sound)

  -- whatever answers its next load
  placed_next : (ws : List ℤ) → IsHonest s k.contents i ws → IsPlaced s k i (passed s i ws) (after s i ws) → (z : ℤ) → IsPlaced s k i (passed s i (z ∷ ws)) (after s i (z ∷ ws))
  unfolding ask
  placed_next ws fair p z = by_fine (passed s i ws) (after s i ws) (after s i ws).status refl p p (λ e r same. front_of s k.contents i ws e r fair same) z

  pub is_placed : IsSound s → (ws : List ℤ) → IsHonest s k.contents i ws → IsPlaced s k i (passed s i ws) (after s i ws)
  is_placed sound [] fair = placed_first sound
  is_placed sound (z ∷ ws) fair = placed_next ws fair.0 (is_placed sound ws fair.0) z

  -- the answer to its newest load may be any number
  pub is_placed_then : IsSound s → (ws : List ℤ) → IsHonest s k.contents i ws → (z : ℤ) → IsPlaced s k i (passed s i (z ∷ ws)) (after s i (z ∷ ws))
  is_placed_then sound ws fair z = placed_next ws fair (is_placed sound ws fair) z
