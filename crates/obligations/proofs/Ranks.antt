-- Where all is shown, each loop's ranking is as it is said: where it opens, with each turn, and inside.
use Rattle.std.proofs.Common.{ℕ, ◌<◌, Bool, true, false, List, [], ◌∷◌, arith, refl}
use Rattle.std.specs.Prelude.{ℤ, pos, ◌-ℤ◌, ◌*ℤ◌, ◌≤ℤ◌}
use Rattle.std.specs.List.{All}
use Rattle.std.proofs.lemmas.Int.{ints}
use Rattle.semantics.specs.Setup.{Setup, item_count}
use Rattle.facts.specs.Symbols.{Fact, constant, minus}
use Rattle.facts.specs.Launching.{launch_facts}
use Rattle.linear.specs.Exact.{multiple}
use Rattle.facts.proofs.Worlds.{Walked, View, setup_of}
use Rattle.arrivals.specs.Points.{Has}
use Rattle.arrivals.specs.Trees.{Step}
use Rattle.arrivals.specs.Places.{Place, places}
use Rattle.arrivals.specs.Paths.{Held}
use Rattle.arrivals.specs.Shown as arrivals
use Rattle.arrivals.specs.Shown.{Came}
use Rattle.arrivals.specs.Symbolic.{AtArrival, AtEntering}
use Rattle.rankings.specs.Limits.{Opens, Holds, Falls}
use Rattle.rankings.specs.Ranked.{Owes, RanksShown}
use Rattle.walk_trees.specs.Walks.{stand, rank_form}
use Rattle.walk_trees.specs.Statements.{spot_of}
use Rattle.walk_trees.specs.Shown.{IsShownWithProducts}
use Rattle.walk_trees.proofs.QuotientSound.{DividesLawfully}
use Rattle.walk_trees.proofs.Holding.{held_settles}
use Rattle.walk_trees.proofs.Standing.{told_replaced}
use Rattle.walk_trees.proofs.Ranges.{IsForm, form_constant, form-minus, form-multiple}
use Rattle.obligations.specs.Notes.{Bound, Down, Halving, Doubling, Notes, opens, holds, fallen, fallen_by}
use Rattle.obligations.specs.Telling.{TellsOfItems}
use Rattle.obligations.specs.Limits.{limit, limit_at, AreLimits}
use Rattle.obligations.specs.Listing.{all_trees, claims_of}
use Rattle.obligations.specs.Walking.{course, rank_on}
use Rattle.obligations.proofs.PlaceLines.{notes_of}
use Rattle.obligations.proofs.Faithfully.{told_rank, rank-is}
use Rattle.obligations.proofs.Stationed as stationed

module _ {E : Type 0} (w : Walked E) (n : Notes) (tell : TellsOfItems n) (laws : DividesLawfully w.domain) (shown : All IsShownWithProducts (claims_of w.conditions (all_trees w.domain w.kernel w.conditions n))) where
  abbrev s : Setup
  s = setup_of w

  abbrev k : arrivals.Notes
  k = notes_of s w.conditions.contents n

  -- one item
  module _ (p : Place) (is : Has p (places w.kernel.body)) (i : ℕ) (h : i < item_count s) (path : List Step) (from here : Held) (came : Came s k p i path from here) where
    abbrev c : View E
    c = stationed.c w n tell laws shown p is i h path from here came

    abbrev launch : List Fact
    launch = launch_facts w.conditions

    -- what is at least 0 where the loop opens, where its test is true, and after a turn
    opened : (b : Bound) (news : List ℤ) (now : Fact) (y : ℤ) → IsForm c news now y → (z : ℤ) × (IsForm c news (opens b now) z × (pos 0 ≤ℤ z → Opens (limit b) y))
    opened (Down step m) news now y g = (m -ℤ y, (form-minus c (constant m) now m y (m -ℤ y) (form_constant c news m) g (omega (arith, ints)), λ l. omega (arith, ints, l)))
    opened (Halving m) news now y g = (m -ℤ y, (form-minus c (constant m) now m y (m -ℤ y) (form_constant c news m) g (omega (arith, ints)), λ l. omega (arith, ints, l)))
    opened (Doubling least m) news now y g = (y -ℤ least, (form-minus c now (constant least) y least (y -ℤ least) g (form_constant c news least) (omega (arith, ints)), λ l. omega (arith, ints, l)))

    held : (b : Bound) (news : List ℤ) (now : Fact) (y : ℤ) → IsForm c news now y → (z : ℤ) × (IsForm c news (holds b now) z × (pos 0 ≤ℤ z → Holds (limit b) y))
    held (Down step m) news now y g = (y -ℤ pos 1, (form-minus c now (constant (pos 1)) y (pos 1) (y -ℤ pos 1) g (form_constant c news (pos 1)) (omega (arith, ints)), λ l. omega (arith, ints, l)))
    held (Halving m) news now y g = (y -ℤ pos 1, (form-minus c now (constant (pos 1)) y (pos 1) (y -ℤ pos 1) g (form_constant c news (pos 1)) (omega (arith, ints)), λ l. omega (arith, ints, l)))
    held (Doubling least m) news now y g = (m -ℤ y, (form-minus c (constant m) now m y (m -ℤ y) (form_constant c news m) g (omega (arith, ints)), λ l. omega (arith, ints, l)))

    fell : (b : Bound) (news : List ℤ) (before now : Fact) (x y : ℤ) → IsForm c news before x → IsForm c news now y → (z : ℤ) × (IsForm c news (fallen b before now) z × (pos 0 ≤ℤ z → Falls (limit b) x y))
    fell (Down step m) news before now x y f g =
        ((x -ℤ y) -ℤ pos step, (form-minus c (minus before now) (constant (pos step)) (x -ℤ y) (pos step) ((x -ℤ y) -ℤ pos step) (form-minus c before now x y (x -ℤ y) f g (omega (arith, ints))) (form_constant c news (pos step)) (omega (arith, ints)), λ l. omega (arith, ints, l)))
    fell (Halving m) news before now x y f g =
        (x -ℤ pos 2 *ℤ y, (form-minus c before (multiple (pos 2) now) x (pos 2 *ℤ y) (x -ℤ pos 2 *ℤ y) f (form-multiple c (pos 2) now y g) (omega (arith, ints)), λ l. omega (arith, ints, l)))
    fell (Doubling least m) news before now x y f g =
        (y -ℤ pos 2 *ℤ x, (form-minus c now (multiple (pos 2) before) y (pos 2 *ℤ x) (y -ℤ pos 2 *ℤ x) g (form-multiple c (pos 2) before x f) (omega (arith, ints)), λ l. omega (arith, ints, l)))

    arrived : (m : ℕ) (again : Bool) → AtArrival (course (stationed.pl w n tell laws shown p is i h path from here came)) (stationed.At w n tell laws shown p is i h path from here came) m again here → Owes k (limit_at n) m i again here
    arrived m false x =
        let st = x.0 in
        let t = told_rank c launch laws (stationed.all w n tell laws shown p is i h path from here came) (stationed.last w n tell laws shown p is i h path from here came) n (stationed.a w n tell laws shown p is i h path from here came) (stationed.b w n tell laws shown p is i h path from here came) (λ e q. q) tell.rankings m [] (opens (n.ranking m).bound (rank_on (stationed.pl w n tell laws shown p is i h path from here came) m st)) st here _ x.1.1 in
        let y = t.1 in
        let r = rank-is c launch laws (stationed.all w n tell laws shown p is i h path from here came) (stationed.last w n tell laws shown p is i h path from here came) n (stationed.a w n tell laws shown p is i h path from here came) (stationed.b w n tell laws shown p is i h path from here came) (λ e q. q) tell.rankings m (stand (spot_of m) st) here y t.0 in
        let now = rank_on (stationed.pl w n tell laws shown p is i h path from here came) m st in
        let g = opened (n.ranking m).bound y.news now (k.rank m i here) r in
        let f = opens (n.ranking m).bound now in
        g.1.1 (told_replaced c launch f g.0 y.stands g.1.0.means (held_settles c y.news st.held f g.0 y.stands.fit g.1.0.means))
    arrived m true x =
        let st = x.0 in
        let t = told_rank c launch laws (stationed.all w n tell laws shown p is i h path from here came) (stationed.last w n tell laws shown p is i h path from here came) n (stationed.a w n tell laws shown p is i h path from here came) (stationed.b w n tell laws shown p is i h path from here came) (λ e q. q) tell.rankings m (fallen_by (n.ranking m).bound (rank_form st.ranks m) (rank_on (stationed.pl w n tell laws shown p is i h path from here came) m st) ∷ []) (fallen (n.ranking m).bound (rank_form st.ranks m) (rank_on (stationed.pl w n tell laws shown p is i h path from here came) m st)) st here _ x.1.1 in
        let y = t.1 in
        let r = rank-is c launch laws (stationed.all w n tell laws shown p is i h path from here came) (stationed.last w n tell laws shown p is i h path from here came) n (stationed.a w n tell laws shown p is i h path from here came) (stationed.b w n tell laws shown p is i h path from here came) (λ e q. q) tell.rankings m (stand (spot_of m) st) here y t.0 in
        let now = rank_on (stationed.pl w n tell laws shown p is i h path from here came) m st in
        let g = fell (n.ranking m).bound y.news (rank_form st.ranks m) now (here.ranks m) (k.rank m i here) (y.ranked m) r in
        let f = fallen (n.ranking m).bound (rank_form st.ranks m) now in
        g.1.1 (told_replaced c launch f g.0 y.stands g.1.0.means (held_settles c y.news st.held f g.0 y.stands.fit g.1.0.means))

    entered : (m : ℕ) → AtEntering (course (stationed.pl w n tell laws shown p is i h path from here came)) (stationed.At w n tell laws shown p is i h path from here came) m here → Holds (limit_at n m) (k.rank m i here)
    entered m x =
        let st = x.0 in
        let t = told_rank c launch laws (stationed.all w n tell laws shown p is i h path from here came) (stationed.last w n tell laws shown p is i h path from here came) n (stationed.a w n tell laws shown p is i h path from here came) (stationed.b w n tell laws shown p is i h path from here came) (λ e q. q) tell.rankings m [] (holds (n.ranking m).bound (rank_on (stationed.pl w n tell laws shown p is i h path from here came) m st)) st here _ x.1.1 in
        let y = t.1 in
        let r = rank-is c launch laws (stationed.all w n tell laws shown p is i h path from here came) (stationed.last w n tell laws shown p is i h path from here came) n (stationed.a w n tell laws shown p is i h path from here came) (stationed.b w n tell laws shown p is i h path from here came) (λ e q. q) tell.rankings m (stand (spot_of m) st) here y t.0 in
        let now = rank_on (stationed.pl w n tell laws shown p is i h path from here came) m st in
        let g = held (n.ranking m).bound y.news now (k.rank m i here) r in
        let f = holds (n.ranking m).bound now in
        g.1.1 (told_replaced c launch f g.0 y.stands g.1.0.means (held_settles c y.news st.held f g.0 y.stands.fit g.1.0.means))

  pub ranks : AreLimits n → RanksShown s k (limit_at n)
  ranks are = record {
    are_limits = are;
    at_loops = λ p f m again is front test i from here h came. arrived p is i h f.path from here came m again (stationed.at_arrival w n tell laws shown p is i h f.path from here came f m again refl front test);
    at_heads = λ p u m again is end stop i from here h came. arrived p is i h u.path from here came m again (stationed.at_loop_head w n tell laws shown p is i h u.path from here came u m again refl end stop);
    entering = λ p m path is e i from here h came. entered p is i h path from here came m (stationed.at_entering w n tell laws shown p is i h path from here came m e);
  }
