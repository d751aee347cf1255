-- An item that has come along a path from a place stands at the path's end, or in front of the statement there.
use Rattle.std.proofs.Common.{◌≡◌, ℕ, ◌<◌, Bool, List, [], Option, Some, None, refl, sym, subst}
use Rattle.std.specs.List.{All}
use Rattle.semantics.specs.Setup.{Setup, item_count}
use Rattle.facts.specs.Symbols.{Fact}
use Rattle.facts.specs.Launching.{known, launch_facts}
use Rattle.facts.proofs.Worlds.{Walked, View, setup_of}
use Rattle.arrivals.specs.Points as points
use Rattle.arrivals.specs.Points.{Point}
use Rattle.arrivals.specs.Trees as arrivals
use Rattle.arrivals.specs.Trees.{Stop, Turns, End, IsEnd, Front, IsFront}
use Rattle.arrivals.specs.Places.{Place, places}
use Rattle.arrivals.specs.Places as placed
use Rattle.arrivals.specs.Paths.{Held, Follows}
use Rattle.arrivals.specs.Shown.{Came}
use Rattle.arrivals.specs.LoopTests.{IsTest, IsEntering}
use Rattle.arrivals.specs.Symbolic.{AtFront, AtArrival, AtEntering, Faithful}
use Rattle.arrivals.proofs.Drawing.{stands_at_leaf, stands_in_front, stands_at_arrival, stands_at_head, stands_at_entering}
use Rattle.walk_trees.specs.Trees.{Tree, Access, Ended, accesses, ends}
use Rattle.walk_trees.specs.Values.{Value}
use Rattle.walk_trees.specs.Walks.{State}
use Rattle.walk_trees.specs.Shown.{IsShownWithProducts}
use Rattle.walk_trees.proofs.QuotientSound.{DividesLawfully}
use Rattle.walk_trees.proofs.Each.{Has}
use Rattle.obligations.specs.Notes.{Notes, number_at}
use Rattle.obligations.specs.Telling.{TellsOfItems}
use Rattle.obligations.specs.Roots.{root_state}
use Rattle.obligations.specs.Walking.{Placed, course}
use Rattle.obligations.specs.Listing.{Planted, planted, all_trees, claims_of}
use Rattle.obligations.proofs.PlaceLines.{notes_of, Holds, holds_of}
use Rattle.obligations.proofs.Planting.{planted-has, claims-shown}
use Rattle.obligations.proofs.Started.{view, started}
use Rattle.obligations.proofs.Faithfully as faithfully

head-none : (h : Option Point) → number_at h ≡ None → h ≡ None
head-none None e = refl
head-none (Some p) e = cc

module _ {E : Type 0} (w : Walked E) (n : Notes) (tell : TellsOfItems n) (laws : DividesLawfully w.domain) (shown : All IsShownWithProducts (claims_of w.conditions (all_trees w.domain w.kernel w.conditions n)))
    (p : Place) (is : points.Has p (places w.kernel.body)) (i : ℕ) (h : i < item_count (setup_of w)) (path : List arrivals.Step) (from here : Held) (came : Came (setup_of w) (notes_of (setup_of w) w.conditions.contents n) p i path from here)
  where
    abbrev s : Setup
    s = setup_of w

    abbrev pub a : Option ℕ
    a = number_at p.anchor

    abbrev pub b : Option ℕ
    b = number_at p.head

    pub holds : Holds s n a b i from came.root
    holds = holds_of s n a b i from came.root came.line

    pub own : b ≡ None → came.root ≡ from
    own e = came.own (head-none p.head e)

    pub count : (m : ℕ) × Has (planted w.domain w.kernel w.conditions n m p) (all_trees w.domain w.kernel w.conditions n)
    count = planted-has w.domain w.kernel w.conditions n 0 (places w.kernel.body) p is

    abbrev pub it : Planted E
    it = planted w.domain w.kernel w.conditions n count.0 p

    pub it-has : Has it (all_trees w.domain w.kernel w.conditions n)
    it-has = count.1

    abbrev pub all : List (Access E)
    all = accesses it.facts it.claims it.tree

    abbrev pub last : List (Ended E)
    last = ends it.facts it.claims it.tree

    abbrev pub c : View E
    c = view w n i h from came.root

    abbrev launch : List Fact
    launch = launch_facts w.conditions

    abbrev pub pl : Placed E
    pl = faithfully.w c launch laws all last n a b (λ e x. x) tell.rankings

    abbrev pub At : Tree E → State E → Held → Type 0
    At = faithfully.At c launch laws all last n a b (λ e x. x) tell.rankings

    at_root : At it.tree (root_state w.domain (known w.domain w.kernel.sizes w.conditions) w.kernel n count.0 a b) came.root
    at_root = started w n tell i h from came.root a b holds count.0 it.tree (claims-shown w.conditions (all_trees w.domain w.kernel w.conditions n) it shown it-has)

    pub at_leaf : (u : End) → u.path ≡ path → IsEnd u [] (placed.tree w.kernel.body p) → (st : State E) × At ((course pl).stops u.stop u.turns st) st here
    at_leaf u e end =
        stands_at_leaf s w.conditions.contents (notes_of s w.conditions.contents n).rank i (Tree E) (State E) Value (course pl) At (faithfully.faithful c launch laws all last n a b (λ e x. x) tell.rankings)
        w.kernel.body p u (root_state w.domain (known w.domain w.kernel.sizes w.conditions) w.kernel n count.0 a b) came.root here at_root end (subst (λ q. Follows s w.conditions.contents (notes_of s w.conditions.contents n).rank i q came.root here) (sym e) came.follows)

    pub at_front : (f : Front) → f.path ≡ path → IsFront f [] (placed.tree w.kernel.body p) → AtFront (course pl) At f.statement.statement here
    at_front f e front =
        stands_in_front s w.conditions.contents (notes_of s w.conditions.contents n).rank i (Tree E) (State E) Value (course pl) At (faithfully.faithful c launch laws all last n a b (λ e x. x) tell.rankings)
        w.kernel.body p f (root_state w.domain (known w.domain w.kernel.sizes w.conditions) w.kernel n count.0 a b) came.root here at_root front (subst (λ q. Follows s w.conditions.contents (notes_of s w.conditions.contents n).rank i q came.root here) (sym e) came.follows)

    law : Faithful s w.conditions.contents (notes_of s w.conditions.contents n).rank i (Tree E) (State E) Value (course pl) At
    law = faithfully.faithful c launch laws all last n a b (λ e x. x) tell.rankings

    -- where claims are made of rankings
    pub at_arrival : (f : Front) (m : ℕ) (again : Bool) → f.path ≡ path → IsFront f [] (placed.tree w.kernel.body p) → IsTest m again f.statement.statement f.statement.again → AtArrival (course pl) At m again here
    at_arrival f m again e front test =
        stands_at_arrival s w.conditions.contents (notes_of s w.conditions.contents n).rank i (Tree E) (State E) Value (course pl) At law w.kernel.body p f m again (root_state w.domain (known w.domain w.kernel.sizes w.conditions) w.kernel n count.0 a b) came.root here is at_root front test
        (subst (λ q. Follows s w.conditions.contents (notes_of s w.conditions.contents n).rank i q came.root here) (sym e) came.follows)

    pub at_loop_head : (u : End) (m : ℕ) (again : Bool) → u.path ≡ path → IsEnd u [] (placed.tree w.kernel.body p) → u.stop ≡ arrivals.AtHead m again → AtArrival (course pl) At m again here
    at_loop_head u m again e end stop =
        stands_at_head s w.conditions.contents (notes_of s w.conditions.contents n).rank i (Tree E) (State E) Value (course pl) At law w.kernel.body p u m again (root_state w.domain (known w.domain w.kernel.sizes w.conditions) w.kernel n count.0 a b) came.root here at_root end stop
        (subst (λ q. Follows s w.conditions.contents (notes_of s w.conditions.contents n).rank i q came.root here) (sym e) came.follows)

    pub at_entering : (m : ℕ) → IsEntering m path [] (placed.tree w.kernel.body p) → AtEntering (course pl) At m here
    at_entering m e = stands_at_entering s w.conditions.contents (notes_of s w.conditions.contents n).rank i (Tree E) (State E) Value (course pl) At law w.kernel.body p m path (root_state w.domain (known w.domain w.kernel.sizes w.conditions) w.kernel n count.0 a b) came.root here at_root e came.follows
