-- Whatever path an item follows to a point of a tree, it stands there in the walk with forms.
use Rattle.std.proofs.Common.{◌≡◌, ℕ, Bool, true, false, not, ◌||◌, nat_eq, cond, List, [], ◌∷◌, Option, Some, None, sym, inl, inr, subst}
use Rattle.std.specs.Prelude.{slice_set}
use Rattle.semantics.specs.Core.{Term, Statement, Set, Store, If, Loop, Barrier, Return, Break, Continue, Statements, none, one, number}
use Rattle.semantics.specs.Item.{update_of}
use Rattle.semantics.specs.Setup.{Setup}
use Rattle.semantics.specs.Conditions.{Content}
use Rattle.arrivals.specs.Loops.{have_barrier}
use Rattle.arrivals.specs.Points.{Point, Left, fresh, turning, join}
use Rattle.arrivals.specs.Places.{Place, behind, tree_from, tree, is_head}
use Rattle.arrivals.specs.LoopTests.{IsTest}
use Rattle.arrivals.specs.Trees.{Step, Sets, Uses, Tests, Stop, AtBarrier, AtHead, AtEnd, Turns, turned, Tree, Comes, Takes, Fork, Leaf, Later, Ways, in_body, walk_loop, walk_one, walk, walk_left, head_tree, ways, left, Enters}
use Rattle.arrivals.specs.Paths as paths
use Rattle.arrivals.specs.Paths.{CanBe, Follows, Held, held, Ranking, ranked}
use Rattle.arrivals.specs.Symbolic.{Terms, Drawn, Courses, inside, draw_loop, draw_one, draw, courses, draw_head, sketch_from, sketch, Faithful, AtFront, AtArrival, AtEntering}
use Rattle.arrivals.proofs.PlaceHeads.{IsOfHead}
use Rattle.arrivals.proofs.Spots.{Spot, Stops, Before, Taking, IsSpot, Reaches, reaches_of}

neither_is : (x : Bool) → x ≡ true → not x ≡ true → ⊥
neither_is true h k = cc
neither_is false h k = cc

-- `H` is that the head of the place is one
module _ (s : Setup) (cs : List Content) (r : Ranking) (i : ℕ) (T S F : Type 0) (k : Terms T S F) (At : T → S → Held → Type 0) (law : Faithful s cs r i T S F k At) (H : Type 0) where
  -- an item stands at that point of the sketch; at a head's leaf it has come to its test, and so in front of a loop with a barrier
  abbrev pub AtSpot : Spot → (here : Held) → Type 0
  AtSpot (Stops stop t) here = ((st : S) × At (k.stops stop t st) st here) × ((n : ℕ) (b : Bool) → stop ≡ AtHead n b → AtArrival k At n b here)
  AtSpot (Before a) here = AtFront k At a.statement here × (H → (n : ℕ) (b : Bool) → IsTest n b a.statement a.again → AtArrival k At n b here)
  AtSpot (Taking st) here = (n : ℕ) → st ≡ Enters n → AtEntering k At n here

  -- an item that stands at the sketch goes on in it as in the tree
  record Follow (tree : Tree) (from : Held) : Type 0 where
    to : (x : Spot) (here : Held) → Reaches s cs r i tree x from here → AtSpot x here

  abbrev Drawing : Later → Drawn T S → Type 0
  Drawing g h = (t : Turns) (st : S) (from : Held) → At (h t st) st from → Follow (g t) from

  record AllDrawn (w : Ways) (c : Courses T S) : Type 0 where
    go : Drawing w.go c.go
    out : (m : ℕ) → Drawing (w.out m) (c.out m)
    back : (m : ℕ) → Drawing (w.back m) (c.back m)

  at_leaf : (stop : Stop) (t : Turns) (st : S) (from : Held) → ((n : ℕ) (b : Bool) → stop ≡ AtHead n b → AtArrival k At n b from) → At (k.stops stop t st) st from → Follow (Leaf stop t) from
  at_leaf stop t st from f h = record { to = λ x here g. subst (λ x. AtSpot x here) (sym g.0) (subst (AtSpot (Stops stop t)) g.1 ((st, h), f)) }

  at_end : Drawing (λ t. Leaf AtEnd t) (λ t st. k.stops AtEnd t st)
  at_end t st from h = at_leaf AtEnd t st from (λ n b e. cc) h

  body_drawn : (w : Ways) (c : Courses T S) → AllDrawn w c → AllDrawn (in_body w.go) (inside k c.go)
  body_drawn w c d = record { go = at_end; out = λ m. d.go; back = λ m. at_end }

  -- one step on
  took : (st : Step) (tree : Tree) (from : Held) → ((n : ℕ) → st ≡ Enters n → AtEntering k At n from) → ((mid : Held) → paths.Takes s cs r i st from mid → Follow tree mid) → Follow (Takes st tree) from
  took st tree from h f = record { to = λ x here g. by x here g }
    where
      by : (x : Spot) (here : Held) → Reaches s cs r i (Takes st tree) x from here → AtSpot x here
      by x here (inl g) = subst (λ x. AtSpot x here) (sym g.0) (subst (AtSpot (Taking st)) g.1 h)
      by x here (inr g) = (f g.0 g.1.0).to x here g.1.1

  came_to : (again : Bool) (a : Statement) (tree : Tree) (from : Held) → AtFront k At a from → (H → (n : ℕ) (b : Bool) → IsTest n b a again → AtArrival k At n b from) → Follow tree from → Follow (Comes (left a again) tree) from
  came_to again a tree from h test f = record { to = λ x here g. by x here g }
    where
      by : (x : Spot) (here : Held) → Reaches s cs r i (Comes (left a again) tree) x from here → AtSpot x here
      by x here (inl g) = subst (λ x. AtSpot x here) (sym g.0) (subst (AtSpot (Before (left a again))) g.1 (h, test))
      by x here (inr g) = f.to x here g

  forked : (left right : Tree) (from : Held) → Follow left from → Follow right from → Follow (Fork left right) from
  forked left right from f g = record { to = λ x here h. by x here h }
    where
      by : (x : Spot) (here : Held) → Reaches s cs r i (Fork left right) x from here → AtSpot x here
      by x here (inl h) = f.to x here h
      by x here (inr h) = g.to x here h

  tested_drawn : (n : ℕ) (e : Term) (taken skipped : Later) (yes_drawn no_drawn : Drawn T S) (t1 t2 : Turns) (st : S) (from : Held) → Drawing taken yes_drawn → Drawing skipped no_drawn → At (k.test n e st (λ st'. yes_drawn t1 st') (λ st'. no_drawn t2 st')) st from
      → Follow (Fork (Takes (Tests e true) (taken t1)) (Takes (Tests e false) (skipped t2))) from
  tested_drawn n e taken skipped yes_drawn no_drawn t1 t2 st from dt ds h = forked _ _ from
      (took (Tests e true) (taken t1) from (λ m q. cc) (λ mid g. let q = law.taken n e st from g.0 _ _ h g.1.0 g.1.1.0 in subst (Follow (taken t1)) (sym g.1.1.1) (dt t1 q.0 from q.1)))
      (took (Tests e false) (skipped t2) from (λ m q. cc) (λ mid g. let q = law.skipped n e st from g.0 _ _ h g.1.0 g.1.1.0 in subst (Follow (skipped t2)) (sym g.1.1.1) (ds t2 q.0 from q.1)))

  entered_drawn : (n : ℕ) (g : Later) (h : Drawn T S) → Drawing g h → Drawing (λ t. Takes (Enters n) (g t)) (λ t st. k.enter n st (λ st'. h t st'))
  entered_drawn n g h d t st from x = took (Enters n) (g t) from (λ m q. let e : n ≡ m = cc in subst (λ m. AtEntering k At m from) e (st, (_, x))) (λ mid e. let q = law.enter n st from (λ st'. h t st') x in subst (Follow (g t)) (sym e) (d t q.0 (ranked r n i from) q.1))

  loop_drawn : (x a : Bool) (n : ℕ) (e : Term) (b u : Statements) (body update go : Later) (body_of go_of : Drawn T S) → Drawing body body_of → Drawing go go_of → Drawing (λ t. walk_loop false x (left (Loop n e b u) a) n e body update go t) (λ t st. draw_loop k x n a e body_of go_of t st)
  loop_drawn true a n e b u body update go body_of go_of db dg t st from h =
      let q = law.arrive n a st from _ h in
      came_to a (Loop n e b u) _ from (q.0, (_, (_, q.1))) (λ y m c z. subst (λ m. AtArrival k At m c from) z.0 (subst (λ c. AtArrival k At n c from) z.1.0 (st, (_, h)))) (tested_drawn n e (λ t. Takes (Enters n) (body t)) go (λ t st. k.enter n st (λ st'. body_of t st')) go_of (turned n t) t q.0 from (entered_drawn n body body_of db) dg q.1)
  loop_drawn false a n e b u body update go body_of go_of db dg t st from h = let q = law.arrive n a st from _ h in at_leaf (AtHead n a) t q.0 from (λ m c z. let e : n ≡ m = cc in let e' : a ≡ c = cc in subst (λ m. AtArrival k At m c from) e (subst (λ c. AtArrival k At n c from) e' (st, (_, h)))) q.1

  mutual
    one_drawn : (again : Bool) (a : Statement) (w : Ways) (c : Courses T S) → AllDrawn w c → Drawing (walk_one false again a w) (draw_one k again a c)
    one_drawn a (Set n x e) w c d t st from h = came_to a (Set n x e) _ from (a, (st, (t, (c, h)))) (λ y m b z. absurd z) (took (Sets x e) (w.go t) from (λ m q. cc) (λ mid g.
        let q = law.set n e x st from g.0 (λ st'. c.go t st') h g.1.0 in
        subst (Follow (w.go t)) (sym g.1.1) (d.go t q.0 (held (slice_set from.variables x g.0) from.ranks) q.1)))
    one_drawn a (Store n y site j e) w c d t st from h = came_to a (Store n y site j e) _ from (a, (st, (t, (c, h)))) (λ y m b z. absurd z) (took (Uses j) (Takes (Uses e) (w.go t)) from (λ m q. cc) (λ mid g.
        let q = law.value n j st from g.0 _ h g.1.0 in
        subst (Follow (Takes (Uses e) (w.go t))) (sym g.1.1) (took (Uses e) (w.go t) from (λ m q. cc) (λ mid' g'.
        let q' = law.value n e q.1.0 from g'.0 _ q.1.1 g'.1.0 in
        let z = law.store (Store n y site j e) q.0 q'.0 q'.1.0 from (λ st'''. c.go t st''') q'.1.1 in
        subst (Follow (w.go t)) (sym g'.1.1) (d.go t z.0 from z.1)))))
    one_drawn a (If n e yeses noes) w c d t st from h = came_to a (If n e yeses noes) _ from (a, (st, (t, (c, h)))) (λ y m b z. absurd z) (tested_drawn n e (walk false yeses w) (walk false noes w) (draw k yeses c) (draw k noes c) t t st from (all_drawn yeses w c d) (all_drawn noes w c d) h)
    one_drawn a (Loop n e b u) w c d t st from h = loop_drawn (have_barrier b || have_barrier u) a n e b u (λ t'. walk false b (in_body w.go) t') (λ t'. walk false u (in_body w.go) t') w.go (λ t' st'. draw k b (inside k c.go) t' st') c.go (all_drawn b (in_body w.go) (inside k c.go) (body_drawn w c d)) d.go t st from h
    one_drawn a (Barrier n l g) w c d t st from h = at_leaf (AtBarrier n) t st from (λ m b e. cc) h
    one_drawn a (Return n) w c d t st from h = at_end t st from h
    one_drawn a (Break n m) w c d t st from h = d.out m t st from h
    one_drawn a (Continue n m) w c d t st from h = d.back m t st from h

    all_drawn : (ss : Statements) (w : Ways) (c : Courses T S) → AllDrawn w c → Drawing (walk false ss w) (draw k ss c)
    all_drawn none w c d = d.go
    all_drawn (one a ss) w c d = one_drawn false a (record { go = λ t'. walk false ss w t'; out = w.out; back = w.back }) (record { go = λ t' st'. draw k ss c t' st'; out = c.out; back = c.back }) (record { go = all_drawn ss w c d; out = d.out; back = d.back })

  drawn_by : (x : Bool) (g h : Later) (g' h' : Drawn T S) → Drawing g g' → Drawing h h' → Drawing (cond x g h) (cond x g' h')
  drawn_by true g h g' h' a b = a
  drawn_by false g h g' h' a b = b

  -- of every list that is left
  left_drawn : (left : List Left) → AllDrawn (ways false left) (courses k left)
  left_drawn [] = record { go = at_end; out = λ m. at_end; back = λ m. at_end }
  left_drawn (a ∷ ss) =
      let d = left_drawn ss in
      let w = ways false ss in
      let c = courses k ss in
      let here = one_drawn a.again a.statement w c d in
      record {
        go = here;
        out = λ m. drawn_by (nat_eq (number a.statement) m) w.go (w.out m) c.go (c.out m) d.go (d.out m);
        back = λ m. drawn_by (nat_eq (number a.statement) m) _ (w.back m) _ (c.back m) (all_drawn (update_of a.statement) (record { go = walk_one false a.again a.statement w; out = w.out; back = w.back }) (record { go = draw_one k a.again a.statement c; out = c.out; back = c.back }) (record { go = here; out = d.out; back = d.back })) (d.back m);
      }

  head_drawn : (a : Statement) (rest : List Left) → (H → is_head a ≡ true) → Drawing (head_tree a rest) (draw_head k a rest)
  head_drawn (Loop n e b u) rest is t st from h = came_to true (Loop n e b u) _ from (st, (_, (_, h))) (λ y m c z. absurd (neither_is (have_barrier b || have_barrier u) z.1.1 (is y)))
      (tested_drawn n e (λ t. Takes (Enters n) (walk_left false (join b (join u (turning (Loop n e b u) ∷ rest))) t)) (walk_left false rest) (λ t st. k.enter n st (λ st'. (courses k (join b (join u (turning (Loop n e b u) ∷ rest)))).go t st')) (courses k rest).go t t st from
      (entered_drawn n (walk_left false (join b (join u (turning (Loop n e b u) ∷ rest)))) (courses k (join b (join u (turning (Loop n e b u) ∷ rest)))).go (left_drawn (join b (join u (turning (Loop n e b u) ∷ rest)))).go) (left_drawn rest).go h)
  head_drawn (Set n x e) rest is t st from h = (left_drawn (fresh (Set n x e) ∷ rest)).go t st from h
  head_drawn (Store n a site j e) rest is t st from h = (left_drawn (fresh (Store n a site j e) ∷ rest)).go t st from h
  head_drawn (If n e yeses noes) rest is t st from h = (left_drawn (fresh (If n e yeses noes) ∷ rest)).go t st from h
  head_drawn (Barrier n l g) rest is t st from h = (left_drawn (fresh (Barrier n l g) ∷ rest)).go t st from h
  head_drawn (Return n) rest is t st from h = (left_drawn (fresh (Return n) ∷ rest)).go t st from h
  head_drawn (Break n m) rest is t st from h = (left_drawn (fresh (Break n m) ∷ rest)).go t st from h
  head_drawn (Continue n m) rest is t st from h = (left_drawn (fresh (Continue n m) ∷ rest)).go t st from h

  place_drawn : (body : Statements) (a h : Option Point) → (H → IsOfHead h) → Drawing (tree_from body a h) (sketch_from k body a h)
  place_drawn body a None is = (left_drawn (behind body a)).go
  place_drawn body a (Some h) is = head_drawn h.statement h.rest is

  -- an item that stands at a place's sketch stands at each point to which it follows a path
  pub stands_at : (body : Statements) (p : Place) (x : Spot) (path : List Step) (st : S) (root here : Held) → (H → IsOfHead p.head) → At (sketch k body p st) st root → IsSpot x path [] (tree body p) → Follows s cs r i path root here → AtSpot x here
  stands_at body p x path st root here is h e f =
      let g = reaches_of s cs r i (tree body p) x path [] root here e f in
      (place_drawn body p.anchor p.head is p.turns st root h).to x here (subst (λ mid. Reaches s cs r i (tree body p) x mid here) (sym g.1.0) g.1.1)
