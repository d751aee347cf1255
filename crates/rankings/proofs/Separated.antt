-- Of each list left: no loop of a statement stands behind it once more. A formed body is enough for it, and nothing need be shown.
use Rattle.std.proofs.Common.{◌≡◌, ℕ, ◌+◌, ℤ, List, [], ◌∷◌, Bool, true, false, ◌||◌, cond, nat_eq, refl, ◌∙◌, subst, eqb-true}
use Rattle.semantics.specs.Word.{Word, is_zero}
use Rattle.semantics.specs.Core.{Site, Array, Term, Statement, Set, Store, If, Loop, Barrier, Return, Break, Continue, Statements, none, one, number}
use Rattle.semantics.specs.Setup.{Setup}
use Rattle.semantics.specs.Memory.{extent}
use Rattle.semantics.specs.Evaluation.{Outcome, Gives, Needs, Faults, evaluate, Index, At, Outside, within}
use Rattle.semantics.specs.Item.{Entry, Status, Running, Waiting, Ended, Stopped, Item, enter, leave, resume, update_of}
use Rattle.semantics.specs.Ask.{Ask, on_value, stores, choose, act, front, passes, by_status, ask}
use Rattle.semantics.specs.Solo.{moved, opening, after}
use Rattle.arrivals.specs.Points.{has_loop, have_loop, AreFormed}
use Rattle.arrivals.proofs.Tests.{refuted, true_false, or_left, or_right, neither}
use Rattle.arrivals.proofs.Counting.{own, owned, owned-enter, own-have}
use Rattle.arrivals.proofs.Controlled.{Separate}
use Rattle.semantics.specs.Item.{trail}

separate-enter : (ss : Statements) (r : List Entry) → AreFormed ss → ((k : ℕ) → have_loop k ss ≡ true → owned k r ≡ false) → Separate r → Separate (enter ss r)
separate-enter none r d f h = h
separate-enter (one s ss) r d f h = (
  d.0,
  (
    (λ k e. owned-enter k ss r ∙ neither (own k ss) (owned k r) (own-have k ss (d.1.1.loops k e)) (f k (or_left (has_loop k s) (have_loop k ss) e))),
    separate-enter ss r d.1.0 (λ k e. f k (or_right (has_loop k s) (have_loop k ss) e)) h,
  ),
)

-- a loop's update, and its body in front of that
module _ (n : ℕ) (e : Term) (b u : Statements) (t : ℕ) (r : List Entry) where
  abbrev loop : Entry
  loop = record { statement = Loop n e b u; turns = t }

  separate-update : Separate (loop ∷ r) → Separate (enter u (loop ∷ r))
  separate-update h = separate-enter u (loop ∷ r) h.0.1.1.1.0 (λ k q. absurd (true_false (have_loop k u) q (h.0.1.1.1.1.no_loop k))) h

  separate-turn : Separate (loop ∷ r) → Separate (enter b (enter u (loop ∷ r)))
  separate-turn h = separate-enter b (enter u (loop ∷ r)) h.0.1.1.0
      (λ k q. owned-enter k u (loop ∷ r) ∙ neither (own k u) (nat_eq n k || owned k r) (own-have k u (h.0.1.1.1.1.no_loop k))
      (neither (nat_eq n k) (owned k r) (refuted (nat_eq n k) (λ same. true_false (have_loop k b) q (subst (λ m. have_loop m b ≡ false) (eqb-true n k same) h.0.0)))
      (h.1.0 k (or_right (nat_eq n k) (have_loop k b || have_loop k u) (or_left (have_loop k b) (have_loop k u) q)))))
      (separate-update h)

separate-leave : (k : ℕ) (r : List Entry) → Separate r → Separate (leave k r)
separate-leave k [] h = h
separate-leave k (e ∷ r) h = by (nat_eq (number e.statement) k) (separate-leave k r h.1.1)
  where
    by : (x : Bool) → Separate (leave k r) → Separate (cond x r (leave k r))
    by true g = h.1.1
    by false g = g

updated : (s : Statement) (t : ℕ) (r : List Entry) → Separate (record { statement = s; turns = t } ∷ r) → Separate (enter (update_of s) (record { statement = s; turns = t } ∷ r))
updated (Set n x e) t r h = h
updated (Store n a site i e) t r h = h
updated (If n e yeses noes) t r h = h
updated (Loop n e b u) t r h = separate-update n e b u t r h
updated (Barrier n l g) t r h = h
updated (Return n) t r h = h
updated (Break n k) t r h = h
updated (Continue n k) t r h = h

separate-resume : (k : ℕ) (r : List Entry) → Separate r → Separate (resume k r)
separate-resume k [] h = h
separate-resume k (e ∷ r) h = by (nat_eq (number e.statement) k) (separate-resume k r h.1.1)
  where
    by : (x : Bool) → Separate (resume k r) → Separate (cond x (enter (update_of e.statement) (e ∷ r)) (resume k r))
    by true g = updated e.statement e.turns r h
    by false g = g

module _ (s : Setup) (i : ℕ) where
  abbrev Stays : Item → Ask → Type 0
  Stays it a = (z : ℤ) → Separate (moved it a z).left

  value_stays : (it : Item) (o : Outcome) (go : Word → List Word → Ask) → Separate it.left → ((v : Word) (rest : List Word) → Stays it (go v rest)) → Stays it (on_value s i it o go)
  value_stays it (Gives v rest) go h k = k v rest
  value_stays it (Needs a x site) go h k = λ z. h
  value_stays it (Faults f site) go h k = λ z. h

  stores_stay : (it : Item) (a : Array) (site : Site) (k : Index) (z : ℤ) (r : List Entry) → Separate it.left → Separate r → Stays it (stores s i it a site k z r)
  stores_stay it a site (At k) z r h g = λ y. g
  stores_stay it a site Outside z r h g = λ y. h

  chosen : (b : Bool) (x y : List Entry) → Separate x → Separate y → Separate (choose b x y)
  chosen true x y h g = h
  chosen false x y h g = g

  act_stays : (it : Item) (st : Statement) (t : ℕ) (r : List Entry) → Separate it.left → Separate (record { statement = st; turns = t } ∷ r) → Stays it (act s i it st t r)
  act_stays it (Set n x e) t r g h = value_stays it (evaluate s i (trail it.left) e it.variables it.answers) _ g (λ v rest z. h.1.1)
  act_stays it (Store n a site k e) t r g h = value_stays it (evaluate s i (trail it.left) k it.variables it.answers) _ g (λ index later.
      value_stays it (evaluate s i (trail it.left) e it.variables later) _ g (λ v rest. stores_stay it a site (within (extent s a) index.value) v.value r g h.1.1))
  act_stays it (If n e taken skipped) t r g h = value_stays it (evaluate s i (trail it.left) e it.variables it.answers) _ g (λ v rest z. chosen (is_zero v.value) (enter skipped r) (enter taken r)
      (separate-enter skipped r h.0.1 (λ k q. h.1.0 k (or_right (have_loop k taken) (have_loop k skipped) q)) h.1.1)
      (separate-enter taken r h.0.0 (λ k q. h.1.0 k (or_left (have_loop k taken) (have_loop k skipped) q)) h.1.1))
  act_stays it (Loop n e b u) t r g h = value_stays it (evaluate s i (trail it.left) e it.variables it.answers) _ g (λ v rest z. chosen (is_zero v.value) r (enter b (enter u (record { statement = Loop n e b u; turns = t + 1 } ∷ r)))
      h.1.1 (separate-turn n e b u (t + 1) r h))
  act_stays it (Barrier n l f) t r g h = λ z. g
  act_stays it (Return n) t r g h = λ z. tt
  act_stays it (Break n k) t r g h = λ z. separate-leave k r h.1.1
  act_stays it (Continue n k) t r g h = λ z. separate-resume k r h.1.1

  front_stays : (it : Item) (left : List Entry) → Separate it.left → Separate left → Stays it (front s i it left)
  front_stays it [] g h = λ z. tt
  front_stays it (e ∷ r) g h = act_stays it e.statement e.turns r g h

  passes_stays : (it : Item) (left : List Entry) → Separate left → Stays it (passes it left)
  passes_stays it [] h = λ z. tt
  passes_stays it (e ∷ r) h = λ z. h.1.1

  status_stays : (it : Item) (st : Status) → Separate it.left → Stays it (by_status s i it st)
  status_stays it Running h = front_stays it it.left h h
  status_stays it Waiting h = passes_stays it it.left h
  status_stays it Ended h = λ z. h
  status_stays it (Stopped f site) h = λ z. h

  moves_stay : (it : Item) (z : ℤ) → Separate it.left → Separate (moved it (ask s i it) z).left
  unfolding ask
  moves_stay it z h = status_stays it it.status h z

  pub always_separate : AreFormed s.kernel.body → (ws : List ℤ) → Separate (after s i ws).left
  unfolding opening
  always_separate d [] = separate-enter s.kernel.body [] d (λ k q. refl) tt
  always_separate d (z ∷ ws) = moves_stay (after s i ws) z (always_separate d ws)
