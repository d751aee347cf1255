-- Each move keeps: what is done, and what is left costs, are together no more than the cost of the body.
use Rattle.std.proofs.Common.{◌≡◌, ℕ, ◌+◌, ◌≤◌, ◌<◌, ℤ, List, [], ◌∷◌, ◌++◌, length, Bool, true, false, arith, refl, sym, subst, slice_set}
use Rattle.std.proofs.lemmas.Bool.{and_parts}
use Rattle.std.proofs.lemmas.List.{length-append}
use Rattle.std.proofs.Math.Nat.{le-max_left, le-max_right}
use Rattle.semantics.specs.Word.{Word, OutOfBounds, is_zero}
use Rattle.semantics.specs.Core.{Site, Array, Term, Statement, Set, Store, If, Loop, Barrier, Return, Break, Continue, Statements}
use Rattle.semantics.specs.Setup.{Setup}
use Rattle.semantics.specs.Memory.{extent}
use Rattle.semantics.specs.Evaluation.{Outcome, Gives, Needs, Faults, evaluate, Index, At, Outside, within}
use Rattle.semantics.specs.Item.{Entry, Status, Running, Waiting, Ended, Stopped, Item, enter, status_of, finished, answered_by, stands, leave, resume}
use Rattle.semantics.specs.Ask.{Ask, Goes, on_value, stores, choose, act, front, passes, by_status, ask}
use Rattle.semantics.specs.Solo.{moved, opening, after}
use Rattle.loop_bounds.specs.Costs.{loads, statement_cost, cost}
use Rattle.rankings.specs.LoopFree.{is_loop_free_statement, is_loop_free}
use Rattle.rankings.proofs.TermLoads.{Uses, uses}
use Rattle.rankings.proofs.LoopFreeRemaining.{AreLoopFree, remaining, behind, loop_free-enter, remaining-enter, leave-part, resume-part}
use Rattle.semantics.specs.Item.{trail}

-- the loads of a statement's own terms
abbrev own_loads : Statement → ℕ
own_loads (Set n x e) = loads e
own_loads (Store n a site k e) = loads k + loads e
own_loads (If n e t f) = loads e
own_loads (Loop n e b u) = loads e
own_loads (Barrier n l g) = 0
own_loads (Return n) = 0
own_loads (Break n k) = 0
own_loads (Continue n k) = 0

-- so many answers are those of the statement in front
abbrev InFront : List Entry → ℕ → Type 0
InFront [] n = ⊥
InFront (e ∷ r) n = n ≤ own_loads e.statement

own_cost : (turns : ℕ → ℕ) (st : Statement) → is_loop_free_statement st ≡ true → 1 + own_loads st ≤ statement_cost turns st
own_cost turns (Set n x e) h = omega arith
own_cost turns (Store n a site k e) h = omega arith
own_cost turns (If n e t f) h = omega arith
own_cost turns (Loop n e b u) h = absurd cc
own_cost turns (Barrier n l g) h = omega arith
own_cost turns (Return n) h = omega arith
own_cost turns (Break n k) h = omega arith
own_cost turns (Continue n k) h = omega arith

module _ (s : Setup) (turns : ℕ → ℕ) (i most : ℕ) where
  -- what is done and what is left, together; the answers are steps that the statement in front has taken
  abbrev Holds : (left : List Entry) (answers steps : ℕ) → Status → Type 0
  Holds left n steps Running = InFront left n × (steps + remaining turns left ≤ most + n)
  Holds left n steps Waiting = steps + behind turns left ≤ most
  Holds left n steps Ended = steps ≤ most
  Holds left n steps (Stopped f site) = steps ≤ most

  abbrev pub Within : Item → Type 0
  Within it = AreLoopFree it.left × Holds it.left (length it.answers) it.steps it.status

  abbrev Keeps : Item → Ask → Type 0
  Keeps it a = (z : ℤ) → Within (moved it a z)

  begins : (left : List Entry) (steps : ℕ) → steps + remaining turns left ≤ most → Holds left 0 steps (status_of left)
  begins [] steps h = omega (arith, h)
  begins (e ∷ r) steps h = (omega arith, omega (arith, h))

  -- the item in front of a statement
  record Fronts (it : Item) (st : Statement) (t : ℕ) (r : List Entry) : Type 0 where
    runs : it.status ≡ Running
    left : it.left ≡ record { statement = st; turns = t } ∷ r
    first : is_loop_free_statement st ≡ true
    others : AreLoopFree r
    few : length it.answers ≤ own_loads st
    sum : it.steps + (statement_cost turns st + remaining turns r) ≤ most + length it.answers

  room : (it : Item) (st : Statement) (t : ℕ) (r : List Entry) → Fronts it st t r → it.steps + 1 + remaining turns r ≤ most
  room it st t r h = omega (arith, h.sum, h.few, own_cost turns st h.first)

  -- the statement in front is done
  done : (it : Item) (st : Statement) (t : ℕ) (r left : List Entry) (vars : List Word) → Fronts it st t r → AreLoopFree left → 1 + own_loads st + remaining turns left ≤ statement_cost turns st + remaining turns r → Keeps it (Goes (finished it left vars))
  done it st t r left vars h f c = λ z. (f, begins left (it.steps + 1) (omega (arith, h.sum, h.few, c)))

  stopped : (it : Item) (st : Statement) (t : ℕ) (r : List Entry) (f : _) (site : Site) → Fronts it st t r → Keeps it (Goes (stands it (Stopped f site)))
  stopped it st t r f site h = λ z. (subst AreLoopFree (sym h.left) (h.first, h.others), omega (arith, room it st t r h))

  -- one answer more
  asked : (it : Item) (st : Statement) (t : ℕ) (r : List Entry) (w : Word) → Fronts it st t r → length it.answers < own_loads st → Within (answered_by it w)
  asked it st t r w h q =
      let e : length (it.answers ++ w ∷ []) ≡ length it.answers + 1 = length-append it.answers (w ∷ []) in (
        subst AreLoopFree (sym h.left) (h.first, h.others),
        rw (h.runs, h.left, e) (omega (arith, q), omega (arith, h.sum)),
      )

  -- a term of the statement, behind others with so many loads
  value_keeps : (it : Item) (st : Statement) (t : ℕ) (r : List Entry) (before m : ℕ) (answers : List Word) (o : Outcome) (go : Word → List Word → Ask) → Fronts it st t r → length it.answers ≤ length answers + before → before + m ≤ own_loads st → Uses m (length answers) o
      → ((v : Word) (rest : List Word) → length it.answers ≤ length rest + (before + m) → Keeps it (go v rest)) → Keeps it (on_value s i it o go)
  value_keeps it st t r before m answers (Gives v rest) go h b l u k = k v rest (omega (arith, b, u))
  value_keeps it st t r before m answers (Needs a x site) go h b l u k = λ z. asked it st t r _ h (omega (arith, b, l, u))
  value_keeps it st t r before m answers (Faults f site) go h b l u k = stopped it st t r f site h

  stores_keep : (it : Item) (st : Statement) (t : ℕ) (r : List Entry) (a : Array) (site : Site) (k : Index) (z : ℤ) → Fronts it st t r → Keeps it (stores s i it a site k z r)
  stores_keep it st t r a site (At k) z h = λ y. (h.others, begins r (it.steps + 1) (room it st t r h))
  stores_keep it st t r a site Outside z h = stopped it st t r OutOfBounds site h

  branch : (it : Item) (n : ℕ) (e : Term) (taken skipped : Statements) (t : ℕ) (r : List Entry) (b : Bool) → Fronts it (If n e taken skipped) t r → Keeps it (Goes (finished it (choose b (enter skipped r) (enter taken r)) it.variables))
  branch it n e taken skipped t r b h =
      let p : (is_loop_free taken ≡ true) × (is_loop_free skipped ≡ true) = and_parts _ _ h.first in
      by b p
    where
      by : (b : Bool) → (is_loop_free taken ≡ true) × (is_loop_free skipped ≡ true) → Keeps it (Goes (finished it (choose b (enter skipped r) (enter taken r)) it.variables))
      by true p = done it (If n e taken skipped) t r (enter skipped r) it.variables h (loop_free-enter skipped r p.1 h.others) (omega (arith, remaining-enter turns skipped r, le-max_right (cost turns taken) (cost turns skipped)))
      by false p = done it (If n e taken skipped) t r (enter taken r) it.variables h (loop_free-enter taken r p.0 h.others) (omega (arith, remaining-enter turns taken r, le-max_left (cost turns taken) (cost turns skipped)))

  act_keeps : (it : Item) (st : Statement) (t : ℕ) (r : List Entry) → Fronts it st t r → Keeps it (act s i it st t r)
  act_keeps it (Set n x e) t r h = value_keeps it (Set n x e) t r 0 (loads e) it.answers (evaluate s i (trail it.left) e it.variables it.answers) (λ v _. Goes (finished it r (slice_set it.variables x v))) h (omega arith) (omega arith) (uses s i (trail it.left) e it.variables it.answers)
      (λ v rest l. done it (Set n x e) t r r (slice_set it.variables x v) h h.others (omega arith))
  act_keeps it (Store n a site k e) t r h =
      value_keeps it (Store n a site k e) t r 0 (loads k) it.answers (evaluate s i (trail it.left) k it.variables it.answers) (λ index later. on_value s i it (evaluate s i (trail it.left) e it.variables later) (λ v _. stores s i it a site (within (extent s a) index.value) v.value r)) h (omega arith) (omega arith) (uses s i (trail it.left) k it.variables it.answers)
      (λ index later l. value_keeps it (Store n a site k e) t r (loads k) (loads e) later (evaluate s i (trail it.left) e it.variables later) (λ v _. stores s i it a site (within (extent s a) index.value) v.value r) h (omega (arith, l)) (omega arith) (uses s i (trail it.left) e it.variables later)
      (λ v rest l'. stores_keep it (Store n a site k e) t r a site (within (extent s a) index.value) v.value h))
  act_keeps it (If n e taken skipped) t r h = value_keeps it (If n e taken skipped) t r 0 (loads e) it.answers (evaluate s i (trail it.left) e it.variables it.answers) (λ v _. Goes (finished it (choose (is_zero v.value) (enter skipped r) (enter taken r)) it.variables)) h (omega arith) (omega arith) (uses s i (trail it.left) e it.variables it.answers)
      (λ v rest l. branch it n e taken skipped t r (is_zero v.value) h)
  act_keeps it (Loop n e b u) t r h = let f : false ≡ true = h.first in absurd cc
  act_keeps it (Barrier n l g) t r h = λ z. (subst AreLoopFree (sym h.left) (h.first, h.others), rw h.left (omega (arith, room it (Barrier n l g) t r h)))
  act_keeps it (Return n) t r h = done it (Return n) t r [] it.variables h tt (omega arith)
  act_keeps it (Break n k) t r h = let p = leave-part turns k r h.others in done it (Break n k) t r (leave k r) it.variables h p.loop_free (omega (arith, p.costs))
  act_keeps it (Continue n k) t r h = let p = resume-part turns k r h.others in done it (Continue n k) t r (resume k r) it.variables h p.loop_free (omega (arith, p.costs))

  front_keeps : (it : Item) (left : List Entry) → it.status ≡ Running → it.left ≡ left → AreLoopFree left → InFront left (length it.answers) × (it.steps + remaining turns left ≤ most + length it.answers) → Keeps it (front s i it left)
  front_keeps it [] run e f h = absurd h.0
  front_keeps it (x ∷ r) run e f h = act_keeps it x.statement x.turns r (record { runs = run; left = e; first = f.0; others = f.1; few = h.0; sum = h.1 })

  passes_keeps : (it : Item) (left : List Entry) → AreLoopFree left → it.steps + behind turns left ≤ most → Keeps it (passes it left)
  passes_keeps it [] f h = λ z. (tt, omega (arith, h))
  passes_keeps it (x ∷ r) f h = λ z. (f.1, begins r it.steps h)

  by_status_keeps : (it : Item) (st : Status) → it.status ≡ st → AreLoopFree it.left → Holds it.left (length it.answers) it.steps st → Keeps it (by_status s i it st)
  by_status_keeps it Running e f h = front_keeps it it.left e refl f h
  by_status_keeps it Waiting e f h = passes_keeps it it.left f h
  by_status_keeps it Ended e f h = λ z. (f, rw e h)
  by_status_keeps it (Stopped x site) e f h = λ z. (f, rw e h)

  moves_keep : (it : Item) (z : ℤ) → Within it → Within (moved it (ask s i it) z)
  unfolding ask
  moves_keep it z h = by_status_keeps it it.status refl h.0 h.1 z

  no_more : (left : List Entry) (n steps : ℕ) (st : Status) → AreLoopFree left → Holds left n steps st → steps ≤ most
  no_more [] n steps Running f h = absurd h.0
  no_more (e ∷ r) n steps Running f h = omega (arith, h.0, h.1, own_cost turns e.statement f.0)
  no_more left n steps Waiting f h = omega (arith, h)
  no_more left n steps Ended f h = h
  no_more left n steps (Stopped x site) f h = h

module _ (s : Setup) (turns : ℕ → ℕ) (free : is_loop_free s.kernel.body ≡ true) (i : ℕ) where
  kept : (ws : List ℤ) → Within s turns i (cost turns s.kernel.body) (after s i ws)
  unfolding opening
  kept [] =
      (loop_free-enter s.kernel.body [] free tt, begins s turns i (cost turns s.kernel.body) (enter s.kernel.body []) 0 (omega (arith, remaining-enter turns s.kernel.body [])))
  kept (z ∷ ws) = moves_keep s turns i (cost turns s.kernel.body) (after s i ws) z (kept ws)

pub within_the_cost : (s : Setup) (turns : ℕ → ℕ) → is_loop_free s.kernel.body ≡ true → (i : ℕ) (ws : List ℤ) → (after s i ws).steps ≤ cost turns s.kernel.body
within_the_cost s turns free i ws =
    let it = after s i ws in
    let h = kept s turns free i ws in
    no_more s turns i (cost turns s.kernel.body) it.left (length it.answers) it.steps it.status h.0 h.1
