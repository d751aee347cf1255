-- Each move keeps: what is done, and what is left costs, are together no more than the cost of the body.
use Rattle.std.proofs.Common.{◌≡◌, ℕ, ◌+◌, ◌≤◌, ◌<◌, ℤ, List, [], ◌∷◌, ◌++◌, length, Bool, true, false, arith, refl, sym, subst, slice_set, eq-eqb}
use Rattle.std.specs.Prelude.{pos}
use Rattle.std.proofs.lemmas.List.{length-append}
use Rattle.std.proofs.Math.Nat.{le-max_left, le-max_right}
use Rattle.semantics.specs.Word.{Word, OutOfBounds, is_zero}
use Rattle.semantics.specs.Core.{Site, Array, Term, Statement, Set, Store, If, Loop, Barrier, Return, Break, Continue, Statements}
use Rattle.semantics.specs.Setup.{Setup}
use Rattle.semantics.specs.Memory.{extent}
use Rattle.semantics.specs.Evaluation.{Outcome, Gives, Needs, Faults, evaluate, Index, At, Outside, within}
use Rattle.semantics.specs.Item.{Entry, Status, Running, Waiting, Ended, Stopped, Item, enter, status_of, finished, answered_by, stands, leave, resume}
use Rattle.semantics.specs.Ask.{Ask, Goes, on_value, stores, choose, act}
use Rattle.semantics.specs.Solo.{moved}
use Rattle.loop_bounds.specs.Costs.{loads, cost}
use Rattle.rankings.proofs.TermLoads.{Uses, uses}
use Rattle.arrivals.specs.Points.{IsFormed}
use Rattle.arrivals.proofs.Tests.{or_left, or_right}
use Rattle.arrivals.proofs.Controlled.{Separate}
use Rattle.rankings.specs.Within.{was_stopped, AreWithin}
use Rattle.rankings.proofs.Bounded.{within-behind, goes_on}
use Rattle.rankings.proofs.Remaining.{entry_cost, remaining, behind, remaining-enter, turn_cost, test_cost, leave-less}
use Rattle.rankings.proofs.Ready.{Ready, ready-enter, ready-turn, ready-leave, ready-resume}
use Rattle.semantics.specs.Item.{trail}

-- the loads of a statement's own terms
abbrev pub own_loads : Statement → ℕ
own_loads (Set n x e) = loads e
own_loads (Store n a site k e) = loads k + loads e
own_loads (If n e t f) = loads e
own_loads (Loop n e b u) = loads e
own_loads (Barrier n l g) = 0
own_loads (Return n) = 0
own_loads (Break n k) = 0
own_loads (Continue n k) = 0

-- so many answers are those of the statement in front
abbrev pub InFront : List Entry → ℕ → Type 0
InFront [] n = ⊥
InFront (e ∷ r) n = n ≤ own_loads e.statement

pub own_cost : (turns : ℕ → ℕ) (st : Statement) (t : ℕ) → 1 + own_loads st ≤ entry_cost turns st t
own_cost turns (Set n x e) t = omega arith
own_cost turns (Store n a site k e) t = omega arith
own_cost turns (If n e yeses noes) t = omega arith
own_cost turns (Loop n e b u) t = test_cost turns n e b u t
own_cost turns (Barrier n l g) t = omega arith
own_cost turns (Return n) t = omega arith
own_cost turns (Break n k) t = omega arith
own_cost turns (Continue n k) t = omega arith

module _ (s : Setup) (turns : ℕ → ℕ) (i most : ℕ) where
  -- what is done and what is left, together; the answers are steps that the statement in front has taken
  abbrev pub Holds : (left : List Entry) (answers steps : ℕ) → Status → Type 0
  Holds left n steps Running = InFront left n × (steps + remaining turns left ≤ most + n)
  Holds left n steps Waiting = steps + behind turns left ≤ most
  Holds left n steps Ended = steps ≤ most
  Holds left n steps (Stopped f site) = steps ≤ most

  abbrev pub Within : Item → Type 0
  Within it = Ready turns it.left × Holds it.left (length it.answers) it.steps it.status

  abbrev pub Keeps : Item → Ask → Type 0
  Keeps it a = (z : ℤ) → Within (moved it a z)

  -- no loop turns too often by the move
  abbrev pub Heeds : Item → Ask → Type 0
  Heeds it a = (z : ℤ) → was_stopped (moved it a z).status ≡ false → AreWithin turns (moved it a z).left

  pub begins : (left : List Entry) (steps : ℕ) → steps + remaining turns left ≤ most → Holds left 0 steps (status_of left)
  begins [] steps h = omega (arith, h)
  begins (e ∷ r) steps h = (omega arith, omega (arith, h))

  -- the item in front of a statement
  pub record Fronts (it : Item) (st : Statement) (t : ℕ) (r : List Entry) : Type 0 where
    pub runs : it.status ≡ Running
    pub left : it.left ≡ record { statement = st; turns = t } ∷ r
    pub formed : IsFormed st
    pub separate : Separate r
    pub ready : Ready turns (record { statement = st; turns = t } ∷ r)
    pub few : length it.answers ≤ own_loads st
    pub sum : it.steps + (entry_cost turns st t + remaining turns r) ≤ most + length it.answers

  room : (it : Item) (st : Statement) (t : ℕ) (r : List Entry) → Fronts it st t r → it.steps + 1 + remaining turns r ≤ most
  room it st t r h = omega (arith, h.sum, h.few, own_cost turns st t)

  -- the statement in front is done
  done : (it : Item) (st : Statement) (t : ℕ) (r left : List Entry) (vars : List Word) → Fronts it st t r → Ready turns left → 1 + own_loads st + remaining turns left ≤ entry_cost turns st t + remaining turns r → Keeps it (Goes (finished it left vars))
  done it st t r left vars h f c = λ z. (f, begins left (it.steps + 1) (omega (arith, h.sum, h.few, c)))

  -- and what is left costs no more than what was behind it
  passed : (it : Item) (st : Statement) (t : ℕ) (r left : List Entry) (vars : List Word) → Fronts it st t r → Ready turns left → remaining turns left ≤ remaining turns r → Keeps it (Goes (finished it left vars))
  passed it st t r left vars h f c = done it st t r left vars h f (omega (arith, c, own_cost turns st t))

  stopped : (it : Item) (st : Statement) (t : ℕ) (r : List Entry) (f : _) (site : Site) → Fronts it st t r → Keeps it (Goes (stands it (Stopped f site)))
  stopped it st t r f site h = λ z. (subst (Ready turns) (sym h.left) h.ready, omega (arith, room it st t r h))

  -- one answer more
  asked : (it : Item) (st : Statement) (t : ℕ) (r : List Entry) (w : Word) → Fronts it st t r → length it.answers < own_loads st → Within (answered_by it w)
  asked it st t r w h q =
      let e : length (it.answers ++ w ∷ []) ≡ length it.answers + 1 = length-append it.answers (w ∷ []) in (
        subst (Ready turns) (sym h.left) h.ready,
        rw (h.runs, h.left, e) (omega (arith, q), omega (arith, h.sum)),
      )

  -- a term of the statement, behind others with so many loads
  value_keeps : (it : Item) (st : Statement) (t : ℕ) (r : List Entry) (before m : ℕ) (answers : List Word) (o : Outcome) (go : Word → List Word → Ask) → Fronts it st t r → length it.answers ≤ length answers + before → before + m ≤ own_loads st → Uses m (length answers) o
      → ((v : Word) (rest : List Word) → length it.answers ≤ length rest + (before + m) → Heeds it (go v rest) → Keeps it (go v rest)) → Heeds it (on_value s i it o go) → Keeps it (on_value s i it o go)
  value_keeps it st t r before m answers (Gives v rest) go h b l u k q = k v rest (omega (arith, b, u)) q
  value_keeps it st t r before m answers (Needs a x site) go h b l u k q = λ z. asked it st t r _ h (omega (arith, b, l, u))
  value_keeps it st t r before m answers (Faults f site) go h b l u k q = stopped it st t r f site h

  stores_keep : (it : Item) (st : Statement) (t : ℕ) (r : List Entry) (a : Array) (site : Site) (k : Index) (z : ℤ) → Fronts it st t r → Keeps it (stores s i it a site k z r)
  stores_keep it st t r a site (At k) z h = λ y. (h.ready.1, begins r (it.steps + 1) (room it st t r h))
  stores_keep it st t r a site Outside z h = stopped it st t r OutOfBounds site h

  branch : (it : Item) (n : ℕ) (e : Term) (taken skipped : Statements) (t : ℕ) (r : List Entry) (b : Bool) → Fronts it (If n e taken skipped) t r → Keeps it (Goes (finished it (choose b (enter skipped r) (enter taken r)) it.variables))
  branch it n e taken skipped t r true h =
      done it (If n e taken skipped) t r (enter skipped r) it.variables h (ready-enter turns skipped r h.formed.1 (λ k j. h.ready.0 k (or_right _ _ j)) h.ready.1) (omega (arith, remaining-enter turns skipped r, le-max_right (cost turns taken) (cost turns skipped)))
  branch it n e taken skipped t r false h =
      done it (If n e taken skipped) t r (enter taken r) it.variables h (ready-enter turns taken r h.formed.0 (λ k j. h.ready.0 k (or_left _ _ j)) h.ready.1) (omega (arith, remaining-enter turns taken r, le-max_left (cost turns taken) (cost turns skipped)))

  -- a loop's test; where it is true there was a turn left
  module _ (it : Item) (n : ℕ) (e : Term) (b u : Statements) (t : ℕ) (r : List Entry) where
    abbrev again : List Entry
    again = record { statement = Loop n e b u; turns = t + 1 } ∷ r

    turned : Fronts it (Loop n e b u) t r → t + 1 ≤ turns n → Keeps it (Goes (finished it (enter b (enter u again)) it.variables))
    turned h q = done it (Loop n e b u) t r (enter b (enter u again)) it.variables h (ready-turn turns n e b u (t + 1) r h.formed h.ready.1) (omega (arith, turn_cost turns n e b u t q, remaining-enter turns b (enter u again), remaining-enter turns u again))

    tested : (x : Bool) → Fronts it (Loop n e b u) t r → Heeds it (Goes (finished it (choose x r (enter b (enter u again))) it.variables)) → Keeps it (Goes (finished it (choose x r (enter b (enter u again))) it.variables))
    tested true h q = passed it (Loop n e b u) t r r it.variables h h.ready.1 (omega arith)
    tested false h q = turned h (within-behind turns u again (within-behind turns b (enter u again) (q (pos 0) (goes_on (enter b (enter u again)))))).0

  pub act_keeps : (it : Item) (st : Statement) (t : ℕ) (r : List Entry) → Fronts it st t r → Heeds it (act s i it st t r) → Keeps it (act s i it st t r)
  act_keeps it (Set n x e) t r h = value_keeps it (Set n x e) t r 0 (loads e) it.answers (evaluate s i (trail it.left) e it.variables it.answers) (λ v _. Goes (finished it r (slice_set it.variables x v))) h (omega arith) (omega arith) (uses s i (trail it.left) e it.variables it.answers)
      (λ v rest l q. passed it (Set n x e) t r r (slice_set it.variables x v) h h.ready.1 (omega arith))
  act_keeps it (Store n a site k e) t r h =
      value_keeps it (Store n a site k e) t r 0 (loads k) it.answers (evaluate s i (trail it.left) k it.variables it.answers) (λ index later. on_value s i it (evaluate s i (trail it.left) e it.variables later) (λ v _. stores s i it a site (within (extent s a) index.value) v.value r)) h (omega arith) (omega arith) (uses s i (trail it.left) k it.variables it.answers)
      (λ index later l. value_keeps it (Store n a site k e) t r (loads k) (loads e) later (evaluate s i (trail it.left) e it.variables later) (λ v _. stores s i it a site (within (extent s a) index.value) v.value r) h (omega (arith, l)) (omega arith) (uses s i (trail it.left) e it.variables later)
      (λ v rest l' q. stores_keep it (Store n a site k e) t r a site (within (extent s a) index.value) v.value h))
  act_keeps it (If n e taken skipped) t r h = value_keeps it (If n e taken skipped) t r 0 (loads e) it.answers (evaluate s i (trail it.left) e it.variables it.answers) (λ v _. Goes (finished it (choose (is_zero v.value) (enter skipped r) (enter taken r)) it.variables)) h (omega arith) (omega arith) (uses s i (trail it.left) e it.variables it.answers)
      (λ v rest l q. branch it n e taken skipped t r (is_zero v.value) h)
  act_keeps it (Loop n e b u) t r h = value_keeps it (Loop n e b u) t r 0 (loads e) it.answers (evaluate s i (trail it.left) e it.variables it.answers) (λ v _. Goes (finished it (choose (is_zero v.value) r (enter b (enter u (again it n e b u t r)))) it.variables)) h (omega arith) (omega arith) (uses s i (trail it.left) e it.variables it.answers)
      (λ v rest l q. tested it n e b u t r (is_zero v.value) h q)
  act_keeps it (Barrier n l g) t r h = λ q z. (subst (Ready turns) (sym h.left) h.ready, rw h.left (omega (arith, room it (Barrier n l g) t r h)))
  act_keeps it (Return n) t r h = λ q. passed it (Return n) t r [] it.variables h tt (omega arith)
  act_keeps it (Break n k) t r h = λ q. passed it (Break n k) t r (leave k r) it.variables h (ready-leave turns k r h.ready.1) (leave-less turns k r)
  act_keeps it (Continue n k) t r h = λ q. passed it (Continue n k) t r (resume k r) it.variables h (ready-resume turns k r h.separate h.ready.1) (h.ready.0 k (eq-eqb k k refl))
