-- What is left of an item stays reckoned in each of its steps, on any machine.
use Rattle.std.proofs.Common.{◌≡◌, ℕ, ◌+◌, ℤ, List, [], ◌∷◌, Bool, true, false, cond, ◌&&◌, refl, slice_set, nat_eq}
use Rattle.std.proofs.lemmas.Bool.{and_parts}
use Rattle.semantics.specs.Word.{Word, is_zero}
use Rattle.semantics.specs.Core.{Site, Array, Statement, Set, Store, If, Loop, Barrier, Return, Break, Continue, Statements, none, one, number}
use Rattle.semantics.specs.Machines.{is_reckoned_term, is_reckoned_statement, are_reckoned}
use Rattle.semantics.specs.Setup.{Setup}
use Rattle.semantics.specs.Memory.{extent}
use Rattle.semantics.specs.Evaluation.{Outcome, Gives, Needs, Faults, evaluate, Index, At, Outside, within}
use Rattle.semantics.specs.Item.{Entry, Status, Running, Waiting, Ended, Stopped, Item, enter, finished, leave, update_of, resume, trail}
use Rattle.semantics.specs.Ask.{Ask, Loads, Stores, Goes, Waits, Rests, on_value, stores, choose, act, front, passes, by_status, ask}
use Rattle.semantics.specs.Solo.{moved}

-- each statement that is left is a reckoned one
abbrev pub Reckoned : List Entry → Type 0
Reckoned [] = Unit {0}
Reckoned (e ∷ rest) = (is_reckoned_statement e.statement ≡ true) × Reckoned rest

-- and it stays so after the step; a load leaves all as it is
abbrev pub Keeps : Ask → Type 0
Keeps (Loads at kind site) = Unit {0}
Keeps (Stores at site value next) = Reckoned next.left
Keeps (Goes next) = Reckoned next.left
Keeps (Waits next) = Reckoned next.left
Keeps Rests = Unit {0}

pub enter-keeps : (ss : Statements) (rest : List Entry) → are_reckoned ss ≡ true → Reckoned rest → Reckoned (enter ss rest)
enter-keeps none rest h r = r
enter-keeps (one x ss) rest h r = let p = and_parts (is_reckoned_statement x) (are_reckoned ss) h in (p.0, enter-keeps ss rest p.1 r)

choose-keeps : (b : Bool) (l r : List Entry) → Reckoned l → Reckoned r → Reckoned (choose b l r)
choose-keeps true l r h k = h
choose-keeps false l r h k = k

cond-keeps : (b : Bool) (l r : List Entry) → Reckoned l → Reckoned r → Reckoned (cond b l r)
cond-keeps true l r h k = h
cond-keeps false l r h k = k

leave-keeps : (loop : ℕ) (left : List Entry) → Reckoned left → Reckoned (leave loop left)
leave-keeps loop [] h = tt
leave-keeps loop (e ∷ rest) h = cond-keeps (nat_eq (number e.statement) loop) rest (leave loop rest) h.1 (leave-keeps loop rest h.1)

update-keeps : (x : Statement) → is_reckoned_statement x ≡ true → are_reckoned (update_of x) ≡ true
update-keeps (Set n x e) h = refl
update-keeps (Store n a site k e) h = refl
update-keeps (If n e t f) h = refl
update-keeps (Loop n e b u) h = (and_parts (are_reckoned b) (are_reckoned u) (and_parts (is_reckoned_term e) (are_reckoned b && are_reckoned u) h).1).1
update-keeps (Barrier n l g) h = refl
update-keeps (Return n) h = refl
update-keeps (Break n k) h = refl
update-keeps (Continue n k) h = refl

resume-keeps : (loop : ℕ) (left : List Entry) → Reckoned left → Reckoned (resume loop left)
resume-keeps loop [] h = tt
resume-keeps loop (e ∷ rest) h =
    cond-keeps (nat_eq (number e.statement) loop) (enter (update_of e.statement) (e ∷ rest)) (resume loop rest) (enter-keeps (update_of e.statement) (e ∷ rest) (update-keeps e.statement h.0) h) (resume-keeps loop rest h.1)

module _ (s : Setup) (i : ℕ) (it : Item) (here : Reckoned it.left) where
  on_value-keeps : (o : Outcome) (go : Word → List Word → Ask) → ((v : Word) (r : List Word) → Keeps (go v r)) → Keeps (on_value s i it o go)
  on_value-keeps (Gives v r) go k = k v r
  on_value-keeps (Needs a n site) go k = tt
  on_value-keeps (Faults f site) go k = here

  stores-keeps : (a : Array) (site : Site) (k : Index) (z : ℤ) (rest : List Entry) → Reckoned rest → Keeps (stores s i it a site k z rest)
  stores-keeps a site (At k) z rest r = r
  stores-keeps a site Outside z rest r = here

  act-keeps : (st : Statement) (turns : ℕ) (rest : List Entry) → is_reckoned_statement st ≡ true → Reckoned rest → Keeps (act s i it st turns rest)
  act-keeps (Set n x e) turns rest h r = on_value-keeps (evaluate s i (trail it.left) e it.variables it.answers) (λ v _. Goes (finished it rest (slice_set it.variables x v))) (λ v _. r)
  act-keeps (Store n a site k e) turns rest h r =
      on_value-keeps (evaluate s i (trail it.left) k it.variables it.answers)
      (λ index later. on_value s i it (evaluate s i (trail it.left) e it.variables later) (λ v _. stores s i it a site (within (extent s a) index.value) v.value rest))
      (λ index later. on_value-keeps (evaluate s i (trail it.left) e it.variables later) (λ v _. stores s i it a site (within (extent s a) index.value) v.value rest)
      (λ v _. stores-keeps a site (within (extent s a) index.value) v.value rest r))
  act-keeps (If n e t f) turns rest h r =
      let p = and_parts (is_reckoned_term e) (are_reckoned t && are_reckoned f) h in
      let q = and_parts (are_reckoned t) (are_reckoned f) p.1 in
      on_value-keeps (evaluate s i (trail it.left) e it.variables it.answers) (λ v _. Goes (finished it (choose (is_zero v.value) (enter f rest) (enter t rest)) it.variables))
      (λ v _. choose-keeps (is_zero v.value) (enter f rest) (enter t rest) (enter-keeps f rest q.1 r) (enter-keeps t rest q.0 r))
  act-keeps (Loop n e b u) turns rest h r =
      let p = and_parts (is_reckoned_term e) (are_reckoned b && are_reckoned u) h in
      let q = and_parts (are_reckoned b) (are_reckoned u) p.1 in
      let again : List Entry = record { statement = Loop n e b u; turns = turns + 1 } ∷ rest in
      on_value-keeps (evaluate s i (trail it.left) e it.variables it.answers) (λ v _. Goes (finished it (choose (is_zero v.value) rest (enter b (enter u again))) it.variables))
      (λ v _. choose-keeps (is_zero v.value) rest (enter b (enter u again)) r (enter-keeps b (enter u again) q.0 (enter-keeps u again q.1 (h, r))))
  act-keeps (Barrier n l g) turns rest h r = here
  act-keeps (Return n) turns rest h r = tt
  act-keeps (Break n k) turns rest h r = leave-keeps k rest r
  act-keeps (Continue n k) turns rest h r = resume-keeps k rest r

  front-keeps : (left : List Entry) → Reckoned left → Keeps (front s i it left)
  front-keeps [] r = tt
  front-keeps (e ∷ rest) r = act-keeps e.statement e.turns rest r.0 r.1

  passes-keeps : (left : List Entry) → Reckoned left → Keeps (passes it left)
  passes-keeps [] r = tt
  passes-keeps (e ∷ rest) r = r.1

  status-keeps : (st : Status) → Keeps (by_status s i it st)
  status-keeps Running = front-keeps it.left here
  status-keeps Waiting = passes-keeps it.left here
  status-keeps Ended = tt
  status-keeps (Stopped f site) = tt

  pub ask-keeps : Keeps (ask s i it)
  unfolding ask
  ask-keeps = status-keeps it.status

pub moved-keeps : (it : Item) (k : Ask) (z : ℤ) → Reckoned it.left → Keeps k → Reckoned (moved it k z).left
moved-keeps it (Loads at kind site) z here h = here
moved-keeps it (Stores at site value next) z here h = h
moved-keeps it (Goes next) z here h = h
moved-keeps it (Waits next) z here h = h
moved-keeps it Rests z here h = here
