-- What every step of an item keeps and changes, whatever its statement.
use Rattle.std.proofs.Common.{◌≡◌, ℕ, ◌+◌, ℤ, List, [], ◌∷◌, get_or, refl, sym, add-zero, slice_set}
use Rattle.semantics.specs.Word.{Word, is_zero}
use Rattle.semantics.specs.Core.{Site, Array, Statement, Set, Store, If, Loop, Barrier, Return, Break, Continue}
use Rattle.semantics.specs.Setup.{Setup}
use Rattle.semantics.specs.Memory.{extent}
use Rattle.semantics.specs.Evaluation.{Outcome, Gives, Needs, Faults, evaluate, Index, At, Outside, within}
use Rattle.semantics.specs.Item.{Entry, Status, Running, Waiting, Ended, Stopped, Item, trail, status_of, enter, finished}
use Rattle.semantics.specs.Ask.{Ask, Loads, Stores, Goes, Waits, Rests, on_value, stores, choose, act, front, passes, by_status, ask}
use Rattle.semantics.specs.Solo.{is_waiting}

-- a step that counts
pub record Next (it new : Item) : Type 0 where
  pub was : it.status ≡ Running
  pub steps : new.steps ≡ it.steps + 1
  pub local : new.local_epoch ≡ it.local_epoch
  pub global : new.global_epoch ≡ it.global_epoch

-- the passing of a barrier
pub record Passed (it new : Item) : Type 0 where
  pub was : it.status ≡ Waiting
  pub steps : new.steps ≡ it.steps
  pub local : new.local_epoch ≡ it.local_epoch + get_or (trail it.left) 2 0
  pub global : new.global_epoch ≡ it.global_epoch + get_or (trail it.left) 3 0
  pub goes : is_waiting new.status ≡ 0

abbrev pub Over : Status → Type 0
Over Running = ⊥
Over Waiting = ⊥
Over Ended = Unit {0}
Over (Stopped f site) = Unit {0}

abbrev pub Fair : Item → Ask → Type 0
Fair it (Loads at kind site) = it.status ≡ Running
Fair it (Stores at site value next) = Next it next
Fair it (Goes next) = Next it next
Fair it (Waits next) = Passed it next
Fair it Rests = Over it.status

on_value-fair : (s : Setup) (i : ℕ) (it : Item) (o : Outcome) (go : Word → List Word → Ask) → it.status ≡ Running → ((w : Word) (r : List Word) → Fair it (go w r)) → Fair it (on_value s i it o go)
on_value-fair s i it (Gives v rest) go h k = k v rest
on_value-fair s i it (Needs a index site) go h k = h
on_value-fair s i it (Faults f site) go h k = record { was = h; steps = refl; local = refl; global = refl }

stores-fair : (s : Setup) (i : ℕ) (it : Item) (a : Array) (site : Site) (k : Index) (z : ℤ) (rest : List Entry) → it.status ≡ Running → Fair it (stores s i it a site k z rest)
stores-fair s i it a site (At k) z rest h = record { was = h; steps = refl; local = refl; global = refl }
stores-fair s i it a site Outside z rest h = record { was = h; steps = refl; local = refl; global = refl }

act-fair : (s : Setup) (i : ℕ) (it : Item) (st : Statement) (turns : ℕ) (rest : List Entry) → it.status ≡ Running → Fair it (act s i it st turns rest)
act-fair s i it (Set n x e) turns rest h =
    on_value-fair s i it (evaluate s i (trail it.left) e it.variables it.answers) (λ v _. Goes (finished it rest (slice_set it.variables x v))) h (λ w r. record { was = h; steps = refl; local = refl; global = refl })
act-fair s i it (Store n a site k e) turns rest h =
    on_value-fair s i it (evaluate s i (trail it.left) k it.variables it.answers)
    (λ index later. on_value s i it (evaluate s i (trail it.left) e it.variables later) (λ v _. stores s i it a site (within (extent s a) index.value) v.value rest)) h
    (λ index later. on_value-fair s i it (evaluate s i (trail it.left) e it.variables later) (λ v _. stores s i it a site (within (extent s a) index.value) v.value rest) h
    (λ v r. stores-fair s i it a site (within (extent s a) index.value) v.value rest h))
act-fair s i it (If n e t f) turns rest h =
    on_value-fair s i it (evaluate s i (trail it.left) e it.variables it.answers) (λ v _. Goes (finished it (choose (is_zero v.value) (enter f rest) (enter t rest)) it.variables)) h (λ w r. record { was = h; steps = refl; local = refl; global = refl })
act-fair s i it (Loop n e b u) turns rest h =
    on_value-fair s i it (evaluate s i (trail it.left) e it.variables it.answers) (λ v _. Goes (finished it (choose (is_zero v.value) rest (enter b (enter u (record { statement = Loop n e b u; turns = turns + 1 } ∷ rest)))) it.variables)) h (λ w r. record { was = h; steps = refl; local = refl; global = refl })
act-fair s i it (Barrier n l g) turns rest h = record { was = h; steps = refl; local = refl; global = refl }
act-fair s i it (Return n) turns rest h = record { was = h; steps = refl; local = refl; global = refl }
act-fair s i it (Break n k) turns rest h = record { was = h; steps = refl; local = refl; global = refl }
act-fair s i it (Continue n k) turns rest h = record { was = h; steps = refl; local = refl; global = refl }

front-fair : (s : Setup) (i : ℕ) (it : Item) (left : List Entry) → it.status ≡ Running → Fair it (front s i it left)
front-fair s i it [] h = record { was = h; steps = refl; local = refl; global = refl }
front-fair s i it (e ∷ rest) h = act-fair s i it e.statement e.turns rest h

pub not_waiting : (left : List Entry) → is_waiting (status_of left) ≡ 0
not_waiting [] = refl
not_waiting (e ∷ rest) = refl

passes-fair : (it : Item) (left : List Entry) → it.status ≡ Waiting → it.left ≡ left → Fair it (passes it left)
passes-fair it [] h e = record { was = h; steps = refl; local = rw e (sym (add-zero it.local_epoch)); global = rw e (sym (add-zero it.global_epoch)); goes = refl }
passes-fair it (x ∷ rest) h e = record { was = h; steps = refl; local = rw e refl; global = rw e refl; goes = not_waiting rest }

by_status-fair : (s : Setup) (i : ℕ) (it : Item) (st : Status) → it.status ≡ st → Fair it (by_status s i it st)
by_status-fair s i it Running h = front-fair s i it it.left h
by_status-fair s i it Waiting h = passes-fair it it.left h refl
by_status-fair s i it Ended h = rw h tt
by_status-fair s i it (Stopped f site) h = rw h tt

pub ask-fair : (s : Setup) (i : ℕ) (it : Item) → Fair it (ask s i it)
unfolding ask
ask-fair s i it = by_status-fair s i it it.status refl

pub over-not_waiting : (st : Status) → Over st → is_waiting st ≡ 0
over-not_waiting Running h = elim h [ ]
over-not_waiting Waiting h = elim h [ ]
over-not_waiting Ended h = refl
over-not_waiting (Stopped f site) h = refl
