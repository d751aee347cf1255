-- An item of which all that is left is reckoned asks for the same on each machine.
use Rattle.std.proofs.Common.{◌≡◌, ℕ, zero, suc, ℤ, List, [], ◌∷◌, true, ◌&&◌, refl, ap, ◌∙◌}
use Rattle.std.proofs.lemmas.Bool.{and_parts}
use Rattle.semantics.specs.Word.{Word, as_kind}
use Rattle.semantics.specs.Core.{Site, Array, Space, Global, Local, Term, Statement, Set, Store, If, Loop, Barrier, Return, Break, Continue}
use Rattle.semantics.specs.Launch.{Machine}
use Rattle.semantics.specs.Machines.{is_reckoned_term, is_reckoned_statement, are_reckoned, with_machine}
use Rattle.semantics.specs.Setup.{Setup, group_size}
use Rattle.semantics.specs.Memory.{cell, owner_of, extent_in, kind_in}
use Rattle.semantics.specs.Evaluation.{Outcome, Gives, Needs, Faults, evaluate, Index, At, Outside, within}
use Rattle.semantics.specs.Item.{Entry, Status, Running, Waiting, Ended, Stopped, Item, finished, trail}
use Rattle.semantics.specs.Ask.{Ask, Loads, Stores, loads, on_value, writes, stores, act, front, by_status, ask}
use Rattle.semantics.proofs.Machineless.{reckoned-on}
use Rattle.reckoned_runs.proofs.Lefts.{Reckoned}

module _ (m n : Machine) (s : Setup) where
  abbrev here : Setup
  here = with_machine m s

  abbrev there : Setup
  there = with_machine n s

  owner-on : (i : ℕ) (p : Space) → owner_of here i p ≡ owner_of there i p
  unfolding group_size
  owner-on i Global = refl
  owner-on i Local = refl

  cell-on : (i : ℕ) (a : Array) (k : ℕ) → cell here i a k ≡ cell there i a k
  cell-on i a k = ap (λ (o : ℕ). record { owner = o; array = a.number; index = k }) (owner-on i a.space)

  kind-on : (o a : ℕ) → kind_in here o a ≡ kind_in there o a
  kind-on zero a = refl
  kind-on (suc g) a = refl

  extent-on : (p : Space) (a : ℕ) → extent_in here p a ≡ extent_in there p a
  extent-on Global a = refl
  extent-on Local a = refl

  loads-on : (i : ℕ) (a : Array) (k : ℕ) (site : Site) → loads here (cell here i a k) site ≡ loads there (cell there i a k) site
  loads-on i a k site = ap (λ c. loads here c site) (cell-on i a k) ∙ ap (λ q. Loads (cell there i a k) q site) (kind-on (cell there i a k).owner a.number)

  writes-on : (i : ℕ) (a : Array) (k : ℕ) (site : Site) (z : ℤ) (next : Item) → writes here (cell here i a k) site z next ≡ writes there (cell there i a k) site z next
  writes-on i a k site z next =
      ap (λ c. writes here c site z next) (cell-on i a k) ∙ ap (λ q. Stores (cell there i a k) site (as_kind q z) next) (kind-on (cell there i a k).owner a.number)

  stores-on : (i : ℕ) (it : Item) (a : Array) (site : Site) (k : Index) (z : ℤ) (rest : List Entry) → stores here i it a site k z rest ≡ stores there i it a site k z rest
  stores-on i it a site (At k) z rest = writes-on i a k site z (finished it rest it.variables)
  stores-on i it a site Outside z rest = refl

  module _ (i : ℕ) (it : Item) where
    on_value-on : (o o' : Outcome) (go go' : Word → List Word → Ask) → o ≡ o' → ((v : Word) (r : List Word) → go v r ≡ go' v r) → on_value here i it o go ≡ on_value there i it o' go'
    on_value-on (Gives v r) o' go go' e h = h v r ∙ ap (λ x. on_value there i it x go') e
    on_value-on (Needs a k site) o' go go' e h = loads-on i a k site ∙ ap (λ x. on_value there i it x go') e
    on_value-on (Faults f site) o' go go' e h = ap (λ x. on_value there i it x go') e

    evaluate-on : (e : Term) (answers : List Word) → is_reckoned_term e ≡ true → evaluate here i (trail it.left) e it.variables answers ≡ evaluate there i (trail it.left) e it.variables answers
    evaluate-on e answers h = reckoned-on m n s i (trail it.left) (trail it.left) e it.variables answers h

    act-on : (st : Statement) (turns : ℕ) (rest : List Entry) → is_reckoned_statement st ≡ true → act here i it st turns rest ≡ act there i it st turns rest
    act-on (Set k x e) turns rest h = on_value-on _ _ _ _ (evaluate-on e it.answers h) (λ v _. refl)
    act-on (Store k a site index e) turns rest h =
        let p = and_parts (is_reckoned_term index) (is_reckoned_term e) h in
        on_value-on _ _ _ _ (evaluate-on index it.answers p.0) (λ at later.
        on_value-on _ _ _ _ (evaluate-on e later p.1) (λ v _.
        ap (λ k. stores here i it a site (within k at.value) v.value rest) (extent-on a.space a.number) ∙ stores-on i it a site (within (extent_in there a.space a.number) at.value) v.value rest))
    act-on (If k e t f) turns rest h = on_value-on _ _ _ _ (evaluate-on e it.answers (and_parts (is_reckoned_term e) (are_reckoned t && are_reckoned f) h).0) (λ v _. refl)
    act-on (Loop k e b u) turns rest h = on_value-on _ _ _ _ (evaluate-on e it.answers (and_parts (is_reckoned_term e) (are_reckoned b && are_reckoned u) h).0) (λ v _. refl)
    act-on (Barrier k l g) turns rest h = refl
    act-on (Return k) turns rest h = refl
    act-on (Break k loop) turns rest h = refl
    act-on (Continue k loop) turns rest h = refl

    front-on : (left : List Entry) → Reckoned left → front here i it left ≡ front there i it left
    front-on [] h = refl
    front-on (e ∷ rest) h = act-on e.statement e.turns rest h.0

    status-on : (st : Status) → Reckoned it.left → by_status here i it st ≡ by_status there i it st
    status-on Running h = front-on it.left h
    status-on Waiting h = refl
    status-on Ended h = refl
    status-on (Stopped f site) h = refl

    pub ask-on : Reckoned it.left → ask (with_machine m s) i it ≡ ask (with_machine n s) i it
    unfolding ask
    ask-on h = status-on it.status h
