-- What is left stays proper along all moves.
use Rattle.std.proofs.Common.{◌≡◌, ◌+◌, ℕ, ℤ, Bool, true, false, ◌&&◌, cond, List, [], ◌∷◌, nat_eq, refl}
use Rattle.std.proofs.lemmas.Bool.{and_parts}
use Rattle.semantics.specs.Word.{Word, is_zero}
use Rattle.semantics.specs.Core.{Array, Site, Statement, Set, Store, If, Loop, Barrier, Return, Break, Continue, Statements, none, one, number}
use Rattle.semantics.specs.Setup.{Setup}
use Rattle.semantics.specs.Memory.{extent}
use Rattle.semantics.specs.Evaluation.{Outcome, Gives, Needs, Faults, evaluate, Index, At, Outside, within}
use Rattle.semantics.specs.Item.{Entry, Item, Status, Running, Waiting, Ended, Stopped, enter, leave, resume, update_of, trail}
use Rattle.semantics.specs.Ask.{Ask, on_value, stores, choose, act, front, passes, by_status, ask}
use Rattle.semantics.specs.Solo.{moved}
use Rattle.work_item.specs.Proper.{is_proper_term, is_proper_statement, are_proper, is_proper_left}

both : (a b : Bool) → a ≡ true → b ≡ true → (a && b) ≡ true
both a b h k = rw (h, k) refl

enters : (ss : Statements) (rest : List Entry) → are_proper ss ≡ true → is_proper_left rest ≡ true → is_proper_left (enter ss rest) ≡ true
enters none rest h k = k
enters (one st ss) rest h k =
    let p = and_parts (is_proper_statement st) (are_proper ss) h in
    both (is_proper_statement st) (is_proper_left (enter ss rest)) p.0 (enters ss rest p.1 k)

either : (b : Bool) (xs ys : List Entry) → is_proper_left xs ≡ true → is_proper_left ys ≡ true → is_proper_left (cond b xs ys) ≡ true
either true xs ys h k = h
either false xs ys h k = k

leaves : (n : ℕ) (xs : List Entry) → is_proper_left xs ≡ true → is_proper_left (leave n xs) ≡ true
leaves n [] h = refl
leaves n (e ∷ rest) h =
    let p = and_parts (is_proper_statement e.statement) (is_proper_left rest) h in
    either (nat_eq (number e.statement) n) rest (leave n rest) p.1 (leaves n rest p.1)

updates : (st : Statement) → is_proper_statement st ≡ true → are_proper (update_of st) ≡ true
updates (Loop n e body update) h = (and_parts (are_proper body) (are_proper update) (and_parts (is_proper_term e) (are_proper body && are_proper update) h).1).1
updates (Set n x e) h = refl
updates (Store n a site k e) h = refl
updates (If n e taken skipped) h = refl
updates (Barrier n l g) h = refl
updates (Return n) h = refl
updates (Break n k) h = refl
updates (Continue n k) h = refl

resumes : (n : ℕ) (xs : List Entry) → is_proper_left xs ≡ true → is_proper_left (resume n xs) ≡ true
resumes n [] h = refl
resumes n (e ∷ rest) h =
    let p = and_parts (is_proper_statement e.statement) (is_proper_left rest) h in
    either (nat_eq (number e.statement) n) (enter (update_of e.statement) (e ∷ rest)) (resume n rest)
    (enters (update_of e.statement) (e ∷ rest) (updates e.statement p.0) h) (resumes n rest p.1)

chooses : (b : Bool) (xs ys : List Entry) → is_proper_left xs ≡ true → is_proper_left ys ≡ true → is_proper_left (choose b xs ys) ≡ true
chooses true xs ys h k = h
chooses false xs ys h k = k

-- what is left after a move
Keeps : Item → Ask → Type 0
Keeps it k = (answer : ℤ) → is_proper_left (moved it k answer).left ≡ true

valued : (s : Setup) (i : ℕ) (it : Item) (o : Outcome) (go : Word → List Word → Ask) → is_proper_left it.left ≡ true → ((v : Word) (rest : List Word) → Keeps it (go v rest)) → Keeps it (on_value s i it o go)
unfolding Keeps
valued s i it (Gives v rest) go h k = k v rest
valued s i it (Needs a n site) go h k = λ answer. h
valued s i it (Faults f site) go h k = λ answer. h

stored : (s : Setup) (i : ℕ) (it : Item) (k : Index) (a : Array) (site : Site) (value : ℤ) (rest : List Entry) → is_proper_left it.left ≡ true → is_proper_left rest ≡ true → Keeps it (stores s i it a site k value rest)
unfolding Keeps
stored s i it (At k) a site value rest h p = λ answer. p
stored s i it Outside a site value rest h p = λ answer. h

acts : (s : Setup) (i : ℕ) (it : Item) (st : Statement) (turns : ℕ) (rest : List Entry) → is_proper_left it.left ≡ true → is_proper_statement st ≡ true → is_proper_left rest ≡ true → Keeps it (act s i it st turns rest)
unfolding Keeps
acts s i it (Set n x e) turns rest h p r = valued s i it (evaluate s i (trail it.left) e it.variables it.answers) _ h (λ v later answer. r)
acts s i it (Store n a site k e) turns rest h p r =
    valued s i it (evaluate s i (trail it.left) k it.variables it.answers) _ h (λ index later.
    valued s i it (evaluate s i (trail it.left) e it.variables later) _ h (λ v _. stored s i it (within (extent s a) index.value) a site v.value rest h r))
acts s i it (If n e taken skipped) turns rest h p r =
    let q = and_parts (is_proper_term e) (are_proper taken && are_proper skipped) p in
    let b = and_parts (are_proper taken) (are_proper skipped) q.1 in
    valued s i it (evaluate s i (trail it.left) e it.variables it.answers) _ h (λ v later answer.
    chooses (is_zero v.value) (enter skipped rest) (enter taken rest) (enters skipped rest b.1 r) (enters taken rest b.0 r))
acts s i it (Loop n e body update) turns rest h p r =
    let q = and_parts (is_proper_term e) (are_proper body && are_proper update) p in
    let b = and_parts (are_proper body) (are_proper update) q.1 in
    let again : List Entry = record { statement = Loop n e body update; turns = turns + 1 } ∷ rest in
    valued s i it (evaluate s i (trail it.left) e it.variables it.answers) _ h (λ v later answer.
    chooses (is_zero v.value) rest (enter body (enter update again)) r
    (enters body (enter update again) b.0 (enters update again b.1 (both (is_proper_statement (Loop n e body update)) (is_proper_left rest) p r))))
acts s i it (Barrier n l g) turns rest h p r = λ answer. h
acts s i it (Return n) turns rest h p r = λ answer. refl
acts s i it (Break n loop) turns rest h p r = λ answer. leaves loop rest r
acts s i it (Continue n loop) turns rest h p r = λ answer. resumes loop rest r

fronts : (s : Setup) (i : ℕ) (it : Item) (left : List Entry) → is_proper_left it.left ≡ true → is_proper_left left ≡ true → Keeps it (front s i it left)
unfolding Keeps
fronts s i it [] h p = λ answer. refl
fronts s i it (e ∷ rest) h p =
    let q = and_parts (is_proper_statement e.statement) (is_proper_left rest) p in acts s i it e.statement e.turns rest h q.0 q.1

passing : (it : Item) (left : List Entry) → is_proper_left left ≡ true → Keeps it (passes it left)
unfolding Keeps
passing it [] p = λ answer. refl
passing it (e ∷ rest) p = λ answer. (and_parts (is_proper_statement e.statement) (is_proper_left rest) p).1

by : (s : Setup) (i : ℕ) (it : Item) (status : Status) → is_proper_left it.left ≡ true → Keeps it (by_status s i it status)
unfolding Keeps
by s i it Running h = fronts s i it it.left h h
by s i it Waiting h = passing it it.left h
by s i it Ended h = λ answer. h
by s i it (Stopped f site) h = λ answer. h

pub keeps_proper : (s : Setup) (i : ℕ) (it : Item) (answer : ℤ) → is_proper_left it.left ≡ true → is_proper_left (moved it (ask s i it) answer).left ≡ true
unfolding ask Keeps
keeps_proper s i it answer h = by s i it it.status h answer

pub opens_proper : (ss : Statements) → are_proper ss ≡ true → is_proper_left (enter ss []) ≡ true
opens_proper ss h = enters ss [] h refl
