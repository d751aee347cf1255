-- Steps of a work-item, positions aside: of a kernel without positions each is the same but for its position.
use Rattle.std.proofs.Common.{◌≡◌, ℕ, zero, suc, ◌+◌, ℤ, pos, List, [], ◌∷◌, map, Bool, true, false, not, cond, nat_eq, Result, Ok, Err, refl, ap, ◌∙◌}
use Rattle.semantics.specs.Word.{Word, word, Fault, as_kind, is_zero}
use Rattle.semantics.specs.Core.{Site, Space, Global, Local, Array, Function, GlobalId, LocalId, GroupId, GlobalSize, LocalSize, NumGroups, Term, Literal, Variable, Id, Load, Unary, Binary, Convert, Compare, Not, And, Or, Select, Minimum, Maximum, Shift, Within, Opaque, Statement, Set, Store, If, Loop, Barrier, Return, Break, Continue, Statements, none, one, number}
use Rattle.semantics.specs.Setup.{Setup, identity, group_size}
use Rattle.semantics.specs.Memory.{Cell, owner_of, cell, extent_in, extent, kind_in, kind_at}
use Rattle.semantics.specs.Evaluation.{Outcome, Gives, Needs, Faults, and_then, settled, Index, At, Outside, within, asks, load, decide, inside, evaluate}
use Rattle.semantics.specs.Item.{Entry, Status, Running, Waiting, Ended, Stopped, Item, enter, status_of, finished, leave, update_of, resume, local_flag, global_flag, trail}
use Rattle.semantics.specs.Ask.{Ask, Loads, Stores, Goes, Waits, Rests, loads, on_value, writes, stores, choose, act, front, passes, by_status, ask}
use Rattle.texts.specs.Bare.{nowhere}
use Rattle.printer.specs.BareCore.{bare_term, bare_step, bare_steps}
use Rattle.printer.specs.BareRuns.{bare_entry, bare_status, bare_item, bare_setup}

-- ids and arrays
bare-owner : (s : Setup) (i : ℕ) (space : Space) → owner_of (bare_setup s) i space ≡ owner_of s i space
unfolding group_size
bare-owner s i Global = refl
bare-owner s i Local = refl

bare-cell : (s : Setup) (i : ℕ) (a : Array) (k : ℕ) → cell (bare_setup s) i a k ≡ cell s i a k
bare-cell s i a k = ap (λ o. record { owner = o; array = a.number; index = k }) (bare-owner s i a.space)

bare-extent : (s : Setup) (space : Space) (a : ℕ) → extent_in (bare_setup s) space a ≡ extent_in s space a
bare-extent s Global a = refl
bare-extent s Local a = refl

bare-kind : (s : Setup) (owner a : ℕ) → kind_in (bare_setup s) owner a ≡ kind_in s owner a
bare-kind s zero a = refl
bare-kind s (suc g) a = refl

bare-identity : (s : Setup) (i : ℕ) (f : Function) (d : ℕ) → identity (bare_setup s) i f d ≡ identity s i f d
unfolding group_size
bare-identity s i GlobalId d = refl
bare-identity s i LocalId d = refl
bare-identity s i GroupId d = refl
bare-identity s i GlobalSize d = refl
bare-identity s i LocalSize d = refl
bare-identity s i NumGroups d = refl

-- values
abbrev bare_outcome : Outcome → Outcome
bare_outcome (Gives v rest) = Gives v rest
bare_outcome (Needs a k site) = Needs a k nowhere
bare_outcome (Faults f site) = Faults f nowhere

bare-and : (o p : Outcome) (go on : Word → List Word → Outcome) → p ≡ bare_outcome o → ((v : Word) (rest : List Word) → on v rest ≡ bare_outcome (go v rest)) → and_then p on ≡ bare_outcome (and_then o go)
bare-and (Gives v rest) p go on e h = ap (λ x. and_then x on) e ∙ h v rest
bare-and (Needs a k site) p go on e h = ap (λ x. and_then x on) e
bare-and (Faults f site) p go on e h = ap (λ x. and_then x on) e

bare-settled : (r : Result Word Fault) (site : Site) (rest : List Word) → settled r nowhere rest ≡ bare_outcome (settled r site rest)
bare-settled (Ok w) site rest = refl
bare-settled (Err f) site rest = refl

bare-asks : (a : Array) (k : Index) (site : Site) → asks a k nowhere ≡ bare_outcome (asks a k site)
bare-asks a (At k) site = refl
bare-asks a Outside site = refl

bare-load : (s : Setup) (a : Array) (site : Site) (z : ℤ) (answers : List Word) → load (bare_setup s) a nowhere z answers ≡ bare_outcome (load s a site z answers)
bare-load s a site z [] = ap (λ n. asks a (within n z) nowhere) (bare-extent s a.space a.number) ∙ bare-asks a (within (extent s a) z) site
bare-load s a site z (v ∷ rest) = refl

bare-decide : (b : Bool) (o p q r : Outcome) → q ≡ bare_outcome o → r ≡ bare_outcome p → decide b q r ≡ bare_outcome (decide b o p)
bare-decide true o p q r e f = e
bare-decide false o p q r e f = f

bare-evaluate : (s : Setup) (i : ℕ) (now : List ℕ) (t : Term) (vars answers : List Word) → evaluate (bare_setup s) i now (bare_term t) vars answers ≡ bare_outcome (evaluate s i now t vars answers)
unfolding evaluate
bare-evaluate s i now (Literal k z) vars answers = refl
bare-evaluate s i now (Variable x) vars answers = refl
bare-evaluate s i now (Id k f d) vars answers = ap (λ n. Gives (word k (pos n)) answers) (bare-identity s i f d)
bare-evaluate s i now (Load a site index) vars answers = bare-and _ _ _ _ (bare-evaluate s i now index vars answers) (λ k rest. bare-load s a site k.value rest)
bare-evaluate s i now (Unary op kind site e) vars answers = bare-and _ _ _ _ (bare-evaluate s i now e vars answers) (λ a rest. bare-settled _ site rest)
bare-evaluate s i now (Binary op kind site l r) vars answers =
    bare-and _ _ _ _ (bare-evaluate s i now l vars answers) (λ a rest. bare-and _ _ _ _ (bare-evaluate s i now r vars rest) (λ b more. bare-settled _ site more))
bare-evaluate s i now (Convert kind site e) vars answers = bare-and _ _ _ _ (bare-evaluate s i now e vars answers) (λ a rest. bare-settled _ site rest)
bare-evaluate s i now (Compare relation kind l r) vars answers = bare-and _ _ _ _ (bare-evaluate s i now l vars answers) (λ a rest. bare-and _ _ _ _ (bare-evaluate s i now r vars rest) (λ b more. refl))
bare-evaluate s i now (Not e) vars answers = bare-and _ _ _ _ (bare-evaluate s i now e vars answers) (λ a rest. refl)
bare-evaluate s i now (And l r) vars answers =
    bare-and _ _ _ _ (bare-evaluate s i now l vars answers) (λ a rest. bare-decide (is_zero a.value) _ _ _ _ refl (bare-and _ _ _ _ (bare-evaluate s i now r vars rest) (λ b more. refl)))
bare-evaluate s i now (Or l r) vars answers =
    bare-and _ _ _ _ (bare-evaluate s i now l vars answers) (λ a rest. bare-decide (not (is_zero a.value)) _ _ _ _ refl (bare-and _ _ _ _ (bare-evaluate s i now r vars rest) (λ b more. refl)))
bare-evaluate s i now (Select test a b) vars answers =
    bare-and _ _ _ _ (bare-evaluate s i now test vars answers) (λ t rest. bare-decide (is_zero t.value) _ _ _ _ (bare-evaluate s i now b vars rest) (bare-evaluate s i now a vars rest))
bare-evaluate s i now (Minimum l r) vars answers = bare-and _ _ _ _ (bare-evaluate s i now l vars answers) (λ a rest. bare-and _ _ _ _ (bare-evaluate s i now r vars rest) (λ b more. refl))
bare-evaluate s i now (Maximum l r) vars answers = bare-and _ _ _ _ (bare-evaluate s i now l vars answers) (λ a rest. bare-and _ _ _ _ (bare-evaluate s i now r vars rest) (λ b more. refl))
bare-evaluate s i now (Shift d kind l r) vars answers = bare-and _ _ _ _ (bare-evaluate s i now l vars answers) (λ a rest. bare-and _ _ _ _ (bare-evaluate s i now r vars rest) (λ b more. refl))
bare-evaluate s i now (Within site n e) vars answers = bare-and _ _ _ _ (bare-evaluate s i now e vars answers) (λ k rest. bare-settled (inside (within n k.value) k) site rest)
bare-evaluate s i now (Opaque n at kind a b c) vars answers =
    bare-and _ _ _ _ (bare-evaluate s i now a vars answers) (λ x rest. bare-and _ _ _ _ (bare-evaluate s i now b vars rest) (λ y more. bare-and _ _ _ _ (bare-evaluate s i now c vars more) (λ z last. refl)))

-- what is left of an item's statements
pub bare-enter : (ss : Statements) (rest : List Entry) → enter (bare_steps ss) (map bare_entry rest) ≡ map bare_entry (enter ss rest)
bare-enter none rest = refl
bare-enter (one s ss) rest = ap (λ es. record { statement = bare_step s; turns = 0 } ∷ es) (bare-enter ss rest)

pub bare-status_of : (left : List Entry) → status_of (map bare_entry left) ≡ bare_status (status_of left)
bare-status_of [] = refl
bare-status_of (e ∷ rest) = refl

bare-finished : (it : Item) (l m : List Entry) (vars : List Word) → l ≡ map bare_entry m → finished (bare_item it) l vars ≡ bare_item (finished it m vars)
bare-finished it l m vars e =
    ap (λ x. finished (bare_item it) x vars) e
    ∙ ap (λ st. record { left = map bare_entry m; variables = vars; answers = []; local_epoch = it.local_epoch; global_epoch = it.global_epoch; steps = it.steps + 1; status = st }) (bare-status_of m)

bare-number : (s : Statement) → number (bare_step s) ≡ number s
bare-number (Set n x e) = refl
bare-number (Store n a site k e) = refl
bare-number (If n e a b) = refl
bare-number (Loop n e a b) = refl
bare-number (Barrier n l g) = refl
bare-number (Return n) = refl
bare-number (Break n k) = refl
bare-number (Continue n k) = refl

bare-update : (s : Statement) → update_of (bare_step s) ≡ bare_steps (update_of s)
bare-update (Set n x e) = refl
bare-update (Store n a site k e) = refl
bare-update (If n e a b) = refl
bare-update (Loop n e a b) = refl
bare-update (Barrier n l g) = refl
bare-update (Return n) = refl
bare-update (Break n k) = refl
bare-update (Continue n k) = refl

bare-local : (s : Statement) → local_flag (bare_step s) ≡ local_flag s
bare-local (Set n x e) = refl
bare-local (Store n a site k e) = refl
bare-local (If n e a b) = refl
bare-local (Loop n e a b) = refl
bare-local (Barrier n l g) = refl
bare-local (Return n) = refl
bare-local (Break n k) = refl
bare-local (Continue n k) = refl

bare-global : (s : Statement) → global_flag (bare_step s) ≡ global_flag s
bare-global (Set n x e) = refl
bare-global (Store n a site k e) = refl
bare-global (If n e a b) = refl
bare-global (Loop n e a b) = refl
bare-global (Barrier n l g) = refl
bare-global (Return n) = refl
bare-global (Break n k) = refl
bare-global (Continue n k) = refl

pub bare-trail : (left : List Entry) → trail (map bare_entry left) ≡ trail left
bare-trail [] = refl
bare-trail (e ∷ rest) =
    ap (λ n. n ∷ e.turns ∷ local_flag (bare_step e.statement) ∷ global_flag (bare_step e.statement) ∷ trail (map bare_entry rest)) (bare-number e.statement)
    ∙ ap (λ n. number e.statement ∷ e.turns ∷ n ∷ global_flag (bare_step e.statement) ∷ trail (map bare_entry rest)) (bare-local e.statement)
    ∙ ap (λ n. number e.statement ∷ e.turns ∷ local_flag e.statement ∷ n ∷ trail (map bare_entry rest)) (bare-global e.statement)
    ∙ ap (λ ns. number e.statement ∷ e.turns ∷ local_flag e.statement ∷ global_flag e.statement ∷ ns) (bare-trail rest)

bare-cond : (b : Bool) (p q l m : List Entry) → p ≡ map bare_entry l → q ≡ map bare_entry m → cond b p q ≡ map bare_entry (cond b l m)
bare-cond true p q l m e f = e
bare-cond false p q l m e f = f

bare-choose : (b : Bool) (p q l m : List Entry) → p ≡ map bare_entry l → q ≡ map bare_entry m → choose b p q ≡ map bare_entry (choose b l m)
bare-choose true p q l m e f = e
bare-choose false p q l m e f = f

bare-leave : (loop : ℕ) (left : List Entry) → leave loop (map bare_entry left) ≡ map bare_entry (leave loop left)
bare-leave loop [] = refl
bare-leave loop (e ∷ rest) =
    ap (λ n. cond (nat_eq n loop) (map bare_entry rest) (leave loop (map bare_entry rest))) (bare-number e.statement) ∙ bare-cond (nat_eq (number e.statement) loop) _ _ _ _ refl (bare-leave loop rest)

bare-resume : (loop : ℕ) (left : List Entry) → resume loop (map bare_entry left) ≡ map bare_entry (resume loop left)
bare-resume loop [] = refl
bare-resume loop (e ∷ rest) =
    ap (λ n. cond (nat_eq n loop) (enter (update_of (bare_step e.statement)) (map bare_entry (e ∷ rest))) (resume loop (map bare_entry rest))) (bare-number e.statement)
    ∙ bare-cond (nat_eq (number e.statement) loop) _ _ _ _ (ap (λ ss. enter ss (map bare_entry (e ∷ rest))) (bare-update e.statement) ∙ bare-enter (update_of e.statement) (e ∷ rest)) (bare-resume loop rest)

-- what is asked for
abbrev pub bare_ask : Ask → Ask
bare_ask (Loads at kind site) = Loads at kind nowhere
bare_ask (Stores at site value next) = Stores at nowhere value (bare_item next)
bare_ask (Goes next) = Goes (bare_item next)
bare_ask (Waits next) = Waits (bare_item next)
bare_ask Rests = Rests

bare-loads : (s : Setup) (c d : Cell) → d ≡ c → loads (bare_setup s) d nowhere ≡ Loads c (kind_at s c) nowhere
bare-loads s c d e = ap (λ x. loads (bare_setup s) x nowhere) e ∙ ap (λ k. Loads c k nowhere) (bare-kind s c.owner c.array)

bare-on : (s : Setup) (i : ℕ) (it : Item) (o p : Outcome) (go on : Word → List Word → Ask) → p ≡ bare_outcome o → ((v : Word) (rest : List Word) → on v rest ≡ bare_ask (go v rest)) →
    on_value (bare_setup s) i (bare_item it) p on ≡ bare_ask (on_value s i it o go)
bare-on s i it (Gives v rest) p go on e h = ap (λ x. on_value (bare_setup s) i (bare_item it) x on) e ∙ h v rest
bare-on s i it (Needs a k site) p go on e h = ap (λ x. on_value (bare_setup s) i (bare_item it) x on) e ∙ bare-loads s (cell s i a k) (cell (bare_setup s) i a k) (bare-cell s i a k)
bare-on s i it (Faults f site) p go on e h = ap (λ x. on_value (bare_setup s) i (bare_item it) x on) e

bare-writes : (s : Setup) (c d : Cell) (site : Site) (z : ℤ) (m n : Item) → d ≡ c → n ≡ bare_item m → writes (bare_setup s) d nowhere z n ≡ bare_ask (writes s c site z m)
bare-writes s c d site z m n e f =
    ap (λ x. writes (bare_setup s) x nowhere z n) e ∙ ap (λ k. Stores c nowhere (as_kind k z) n) (bare-kind s c.owner c.array) ∙ ap (Stores c nowhere (as_kind (kind_at s c) z)) f

bare-stores : (s : Setup) (i : ℕ) (it : Item) (a : Array) (site : Site) (k : Index) (z : ℤ) (rest : List Entry) → stores (bare_setup s) i (bare_item it) a nowhere k z (map bare_entry rest) ≡ bare_ask (stores s i it a site k z rest)
bare-stores s i it a site (At k) z rest = bare-writes s (cell s i a k) (cell (bare_setup s) i a k) site z _ _ (bare-cell s i a k) (bare-finished it _ _ it.variables refl)
bare-stores s i it a site Outside z rest = refl

bare-go : (it : Item) (l m : List Entry) (vars : List Word) → l ≡ map bare_entry m → Goes (finished (bare_item it) l vars) ≡ bare_ask (Goes (finished it m vars))
bare-go it l m vars e = ap Goes (bare-finished it l m vars e)

-- a term of the statement in front, at its moment
bare-now : (s : Setup) (i : ℕ) (it : Item) (e : Term) (answers : List Word) → evaluate (bare_setup s) i (trail (map bare_entry it.left)) (bare_term e) it.variables answers ≡ bare_outcome (evaluate s i (trail it.left) e it.variables answers)
bare-now s i it e answers = ap (λ now. evaluate (bare_setup s) i now (bare_term e) it.variables answers) (bare-trail it.left) ∙ bare-evaluate s i (trail it.left) e it.variables answers

bare-act : (s : Setup) (i : ℕ) (it : Item) (st : Statement) (turns : ℕ) (rest : List Entry) → act (bare_setup s) i (bare_item it) (bare_step st) turns (map bare_entry rest) ≡ bare_ask (act s i it st turns rest)
bare-act s i it (Set n x e) turns rest = bare-on s i it _ _ _ _ (bare-now s i it e it.answers) (λ v more. bare-go it _ _ _ refl)
bare-act s i it (Store n a site k e) turns rest =
    bare-on s i it _ _ _ _ (bare-now s i it k it.answers) (λ index later. bare-on s i it _ _ _ _ (bare-now s i it e later) (λ v more.
    ap (λ m. stores (bare_setup s) i (bare_item it) a nowhere (within m index.value) v.value (map bare_entry rest)) (bare-extent s a.space a.number) ∙ bare-stores s i it a site (within (extent s a) index.value) v.value rest))
bare-act s i it (If n e taken skipped) turns rest =
    bare-on s i it _ _ _ _ (bare-now s i it e it.answers) (λ v more. bare-go it _ _ _ (bare-choose (is_zero v.value) _ _ _ _ (bare-enter skipped rest) (bare-enter taken rest)))
bare-act s i it (Loop n e body update) turns rest =
    bare-on s i it _ _ _ _ (bare-now s i it e it.answers) (λ v more. bare-go it _ _ _ (bare-choose (is_zero v.value) _ _ _ _ refl
    (ap (enter (bare_steps body)) (bare-enter update (record { statement = Loop n e body update; turns = turns + 1 } ∷ rest)) ∙ bare-enter body (enter update (record { statement = Loop n e body update; turns = turns + 1 } ∷ rest)))))
bare-act s i it (Barrier n l g) turns rest = refl
bare-act s i it (Return n) turns rest = refl
bare-act s i it (Break n loop) turns rest = bare-go it _ _ _ (bare-leave loop rest)
bare-act s i it (Continue n loop) turns rest = bare-go it _ _ _ (bare-resume loop rest)

bare-front : (s : Setup) (i : ℕ) (it : Item) (left : List Entry) → front (bare_setup s) i (bare_item it) (map bare_entry left) ≡ bare_ask (front s i it left)
bare-front s i it [] = refl
bare-front s i it (e ∷ rest) = bare-act s i it e.statement e.turns rest

abbrev past_barrier : Item → (left : List Entry) (local global : ℕ) → Status → Item
past_barrier it left local global st = record { left = left; variables = it.variables; answers = []; local_epoch = local; global_epoch = global; steps = it.steps; status = st }

bare-passes : (it : Item) (left : List Entry) → passes (bare_item it) (map bare_entry left) ≡ bare_ask (passes it left)
bare-passes it [] = refl
bare-passes it (e ∷ rest) =
    let left = map bare_entry rest in
    ap (λ n. Waits (past_barrier it left (it.local_epoch + n) (it.global_epoch + global_flag (bare_step e.statement)) (status_of left))) (bare-local e.statement)
    ∙ ap (λ n. Waits (past_barrier it left (it.local_epoch + local_flag e.statement) (it.global_epoch + n) (status_of left))) (bare-global e.statement)
    ∙ ap (λ st. Waits (past_barrier it left (it.local_epoch + local_flag e.statement) (it.global_epoch + global_flag e.statement) st)) (bare-status_of rest)

bare-by : (s : Setup) (i : ℕ) (it : Item) (st : Status) → by_status (bare_setup s) i (bare_item it) (bare_status st) ≡ bare_ask (by_status s i it st)
bare-by s i it Running = bare-front s i it it.left
bare-by s i it Waiting = bare-passes it it.left
bare-by s i it Ended = refl
bare-by s i it (Stopped f site) = refl

pub bare-asked : (s : Setup) (i : ℕ) (it : Item) → ask (bare_setup s) i (bare_item it) ≡ bare_ask (ask s i it)
unfolding ask
bare-asked s i it = bare-by s i it it.status
