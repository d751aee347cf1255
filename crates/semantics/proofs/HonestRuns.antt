-- Solo runs whose loads are answered by what buffers may hold, and memories that hold it.
use Rattle.std.proofs.Common.{◌≡◌, ◌<◌, ℕ, zero, suc, ◌+◌, ℤ, pos, List, [], ◌∷◌, ◌++◌, get_or, length, true, Bool, false, cond, refl, sym, ap, ◌∙◌, subst, arith, slice_set}
use Rattle.std.specs.List.{All}
use Rattle.std.proofs.lemmas.List.Elements.{All-nil, All-cons, All-head, All-tail, All-get_or}
use Rattle.semantics.specs.Word.{Word, word, is_zero, as_kind, in_kind, Kind}
use Rattle.semantics.specs.Core.{Site, Array, Space, Global, Local, Term, Statement, Set, Store, If, Loop, Barrier, Return, Break, Continue}
use Rattle.semantics.specs.Launch.{Fits}
use Rattle.semantics.specs.Setup.{Setup, group_of}
use Rattle.semantics.specs.Memory.{Cell, Memory, cell, owner_of, extent, kind_at, opening_memory, opening_at, put, same_cell}
use Rattle.semantics.specs.Evaluation.{Outcome, Gives, Needs, Faults, and_then, evaluate, Index, At, Outside, within}
use Rattle.semantics.specs.Item.{Entry, Status, Running, Waiting, Ended, Stopped, Item, enter, finished, leave, resume, trail}
use Rattle.semantics.specs.Ask.{Ask, Loads, Stores, Goes, Waits, Rests, on_value, stores, choose, act, front, passes, by_status, ask}
use Rattle.semantics.specs.Solo.{after, opening, moved}
use Rattle.semantics.specs.Conditions.{Content, Conditions, IsContent, IsHeld, Meets}
use Rattle.semantics.specs.Contents.{MayHold, Holds, HoldsIn, IsInside, IsInsideIn, IsKept, Heeds, IsHonest, StoresKept, HoldsOf, HonestTerm, HonestFront}
use Rattle.semantics.specs.Safety.{IsPairSafe, IsPairSafeWithin}
use Rattle.semantics.proofs.Words.{as_kind-in_kind, as_kind-same}
use Rattle.semantics.proofs.Updates.{same_cell-is}
use Rattle.semantics.proofs.LoadKinds.{element_has_kind}
use Rattle.semantics.proofs.MemoryKinds.{StoresKind, ask-kind, opening-kind}
use Rattle.semantics.proofs.HonestTerms.{Held, heeds, onward}

-- read twice is read once
as_kind-twice : (k : Kind) (z : ℤ) → as_kind k (as_kind k z) ≡ as_kind k z
as_kind-twice k z = as_kind-same k (as_kind k z) (as_kind-in_kind k z)

-- the answers to the loads of the first entry that is left
abbrev pub HonestLeft : Setup → List Content → ℕ → List Entry → (vars answers : List Word) → Type 0
HonestLeft s cs i [] vars answers = Unit {0}
HonestLeft s cs i (e ∷ rest) vars answers = HonestFront s cs i (trail (e ∷ rest)) e.statement vars answers

abbrev pub HonestItem : Setup → List Content → ℕ → Item → Type 0
HonestItem s cs i it = HonestLeft s cs i it.left it.variables it.answers

-- an item's next move leaves them so, whatever held number a load is answered by
abbrev HonestAsk : Setup → List Content → ℕ → Item → Ask → Type 0
HonestAsk s cs i it (Loads at kind site) = (z : ℤ) → Holds s cs at (as_kind kind z) → HonestLeft s cs i it.left it.variables (it.answers ++ word kind (as_kind kind z) ∷ [])
HonestAsk s cs i it (Stores at site value next) = HonestItem s cs i next
HonestAsk s cs i it (Goes next) = HonestItem s cs i next
HonestAsk s cs i it (Waits next) = HonestItem s cs i next
HonestAsk s cs i it Rests = Unit {0}

-- a number held by an item's element is one of the array's
holds_in-of : (s : Setup) (cs : List Content) (i : ℕ) (p : Space) (n : ℕ) (z : ℤ) → HoldsIn s cs (owner_of s i p) n z → HoldsOf s cs p n z
holds_in-of s cs i Global n z h = h
holds_in-of s cs i Local n z h = tt

holds-of : (s : Setup) (cs : List Content) (i : ℕ) (a : Array) (k : ℕ) (z : ℤ) → Holds s cs (cell s i a k) z → HoldsOf s cs a.space a.number z
holds-of s cs i a k z h = holds_in-of s cs i a.space a.number z h

-- the answer to an item's load is held
held-by : (s : Setup) (cs : List Content) (i : ℕ) (a : Array) (k : ℕ) (z : ℤ) → Holds s cs (cell s i a k) (as_kind (kind_at s (cell s i a k)) z) → Held s cs a (word (kind_at s (cell s i a k)) (as_kind (kind_at s (cell s i a k)) z))
held-by s cs i a k z h =
    let e = element_has_kind s i k a in
    subst (λ x. HoldsOf s cs a.space a.number (as_kind x (as_kind (kind_at s (cell s i a k)) z))) e
    (subst (HoldsOf s cs a.space a.number) (sym (as_kind-twice (kind_at s (cell s i a k)) z)) (holds-of s cs i a k _ h))

module _ (s : Setup) (cs : List Content) (i : ℕ) where
  left-none : (left : List Entry) (vars : List Word) → HonestLeft s cs i left vars []
  left-none [] vars = tt
  left-none (f ∷ rest) vars = go f.statement
    where
      go : (st : Statement) → HonestFront s cs i (trail (f ∷ rest)) st vars []
      go (Set n x e) = (heeds s cs i (trail (f ∷ rest)) vars e).none
      go (Store n a site k e) = (onward s cs (λ answers. evaluate s i (trail (f ∷ rest)) k vars answers) (λ answers. HonestTerm s cs i (trail (f ∷ rest)) k vars answers) (λ index later. evaluate s i (trail (f ∷ rest)) e vars later) (λ index later. HonestTerm s cs i (trail (f ∷ rest)) e vars later) (heeds s cs i (trail (f ∷ rest)) vars k) (λ index. heeds s cs i (trail (f ∷ rest)) vars e)).none
      go (If n e taken skipped) = (heeds s cs i (trail (f ∷ rest)) vars e).none
      go (Loop n e body update) = (heeds s cs i (trail (f ∷ rest)) vars e).none
      go (Barrier n l g) = tt
      go (Return n) = tt
      go (Break n loop) = tt
      go (Continue n loop) = tt

  module _ (it : Item) (here : HonestItem s cs i it) where
    on_value-honest : (o : Outcome) (go : Word → List Word → Ask) → ((a : Array) (k : ℕ) (site : Site) (w : Word) → o ≡ Needs a k site → Held s cs a w → HonestLeft s cs i it.left it.variables (it.answers ++ w ∷ [])) → ((v : Word) (rest : List Word) → o ≡ Gives v rest → HonestAsk s cs i it (go v rest)) → HonestAsk s cs i it (on_value s i it o go)
    on_value-honest (Gives v rest) go more on = on v rest refl
    on_value-honest (Needs a k site) go more on = λ z h. more a k site _ refl (held-by s cs i a k z h)
    on_value-honest (Faults f site) go more on = here

    done-honest : (left : List Entry) (vars : List Word) → HonestAsk s cs i it (Goes (finished it left vars))
    done-honest left vars = left-none left vars

    stores-honest : (a : Array) (site : Site) (k : Index) (z : ℤ) (rest : List Entry) → HonestAsk s cs i it (stores s i it a site k z rest)
    stores-honest a site (At k) z rest = left-none rest it.variables
    stores-honest a site Outside z rest = here

    term-more : (e : Term) (P : List Word → Type 0) → HonestTerm s cs i (trail it.left) e it.variables it.answers → ((answers : List Word) → HonestTerm s cs i (trail it.left) e it.variables answers → P answers) → (a : Array) (k : ℕ) (site : Site) (w : Word) → evaluate s i (trail it.left) e it.variables it.answers ≡ Needs a k site → Held s cs a w → P (it.answers ++ w ∷ [])
    term-more e P now back a k site w h held = back (it.answers ++ w ∷ []) ((heeds s cs i (trail it.left) it.variables e).more it.answers a k site w h held now)

    gives-on : (v : Word) (rest : List Word) (o : Outcome) (go : Word → List Word → Outcome) → o ≡ Gives v rest → and_then o go ≡ go v rest
    gives-on v rest o go e = ap (λ x. and_then x go) e

    act-honest : (st : Statement) (turns : ℕ) (rest : List Entry) → ((answers : List Word) → HonestFront s cs i (trail it.left) st it.variables answers → HonestLeft s cs i it.left it.variables answers) → HonestFront s cs i (trail it.left) st it.variables it.answers → HonestAsk s cs i it (act s i it st turns rest)
    act-honest (Set n x e) turns rest back now = on_value-honest (evaluate s i (trail it.left) e it.variables it.answers) (λ v _. Goes (finished it rest (slice_set it.variables x v))) (term-more e (λ answers. HonestLeft s cs i it.left it.variables answers) now back) (λ v r h. left-none rest _)
    act-honest (Store n a site k e) turns rest back now =
        let both = onward s cs (λ answers. evaluate s i (trail it.left) k it.variables answers) (λ answers. HonestTerm s cs i (trail it.left) k it.variables answers) (λ index later. evaluate s i (trail it.left) e it.variables later) (λ index later. HonestTerm s cs i (trail it.left) e it.variables later) (heeds s cs i (trail it.left) it.variables k) (λ index. heeds s cs i (trail it.left) it.variables e) in
        on_value-honest (evaluate s i (trail it.left) k it.variables it.answers)
        (λ index later. on_value s i it (evaluate s i (trail it.left) e it.variables later) (λ v _. stores s i it a site (within (extent s a) index.value) v.value rest))
        (λ b l site' w h held. back (it.answers ++ w ∷ []) (both.more it.answers b l site' w (ap (λ o. and_then o (λ index later. evaluate s i (trail it.left) e it.variables later)) h) held now))
        (λ index later g. on_value-honest (evaluate s i (trail it.left) e it.variables later) (λ v _. stores s i it a site (within (extent s a) index.value) v.value rest)
        (λ b l site' w h held. back (it.answers ++ w ∷ []) (both.more it.answers b l site' w (ap (λ o. and_then o (λ index' later'. evaluate s i (trail it.left) e it.variables later')) g ∙ h) held now))
        (λ v r h. stores-honest a site (within (extent s a) index.value) v.value rest))
    act-honest (If n e t f) turns rest back now = on_value-honest (evaluate s i (trail it.left) e it.variables it.answers) (λ v _. Goes (finished it (choose (is_zero v.value) (enter f rest) (enter t rest)) it.variables)) (term-more e (λ answers. HonestLeft s cs i it.left it.variables answers) now back) (λ v r h. left-none (choose (is_zero v.value) (enter f rest) (enter t rest)) it.variables)
    act-honest (Loop n e b u) turns rest back now = on_value-honest (evaluate s i (trail it.left) e it.variables it.answers) (λ v _. Goes (finished it (choose (is_zero v.value) rest (enter b (enter u (record { statement = Loop n e b u; turns = turns + 1 } ∷ rest)))) it.variables)) (term-more e (λ answers. HonestLeft s cs i it.left it.variables answers) now back) (λ v r h. left-none (choose (is_zero v.value) rest (enter b (enter u (record { statement = Loop n e b u; turns = turns + 1 } ∷ rest)))) it.variables)
    act-honest (Barrier n l g) turns rest back now = here
    act-honest (Return n) turns rest back now = tt
    act-honest (Break n k) turns rest back now = left-none (leave k rest) it.variables
    act-honest (Continue n k) turns rest back now = left-none (resume k rest) it.variables

    front-honest : (left : List Entry) → it.left ≡ left → HonestAsk s cs i it (front s i it left)
    front-honest [] e = tt
    front-honest (x ∷ rest) e = act-honest x.statement x.turns rest (λ answers h. subst (λ l. HonestLeft s cs i l it.variables answers) (sym e) (subst (λ q. HonestFront s cs i q x.statement it.variables answers) (ap trail e) h)) (subst (λ q. HonestFront s cs i q x.statement it.variables it.answers) (sym (ap trail e)) (subst (λ l. HonestLeft s cs i l it.variables it.answers) e here))

    passes-honest : (left : List Entry) → HonestAsk s cs i it (passes it left)
    passes-honest [] = tt
    passes-honest (x ∷ rest) = left-none rest it.variables

    status-honest : (st : Status) → HonestAsk s cs i it (by_status s i it st)
    status-honest Running = front-honest it.left refl
    status-honest Waiting = passes-honest it.left
    status-honest Ended = tt
    status-honest (Stopped f site) = tt

    ask-honest : HonestAsk s cs i it (ask s i it)
    unfolding ask
    ask-honest = status-honest it.status

  moved-honest : (it : Item) (k : Ask) (z : ℤ) → HonestItem s cs i it → HonestAsk s cs i it k → Heeds s cs k z → HonestItem s cs i (moved it k z)
  moved-honest it (Loads at kind site) z here h w = h z w
  moved-honest it (Stores at site value next) z here h w = h
  moved-honest it (Goes next) z here h w = h
  moved-honest it (Waits next) z here h w = h
  moved-honest it Rests z here h w = here

  opening-honest : HonestItem s cs i (opening s i)
  unfolding opening
  opening-honest = left-none (enter s.kernel.body []) _

  -- in each state of an honest solo run the answers so far are
  pub after-honest : (ws : List ℤ) → IsHonest s cs i ws → HonestItem s cs i (after s i ws)
  after-honest [] h = opening-honest
  after-honest (z ∷ ws) h =
      let here = after-honest ws h.0 in
      moved-honest (after s i ws) (ask s i (after s i ws)) z here (ask-honest (after s i ws) here) h.1

  pub front_of : (ws : List ℤ) (e : Entry) (rest : List Entry) → IsHonest s cs i ws → (after s i ws).left ≡ e ∷ rest → HonestFront s cs i (trail (after s i ws).left) e.statement (after s i ws).variables (after s i ws).answers
  front_of ws e rest h l = subst (λ q. HonestFront s cs i q e.statement (after s i ws).variables (after s i ws).answers) (sym (ap trail l)) (subst (λ x. HonestLeft s cs i x (after s i ws).variables (after s i ws).answers) l (after-honest ws h))

-- without lines every run is honest
may_hold-none : (s : Setup) (b : ℕ) (z : ℤ) → MayHold s [] b z
may_hold-none s b z = All-nil _

holds_in-none : (s : Setup) (owner a : ℕ) (z : ℤ) → HoldsIn s [] owner a z
holds_in-none s zero a z = may_hold-none s a z
holds_in-none s (suc g) a z = tt

heeds-none : (s : Setup) (k : Ask) (z : ℤ) → Heeds s [] k z
heeds-none s (Loads at kind site) z = holds_in-none s at.owner at.array (as_kind kind z)
heeds-none s (Stores at site value next) z = tt
heeds-none s (Goes next) z = tt
heeds-none s (Waits next) z = tt
heeds-none s Rests z = tt

keeps-none : (s : Setup) (k : Ask) → StoresKept s [] k
keeps-none s (Loads at kind site) = tt
keeps-none s (Stores at site value next) = holds_in-none s at.owner at.array value
keeps-none s (Goes next) = tt
keeps-none s (Waits next) = tt
keeps-none s Rests = tt

pub honest-none : (s : Setup) (i : ℕ) (ws : List ℤ) → IsHonest s [] i ws
honest-none s i [] = tt
honest-none s i (z ∷ ws) = (honest-none s i ws, heeds-none s (ask s i (after s i ws)) z)

pub kept-none : (s : Setup) (m : Memory) → IsKept s [] m
kept-none s m c h = holds_in-none s c.owner c.array (as_kind (kind_at s c) (m c))

pub pair_safe-none : (s : Setup) (bound : ℕ) → IsPairSafeWithin [] s bound → IsPairSafe s bound
pair_safe-none s bound p = record {
  quiet = λ i ws f site hi. p.quiet i ws f site hi (honest-none s i ws);
  short = λ i ws hi. p.short i ws hi (honest-none s i ws);
  apart = λ i j ws vs a b hi hj ne. p.apart i j ws vs a b hi hj ne (honest-none s i ws) (honest-none s j vs);
  agree = λ i j hi hj ne g ws vs. p.agree i j hi hj ne g ws vs (honest-none s i ws) (honest-none s j vs);
  ends = λ i j hi hj ne g ws vs. p.ends i j hi hj ne g ws vs (honest-none s i ws) (honest-none s j vs);
}

-- what all solo runs keep, the honest ones do
pub pair_safe-back : (s : Setup) (bound : ℕ) → IsPairSafe s bound → IsPairSafeWithin [] s bound
pair_safe-back s bound p = record {
  quiet = λ i ws f site hi h. p.quiet i ws f site hi;
  short = λ i ws hi h. p.short i ws hi;
  apart = λ i j ws vs a b hi hj ne h k. p.apart i j ws vs a b hi hj ne;
  agree = λ i j hi hj ne g ws vs h k. p.agree i j hi hj ne g ws vs;
  ends = λ i j hi hj ne g ws vs h k. p.ends i j hi hj ne g ws vs;
  keeps = λ i ws hi h. keeps-none s (ask s i (after s i ws));
}

-- a load is of an element that its array has, and of its kind
abbrev Loaded : Setup → Ask → Type 0
Loaded s (Loads at kind site) = IsInside s at × (kind ≡ kind_at s at)
Loaded s (Stores at site value next) = Unit {0}
Loaded s (Goes next) = Unit {0}
Loaded s (Waits next) = Unit {0}
Loaded s Rests = Unit {0}

inside_in-space : (s : Setup) (i : ℕ) (a : Array) (p : Space) (k : ℕ) → a.space ≡ p → k < extent s a → IsInsideIn s (owner_of s i p) a.number k
inside_in-space s i a Global k e h = subst (λ x. k < extent s (record { space = x; number = a.number })) e h
inside_in-space s i a Local k e h =
    let q : suc (group_of s i) ≡ 1 + group_of s i = omega arith in
    subst (λ o. IsInsideIn s o a.number k) q tt

cell-inside : (s : Setup) (i : ℕ) (a : Array) (k : ℕ) → k < extent s a → IsInside s (cell s i a k)
cell-inside s i a k h = inside_in-space s i a a.space k refl h

on_value-loaded : (s : Setup) (i : ℕ) (it : Item) (e : Term) (answers : List Word) (go : Word → List Word → Ask) → ((w : Word) (r : List Word) → Loaded s (go w r)) → Loaded s (on_value s i it (evaluate s i (trail it.left) e it.variables answers) go)
on_value-loaded s i it e answers go h = by (evaluate s i (trail it.left) e it.variables answers) refl
  where
    by : (o : Outcome) → evaluate s i (trail it.left) e it.variables answers ≡ o → Loaded s (on_value s i it o go)
    by (Gives v rest) q = h v rest
    by (Needs a k site) q = (cell-inside s i a k ((heeds s [] i (trail it.left) it.variables e).inside answers a k site q), refl)
    by (Faults f site) q = tt

stores-loaded : (s : Setup) (i : ℕ) (it : Item) (a : Array) (site : Site) (k : Index) (z : ℤ) (rest : List Entry) → Loaded s (stores s i it a site k z rest)
stores-loaded s i it a site (At k) z rest = tt
stores-loaded s i it a site Outside z rest = tt

act-loaded : (s : Setup) (i : ℕ) (it : Item) (st : Statement) (turns : ℕ) (rest : List Entry) → Loaded s (act s i it st turns rest)
act-loaded s i it (Set n x e) turns rest = on_value-loaded s i it e it.answers _ (λ w r. tt)
act-loaded s i it (Store n a site k e) turns rest =
    on_value-loaded s i it k it.answers
    (λ index later. on_value s i it (evaluate s i (trail it.left) e it.variables later) (λ v _. stores s i it a site (within (extent s a) index.value) v.value rest))
    (λ index later. on_value-loaded s i it e later (λ v _. stores s i it a site (within (extent s a) index.value) v.value rest)
    (λ v r. stores-loaded s i it a site (within (extent s a) index.value) v.value rest))
act-loaded s i it (If n e t f) turns rest = on_value-loaded s i it e it.answers _ (λ w r. tt)
act-loaded s i it (Loop n e b u) turns rest = on_value-loaded s i it e it.answers _ (λ w r. tt)
act-loaded s i it (Barrier n l g) turns rest = tt
act-loaded s i it (Return n) turns rest = tt
act-loaded s i it (Break n k) turns rest = tt
act-loaded s i it (Continue n k) turns rest = tt

front-loaded : (s : Setup) (i : ℕ) (it : Item) (left : List Entry) → Loaded s (front s i it left)
front-loaded s i it [] = tt
front-loaded s i it (e ∷ rest) = act-loaded s i it e.statement e.turns rest

passes-loaded : (s : Setup) (it : Item) (left : List Entry) → Loaded s (passes it left)
passes-loaded s it [] = tt
passes-loaded s it (e ∷ rest) = tt

status-loaded : (s : Setup) (i : ℕ) (it : Item) (st : Status) → Loaded s (by_status s i it st)
status-loaded s i it Running = front-loaded s i it it.left
status-loaded s i it Waiting = passes-loaded s it it.left
status-loaded s i it Ended = tt
status-loaded s i it (Stopped f site) = tt

ask-loaded : (s : Setup) (i : ℕ) (it : Item) → Loaded s (ask s i it)
unfolding ask
ask-loaded s i it = status-loaded s i it it.status

pub load-inside : (s : Setup) (i : ℕ) (it : Item) (at : Cell) (kind : Kind) (site : Site) → ask s i it ≡ Loads at kind site → IsInside s at × (kind ≡ kind_at s at)
load-inside s i it at kind site h = subst (Loaded s) h (ask-loaded s i it)

-- what a kept memory holds where an item loads is an honest answer
pub kept-answers : (s : Setup) (cs : List Content) (m : Memory) (i : ℕ) (it : Item) (at : Cell) (kind : Kind) (site : Site) → IsKept s cs m → ask s i it ≡ Loads at kind site → Heeds s cs (Loads at kind site) (m at)
kept-answers s cs m i it at kind site h e =
    let q = load-inside s i it at kind site e in
    subst (λ k. Holds s cs at (as_kind k (m at))) (sym q.1) (h at q.0)

-- a store that keeps what buffers hold leaves a kept memory kept
pub store-kept : (s : Setup) (cs : List Content) (m : Memory) (i : ℕ) (it : Item) (at : Cell) (site : Site) (value : ℤ) (next : Item) → IsKept s cs m → ask s i it ≡ Stores at site value next → Holds s cs at value → IsKept s cs (put at value m)
unfolding put
store-kept s cs m i it at site value next h e held c inside = by (same_cell c at) refl
  where
    kind : in_kind (kind_at s at) value ≡ true
    kind = subst (StoresKind s) e (ask-kind s i it)

    there : c ≡ at → Holds s cs c (as_kind (kind_at s c) value)
    there q = subst (λ x. Holds s cs x (as_kind (kind_at s x) value)) (sym q) (subst (Holds s cs at) (sym (as_kind-same (kind_at s at) value kind)) held)

    by : (b : Bool) → same_cell c at ≡ b → Holds s cs c (as_kind (kind_at s c) (cond b value (m c)))
    by true q = there (same_cell-is c at q)
    by false q = h c inside

-- the memory with which a launch that meets the conditions begins is kept
may_hold-opening : (s : Setup) (a k : ℕ) → k < length (get_or s.launch.buffers a []) → (cs : List Content) → All (IsHeld s.launch) cs → MayHold s cs a (get_or (get_or s.launch.buffers a []) k (pos 0))
may_hold-opening s a k lt [] h = All-nil _
may_hold-opening s a k lt (x ∷ cs) h =
    let held = All-head (IsHeld s.launch) x cs h in
    All-cons (λ (y : Content). y.buffer ≡ a → IsContent s.launch y (get_or (get_or s.launch.buffers a []) k (pos 0))) x cs
    (λ e. All-get_or (IsContent s.launch x) (get_or s.launch.buffers a []) k (pos 0) lt (subst (λ b. All (IsContent s.launch x) (get_or s.launch.buffers b [])) e held))
    (may_hold-opening s a k lt cs (All-tail (IsHeld s.launch) x cs h))

holds-opening : (s : Setup) (cs : List Content) → All (IsHeld s.launch) cs → (o a k : ℕ) → IsInsideIn s o a k → HoldsIn s cs o a (opening_at s o a k)
holds-opening s cs h zero a k inside = may_hold-opening s a k inside cs h
holds-opening s cs h (suc g) a k inside = tt

pub opening-kept : (s : Setup) (c : Conditions) → Fits s.kernel s.launch → Meets c s.launch → IsKept s c.contents (opening_memory s)
opening-kept s c f m x inside =
    subst (Holds s c.contents x) (sym (as_kind-same (kind_at s x) (opening_memory s x) (opening-kind s f x.owner x.array x.index))) (holds-opening s c.contents m.contents x.owner x.array x.index inside)
