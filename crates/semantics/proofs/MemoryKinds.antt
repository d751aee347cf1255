-- The numbers in memory stay in their array's kind.
use Rattle.std.proofs.Common.{◌≡◌, ◌<◌, ◌^◌, ℕ, zero, suc, ℤ, pos, List, [], ◌∷◌, get_or, Bool, true, false, cond, Option, Some, None, refl, sym, ap, ◌∙◌, arith, lt-ltb, nat_lt}
use Rattle.std.specs.List.{All, AllZip}
use Rattle.std.proofs.lemmas.List.Elements.{All-head, All-tail}
use Rattle.semantics.specs.Word.{Kind, Int, Uint, Size, Word, in_kind}
use Rattle.semantics.specs.Core.{Site, Array, Statement, Set, Store, If, Loop, Barrier, Return, Break, Continue}
use Rattle.semantics.specs.Launch.{IsBuffer, Fits}
use Rattle.semantics.specs.Setup.{Setup, item_count}
use Rattle.semantics.specs.Memory.{Cell, Memory, cell, extent, kind_at, kind_in, opening_at, put, same_cell}
use Rattle.semantics.specs.Evaluation.{Outcome, Gives, Needs, Faults, evaluate, Index, At, Outside, within}
use Rattle.semantics.specs.Item.{Entry, Status, Running, Waiting, Ended, Stopped, Item, trail}
use Rattle.semantics.specs.Ask.{Ask, Loads, Stores, Goes, Waits, Rests, on_value, stores, act, front, passes, by_status, ask}
use Rattle.semantics.specs.World.{World, Event, Step, Release, stepped, released, happens, run, then_run, opening_world}
use Rattle.semantics.proofs.Words.{as_kind-in_kind}
use Rattle.semantics.proofs.Updates.{same_cell-is}
use Rattle.semantics.proofs.Events.{some-is, guarded-is, let_go}

-- a store stores a number of its element's kind
abbrev pub StoresKind : Setup → Ask → Type 0
StoresKind s (Loads at kind site) = Unit {0}
StoresKind s (Stores at site value next) = in_kind (kind_at s at) value ≡ true
StoresKind s (Goes next) = Unit {0}
StoresKind s (Waits next) = Unit {0}
StoresKind s Rests = Unit {0}

on_value-kind : (s : Setup) (i : ℕ) (it : Item) (o : Outcome) (go : Word → List Word → Ask) → ((w : Word) (r : List Word) → StoresKind s (go w r)) → StoresKind s (on_value s i it o go)
on_value-kind s i it (Gives v rest) go h = h v rest
on_value-kind s i it (Needs a k site) go h = tt
on_value-kind s i it (Faults f site) go h = tt

stores-kind : (s : Setup) (i : ℕ) (it : Item) (a : Array) (site : Site) (k : Index) (z : ℤ) (rest : List Entry) → StoresKind s (stores s i it a site k z rest)
stores-kind s i it a site (At k) z rest = as_kind-in_kind (kind_at s (cell s i a k)) z
stores-kind s i it a site Outside z rest = tt

act-kind : (s : Setup) (i : ℕ) (it : Item) (st : Statement) (turns : ℕ) (rest : List Entry) → StoresKind s (act s i it st turns rest)
act-kind s i it (Set n x e) turns rest = on_value-kind s i it (evaluate s i (trail it.left) e it.variables it.answers) _ (λ w r. tt)
act-kind s i it (Store n a site k e) turns rest =
    on_value-kind s i it (evaluate s i (trail it.left) k it.variables it.answers)
    (λ index later. on_value s i it (evaluate s i (trail it.left) e it.variables later) (λ v _. stores s i it a site (within (extent s a) index.value) v.value rest))
    (λ index later. on_value-kind s i it (evaluate s i (trail it.left) e it.variables later) (λ v _. stores s i it a site (within (extent s a) index.value) v.value rest)
    (λ v r. stores-kind s i it a site (within (extent s a) index.value) v.value rest))
act-kind s i it (If n e t f) turns rest = on_value-kind s i it (evaluate s i (trail it.left) e it.variables it.answers) _ (λ w r. tt)
act-kind s i it (Loop n e b u) turns rest = on_value-kind s i it (evaluate s i (trail it.left) e it.variables it.answers) _ (λ w r. tt)
act-kind s i it (Barrier n l g) turns rest = tt
act-kind s i it (Return n) turns rest = tt
act-kind s i it (Break n k) turns rest = tt
act-kind s i it (Continue n k) turns rest = tt

front-kind : (s : Setup) (i : ℕ) (it : Item) (left : List Entry) → StoresKind s (front s i it left)
front-kind s i it [] = tt
front-kind s i it (e ∷ rest) = act-kind s i it e.statement e.turns rest

passes-kind : (s : Setup) (it : Item) (left : List Entry) → StoresKind s (passes it left)
passes-kind s it [] = tt
passes-kind s it (e ∷ rest) = tt

status-kind : (s : Setup) (i : ℕ) (it : Item) (st : Status) → StoresKind s (by_status s i it st)
status-kind s i it Running = front-kind s i it it.left
status-kind s i it Waiting = passes-kind s it it.left
status-kind s i it Ended = tt
status-kind s i it (Stopped f site) = tt

pub ask-kind : (s : Setup) (i : ℕ) (it : Item) → StoresKind s (ask s i it)
unfolding ask
ask-kind s i it = status-kind s i it it.status

abbrev pub InKinds : Setup → Memory → Type 0
InKinds s m = (c : Cell) → in_kind (kind_at s c) (m c) ≡ true

put-kind : (s : Setup) (at c : Cell) (z : ℤ) (m : Memory) → in_kind (kind_at s at) z ≡ true → in_kind (kind_at s c) (m c) ≡ true → in_kind (kind_at s c) (put at z m c) ≡ true
unfolding put
put-kind s at c z m h before = by (same_cell c at) refl
  where
    by : (b : Bool) → same_cell c at ≡ b → in_kind (kind_at s c) (cond b z (m c)) ≡ true
    by true e = ap (λ (x : Cell). in_kind (kind_at s x) z) (same_cell-is c at e) ∙ h
    by false e = before

stepped-kinds : (s : Setup) (w v : World) (i : ℕ) (k : Ask) → StoresKind s k → stepped w i k ≡ Some v → InKinds s w.memory → InKinds s v.memory
stepped-kinds s w v i (Loads at kind site) f h m c = ap (λ (x : World). in_kind (kind_at s c) (x.memory c)) (sym (some-is _ v h)) ∙ m c
stepped-kinds s w v i (Stores at site value next) f h m c = ap (λ (x : World). in_kind (kind_at s c) (x.memory c)) (sym (some-is _ v h)) ∙ put-kind s at c value w.memory f (m c)
stepped-kinds s w v i (Goes next) f h m c = ap (λ (x : World). in_kind (kind_at s c) (x.memory c)) (sym (some-is _ v h)) ∙ m c
stepped-kinds s w v i (Waits next) f h m c = cc
stepped-kinds s w v i Rests f h m c = cc

event-kinds : (s : Setup) (w v : World) (e : Event) → happens s w e ≡ Some v → InKinds s w.memory → InKinds s v.memory
unfolding happens released
event-kinds s w v (Step i) h m =
    stepped-kinds s w v i (ask s i (w.items i)) (ask-kind s i (w.items i)) (guarded-is (nat_lt i (item_count s)) (stepped w i (ask s i (w.items i))) v h).1 m
event-kinds s w v (Release g) h m = λ c. ap (λ (x : World). in_kind (kind_at s c) (x.memory c)) (let_go s g w v h).after ∙ m c

run_on : (s : Setup) (e : Event) (es : List Event) (w v : World) → InKinds s w.memory → ((u : World) → run s es u ≡ Some v → InKinds s u.memory → InKinds s v.memory) → (o : Option World) → happens s w e ≡ o → then_run o (run s es) ≡ Some v → InKinds s v.memory
run_on s e es w v m again None h r = cc
run_on s e es w v m again (Some u) h r = again u r (event-kinds s w u e h m)

pub run-kinds : (s : Setup) (es : List Event) (w v : World) → run s es w ≡ Some v → InKinds s w.memory → InKinds s v.memory
run-kinds s [] w v h m = λ c. ap (λ (x : World). in_kind (kind_at s c) (x.memory c)) (sym (some-is w v h)) ∙ m c
run-kinds s (e ∷ es) w v h m = run_on s e es w v m (λ u r q. run-kinds s es u v r q) (happens s w e) refl h

buffer-kind : (k : Kind) (zs : List ℤ) (n : ℕ) → All (λ z. in_kind k z ≡ true) zs → in_kind k (get_or zs n (pos 0)) ≡ true
buffer-kind Int [] n h = refl
buffer-kind Uint [] n h = refl
buffer-kind Size [] n h = refl
buffer-kind k (z ∷ zs) zero h = All-head (λ x. in_kind k x ≡ true) z zs h
buffer-kind k (z ∷ zs) (suc n) h = buffer-kind k zs n (All-tail (λ x. in_kind k x ≡ true) z zs h)

buffers-kind : (ks : List Kind) (bs : List (List ℤ)) (a n : ℕ) → AllZip IsBuffer ks bs → in_kind (get_or ks a Int) (get_or (get_or bs a []) n (pos 0)) ≡ true
buffers-kind [] [] a n h = refl
buffers-kind [] (b ∷ bs) a n h = elim h [ ]
buffers-kind (k ∷ ks) [] a n h = elim h [ ]
buffers-kind (k ∷ ks) (b ∷ bs) zero n h = buffer-kind k b n h.0.1
buffers-kind (k ∷ ks) (b ∷ bs) (suc a) n h = buffers-kind ks bs a n h.1

fill-kind : (k : Kind) (n : ℕ) → n < 2 ^ 31 → in_kind k (pos n) ≡ true
fill-kind Int n h = lt-ltb n (2 ^ 31) h
fill-kind Uint n h = lt-ltb n (2 ^ 32) (omega arith)
fill-kind Size n h = lt-ltb n (2 ^ 32) (omega arith)

pub opening-kind : (s : Setup) → Fits s.kernel s.launch → (o a n : ℕ) → in_kind (kind_in s o a) (opening_at s o a n) ≡ true
opening-kind s f zero a n = buffers-kind s.kernel.buffers s.launch.buffers a n f.buffers
opening-kind s f (suc g) a n = fill-kind (kind_in s (suc g) a) s.launch.fill f.fill

pub memory-kinds : (s : Setup) (es : List Event) (w : World) (c : Cell) → Fits s.kernel s.launch → run s es (opening_world s) ≡ Some w → in_kind (kind_at s c) (w.memory c) ≡ true
unfolding opening_world
memory-kinds s es w c f h = run-kinds s es (opening_world s) w h (λ d. opening-kind s f d.owner d.array d.index) c
