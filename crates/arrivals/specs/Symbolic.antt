-- A walk of statements with forms, over any walk of terms: the same ways on as those of the trees, with a state that knows the forms of
-- the variables and the facts so far. A term may split the path, and a claim, a fact or an access is a note.
use Rattle.std.specs.Prelude.{ℕ, Bool, true, false, ◌||◌, cond, nat_eq, List, [], ◌∷◌, Option, Some, None, ◌≡◌, slice_set}
use Rattle.semantics.specs.Word.{Word, is_zero}
use Rattle.semantics.specs.Core.{Term, Statement, Set, Store, If, Loop, Barrier, Return, Break, Continue, Statements, none, one, number}
use Rattle.semantics.specs.Item.{update_of}
use Rattle.semantics.specs.Setup.{Setup}
use Rattle.semantics.specs.Conditions.{Content}
use Rattle.arrivals.specs.Loops.{have_barrier}
use Rattle.arrivals.specs.Points.{Point, Left, fresh, turning, join}
use Rattle.arrivals.specs.Places.{Place, behind}
use Rattle.arrivals.specs.Trees.{Stop, AtBarrier, AtHead, AtEnd, Turns, turned}
use Rattle.arrivals.specs.Paths.{CanBe, Held, held, Ranking, ranked}

-- a walk of terms, over its trees, its states and its forms: a value's form, a test either way, and what becomes of a variable; what is
-- claimed where an item comes to a loop's test and where that was true; a store's access; and where a tree ends
pub record Terms (T S F : Type 0) : Type 0 where
  pub value : (statement : ℕ) → Term → S → (F → S → T) → T
  pub test : (statement : ℕ) → Term → S → (taken skipped : S → T) → T
  pub set : S → ℕ → F → S
  pub arrive : (loop : ℕ) (again : Bool) → S → (S → T) → T
  pub enter : (loop : ℕ) → S → (S → T) → T
  pub store : Statement → (index value : F) → S → (S → T) → T
  pub stops : Stop → Turns → S → T

abbrev pub Drawn : (T S : Type 0) → Type 0
Drawn T S = Turns → S → T

pub record Courses (T S : Type 0) : Type 0 where
  pub go : Drawn T S
  pub out : ℕ → Drawn T S
  pub back : ℕ → Drawn T S

abbrev pub finish : {T S F : Type 0} → Terms T S F → Drawn T S
finish k t st = k.stops AtEnd t st

abbrev pub inside : {T S F : Type 0} → Terms T S F → Drawn T S → Courses T S
inside k go = record { go = finish k; out = λ m. go; back = λ m. finish k }

abbrev pub draw_loop : {T S F : Type 0} → Terms T S F → Bool → ℕ → (again : Bool) → Term → (body go : Drawn T S) → Drawn T S
draw_loop k true n a e body go t st = k.arrive n a st (λ st1. k.test n e st1 (λ st2. k.enter n st2 (λ st3. body (turned n t) st3)) (λ st2. go t st2))
draw_loop k false n a e body go t st = k.arrive n a st (λ st1. k.stops (AtHead n a) t st1)

abbrev mutual
  pub draw_one : {T S F : Type 0} → Terms T S F → (again : Bool) → Statement → Courses T S → Drawn T S
  draw_one k a (Set n x e) w t st = k.value n e st (λ f st'. w.go t (k.set st' x f))
  draw_one k a (Store n y site i e) w t st = k.value n i st (λ f st'. k.value n e st' (λ g st''. k.store (Store n y site i e) f g st'' (λ st'''. w.go t st''')))
  draw_one k a (If n e yeses noes) w t st = k.test n e st (λ st'. draw k yeses w t st') (λ st'. draw k noes w t st')
  draw_one k a (Loop n e b u) w t st = draw_loop k (have_barrier b || have_barrier u) n a e (λ t' st'. draw k b (inside k w.go) t' st') w.go t st
  draw_one k a (Barrier n l g) w t st = k.stops (AtBarrier n) t st
  draw_one k a (Return n) w t st = k.stops AtEnd t st
  draw_one k a (Break n m) w t st = w.out m t st
  draw_one k a (Continue n m) w t st = w.back m t st

  pub draw : {T S F : Type 0} → Terms T S F → Statements → Courses T S → Drawn T S
  draw k none w t st = w.go t st
  draw k (one s ss) w t st = draw_one k false s (record { go = λ t' st'. draw k ss w t' st'; out = w.out; back = w.back }) t st

abbrev pub ahead : {T S F : Type 0} → Terms T S F → Left → Courses T S → Courses T S
ahead k s w = record {
  go = draw_one k s.again s.statement w;
  out = λ m. cond (nat_eq (number s.statement) m) w.go (w.out m);
  back = λ m. cond (nat_eq (number s.statement) m) (draw k (update_of s.statement) (record { go = draw_one k s.again s.statement w; out = w.out; back = w.back })) (w.back m);
}

abbrev pub courses : {T S F : Type 0} → Terms T S F → List Left → Courses T S
courses k [] = record { go = finish k; out = λ m. finish k; back = λ m. finish k }
courses k (s ∷ ss) = ahead k s (courses k ss)

-- at a head the test comes first, then what is really left
abbrev pub draw_head : {T S F : Type 0} → Terms T S F → Statement → List Left → Drawn T S
draw_head k (Loop n e b u) rest t st = k.test n e st (λ st1. k.enter n st1 (λ st'. (courses k (join b (join u (turning (Loop n e b u) ∷ rest)))).go t st')) (λ st'. (courses k rest).go t st')
draw_head k s rest t st = (courses k (fresh s ∷ rest)).go t st

abbrev pub sketch_from : {T S F : Type 0} → Terms T S F → Statements → (anchor head : Option Point) → Drawn T S
sketch_from k body a None t st = (courses k (behind body a)).go t st
sketch_from k body a (Some h) t st = draw_head k h.statement h.rest t st

-- the sketch of a place, from a state of its own
abbrev pub sketch : {T S F : Type 0} → Terms T S F → Statements → Place → S → T
sketch k body p st = sketch_from k body p.anchor p.head p.turns st

-- the walk of terms goes along with what terms can be. `At` says that an item with these variables stands at a point of the sketch,
-- with this state
pub record Faithful (s : Setup) (cs : List Content) (r : Ranking) (i : ℕ) (T S F : Type 0) (k : Terms T S F) (At : T → S → Held → Type 0) : Type 0 where
  pub value : (n : ℕ) (e : Term) (st : S) (from : Held) (v : Word) (go : F → S → T) → At (k.value n e st go) st from → CanBe s cs i e from.variables v → (f : F) × ((st' : S) × At (go f st') st' from)
  pub taken : (n : ℕ) (e : Term) (st : S) (from : Held) (v : Word) (yeses noes : S → T) → At (k.test n e st yeses noes) st from → CanBe s cs i e from.variables v → is_zero v.value ≡ false → (st' : S) × At (yeses st') st' from
  pub skipped : (n : ℕ) (e : Term) (st : S) (from : Held) (v : Word) (yeses noes : S → T) → At (k.test n e st yeses noes) st from → CanBe s cs i e from.variables v → is_zero v.value ≡ true → (st' : S) × At (noes st') st' from
  pub set : (n : ℕ) (e : Term) (x : ℕ) (st : S) (from : Held) (v : Word) (go : S → T) → At (k.value n e st (λ f st'. go (k.set st' x f))) st from → CanBe s cs i e from.variables v → (st' : S) × At (go st') st' (held (slice_set from.variables x v) from.ranks)
  pub arrive : (n : ℕ) (again : Bool) (st : S) (from : Held) (go : S → T) → At (k.arrive n again st go) st from → (st' : S) × At (go st') st' from
  pub enter : (n : ℕ) (st : S) (from : Held) (go : S → T) → At (k.enter n st go) st from → (st' : S) × At (go st') st' (ranked r n i from)
  pub store : (a : Statement) (f g : F) (st : S) (from : Held) (go : S → T) → At (k.store a f g st go) st from → (st' : S) × At (go st') st' from

-- an item stands in front of a statement: at a loop, of its test
abbrev pub AtFront : {T S F : Type 0} → Terms T S F → (At : T → S → Held → Type 0) → Statement → (here : Held) → Type 0
AtFront {T} {S} k At (Loop n e b u) here = (st : S) × ((yeses : (S → T)) × ((noes : (S → T)) × At (k.test n e st yeses noes) st here))
AtFront {T} {S} k At a here = (again : Bool) × ((st : S) × ((t : Turns) × ((c : Courses T S) × At (draw_one k again a c t st) st here)))

-- it has come to the test of a loop, where the claim on its rank is made; the test was true, and the loop is entered next
abbrev pub AtArrival : {T S F : Type 0} → Terms T S F → (At : T → S → Held → Type 0) → (loop : ℕ) (again : Bool) (here : Held) → Type 0
AtArrival {T} {S} k At n again here = (st : S) × ((go : (S → T)) × At (k.arrive n again st go) st here)

abbrev pub AtEntering : {T S F : Type 0} → Terms T S F → (At : T → S → Held → Type 0) → (loop : ℕ) (here : Held) → Type 0
AtEntering {T} {S} k At n here = (st : S) × ((go : (S → T)) × At (k.enter n st go) st here)
