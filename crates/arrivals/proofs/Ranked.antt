-- How each loop that is left came to be ranked: by the true tests that it had so far, each with where the item came to it from.
use Rattle.std.proofs.Common.{◌≡◌, ℕ, zero, suc, ◌+◌, ℤ, Bool, true, false, nat_eq, cond, List, [], ◌∷◌, arith, refl, sym, subst, eq-eqb, eqb-true}
use Rattle.std.specs.Prelude.{◌⊎◌}
use Rattle.semantics.specs.Core.{Term, Statement, Set, Store, If, Loop, Barrier, Return, Break, Continue, Statements, none, one, number}
use Rattle.semantics.specs.Setup.{Setup}
use Rattle.semantics.specs.Item.{Entry, enter, leave, resume, update_of}
use Rattle.arrivals.specs.Points.{Has}
use Rattle.arrivals.specs.Trees.{Step, AtHead, End, IsEnd, Front, IsFront}
use Rattle.arrivals.specs.LoopTests.{IsTest, IsEntering}
use Rattle.arrivals.specs.Places.{Place, places, tree}
use Rattle.arrivals.specs.Paths.{Held, ranked}
use Rattle.arrivals.specs.Shown.{Notes, Came}
use Rattle.arrivals.proofs.Tests.{true_false, or_left, or_right}
use Rattle.arrivals.proofs.Counting.{Counts, Fits, FitsOne, owns, owned}
use Rattle.arrivals.proofs.Controlled.{has_turned}

-- an item has come to a loop with a barrier
pub record AtLoop (s : Setup) (k : Notes) (i n : ℕ) (again : Bool) (here : Held) : Type 0 where
  pub place : Place
  pub is_place : Has place (places s.kernel.body)
  pub front : Front
  pub is_front : IsFront front [] (tree s.kernel.body place)
  pub test : IsTest n again front.statement.statement front.statement.again
  pub start : Held
  pub came : Came s k place i front.path start here

-- to the head of one without
pub record AtLoopHead (s : Setup) (k : Notes) (i n : ℕ) (again : Bool) (here : Held) : Type 0 where
  pub place : Place
  pub is_place : Has place (places s.kernel.body)
  pub leaf : End
  pub is_leaf : IsEnd leaf [] (tree s.kernel.body place)
  pub stops : leaf.stop ≡ AtHead n again
  pub start : Held
  pub came : Came s k place i leaf.path start here

abbrev pub AtTest : Setup → Notes → (i n : ℕ) (again : Bool) (here : Held) → Type 0
AtTest s k i n again here = AtLoop s k i n again here ⊎ AtLoopHead s k i n again here

-- the loop's test was true
pub record Entering (s : Setup) (k : Notes) (i n : ℕ) (here : Held) : Type 0 where
  pub place : Place
  pub is_place : Has place (places s.kernel.body)
  pub path : List Step
  pub is_entering : IsEntering n path [] (tree s.kernel.body place)
  pub start : Held
  pub came : Came s k place i path start here

-- where a loop is in front, the item has come to its test
abbrev pub IsTested : Setup → Notes → (i : ℕ) → Statement → (again : Bool) (here : Held) → Type 0
IsTested s k i (Set m x e) a here = Unit {0}
IsTested s k i (Store m y site j e) a here = Unit {0}
IsTested s k i (If m e yeses noes) a here = Unit {0}
IsTested s k i (Loop m e b u) a here = AtTest s k i m a here
IsTested s k i (Barrier m l g) a here = Unit {0}
IsTested s k i (Return m) a here = Unit {0}
IsTested s k i (Break m j) a here = Unit {0}
IsTested s k i (Continue m j) a here = Unit {0}

-- after so many turns the loop's rank is this: the newest turn first
abbrev pub Ran : Setup → Notes → (i n : ℕ) (turns : ℕ) → ℤ → Type 0
Ran s k i n zero z = Unit {0}
Ran s k i n (suc t) z = (here : Held) × ((z ≡ k.rank n i here) × (AtTest s k i n (has_turned t) here × (Entering s k i n here × Ran s k i n t (here.ranks n))))

-- of all that is left; what is no loop has not turned
abbrev pub AreRan : Setup → Notes → ℕ → (ranks : ℕ → ℤ) → List Entry → Type 0
AreRan s k i ranks [] = Unit {0}
AreRan s k i ranks (e ∷ r) = Ran s k i (number e.statement) e.turns (ranks (number e.statement)) × AreRan s k i ranks r

module _ (s : Setup) (k : Notes) (i : ℕ) where
  pub ran-enter : (ranks : ℕ → ℤ) (ss : Statements) (r : List Entry) → AreRan s k i ranks r → AreRan s k i ranks (enter ss r)
  ran-enter ranks none r h = h
  ran-enter ranks (one x ss) r h = (tt, ran-enter ranks ss r h)

  pub ran-leave : (ranks : ℕ → ℤ) (m : ℕ) (r : List Entry) → AreRan s k i ranks r → AreRan s k i ranks (leave m r)
  ran-leave ranks m [] h = h
  ran-leave ranks m (e ∷ r) h = by (nat_eq (number e.statement) m) (ran-leave ranks m r h.1)
    where
      by : (x : Bool) → AreRan s k i ranks (leave m r) → AreRan s k i ranks (cond x r (leave m r))
      by true g = h.1
      by false g = g

  pub ran-resume : (ranks : ℕ → ℤ) (m : ℕ) (r : List Entry) → AreRan s k i ranks r → AreRan s k i ranks (resume m r)
  ran-resume ranks m [] h = h
  ran-resume ranks m (e ∷ r) h = by (nat_eq (number e.statement) m) (ran-resume ranks m r h.1)
    where
      by : (x : Bool) → AreRan s k i ranks (resume m r) → AreRan s k i ranks (cond x (enter (update_of e.statement) (e ∷ r)) (resume m r))
      by true g = ran-enter ranks (update_of e.statement) (e ∷ r) h
      by false g = g

  -- what is no loop has not turned; of a loop the rank is the same
  one-same : (ranks later : ℕ → ℤ) (c : Counts) (st : Statement) (t : ℕ) → ((m : ℕ) → owns m st ≡ true → later m ≡ ranks m) → FitsOne c st t → Ran s k i (number st) t (ranks (number st)) → Ran s k i (number st) t (later (number st))
  one-same ranks later c (Set m x e) t same f h = subst (λ t. Ran s k i m t (later m)) (sym f) tt
  one-same ranks later c (Store m y site j e) t same f h = subst (λ t. Ran s k i m t (later m)) (sym f) tt
  one-same ranks later c (If m e yeses noes) t same f h = subst (λ t. Ran s k i m t (later m)) (sym f.0) tt
  one-same ranks later c (Loop m e b u) t same f h = subst (Ran s k i m t) (sym (same m (eq-eqb m m refl))) h
  one-same ranks later c (Barrier m l g) t same f h = subst (λ t. Ran s k i m t (later m)) (sym f) tt
  one-same ranks later c (Return m) t same f h = subst (λ t. Ran s k i m t (later m)) (sym f) tt
  one-same ranks later c (Break m j) t same f h = subst (λ t. Ran s k i m t (later m)) (sym f) tt
  one-same ranks later c (Continue m j) t same f h = subst (λ t. Ran s k i m t (later m)) (sym f) tt

  ran-same : (ranks later : ℕ → ℤ) (c : Counts) (r : List Entry) → ((m : ℕ) → owned m r ≡ true → later m ≡ ranks m) → Fits c r → AreRan s k i ranks r → AreRan s k i later r
  ran-same ranks later c [] same f h = h
  ran-same ranks later c (e ∷ r) same f h = (
    one-same ranks later c e.statement e.turns (λ m q. same m (or_left (owns m e.statement) (owned m r) q)) f.0 h.0,
    ran-same ranks later c r (λ m q. same m (or_right (owns m e.statement) (owned m r) q)) f.1 h.1,
  )

  -- a loop has turned once more
  pub ran-turn : (c : Counts) (n : ℕ) (e : Term) (b u : Statements) (t : ℕ) (r : List Entry) (here : Held) → owned n r ≡ false → Fits c r → AtTest s k i n (has_turned t) here → Entering s k i n here → AreRan s k i here.ranks (record { statement = Loop n e b u; turns = t } ∷ r) → AreRan s k i (ranked k.rank n i here).ranks (record { statement = Loop n e b u; turns = t + 1 } ∷ r)
  ran-turn c n e b u t r here out f a x h =
      let m : suc t ≡ t + 1 = omega arith in
      let new = mine (nat_eq n n) (eq-eqb n n refl) in
      (subst (λ t. Ran s k i n t ((ranked k.rank n i here).ranks n)) m (here, (new, (a, (x, h.0)))), ran-same here.ranks (ranked k.rank n i here).ranks c r (λ m q. other m (nat_eq m n) refl q) f h.1)
    where
      mine : (x : Bool) → x ≡ true → cond x (k.rank n i here) (here.ranks n) ≡ k.rank n i here
      mine true q = refl
      mine false q = cc

      other : (m : ℕ) (x : Bool) → nat_eq m n ≡ x → owned m r ≡ true → cond x (k.rank n i here) (here.ranks m) ≡ here.ranks m
      other m true q o = absurd (true_false (owned m r) o (subst (λ y. owned y r ≡ false) (sym (eqb-true m n q)) out))
      other m false q o = refl
