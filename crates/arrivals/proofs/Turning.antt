-- A turn of a loop, an early exit, and lists left that are told by their statements and the counts.
use Rattle.std.proofs.Common.{◌≡◌, ℕ, ◌+◌, Bool, true, false, ◌||◌, nat_eq, cond, List, [], ◌∷◌, refl, sym, ap, ap₂, ◌∙◌, inr, eq-eqb, eqb-true, subst}
use Rattle.semantics.specs.Core.{Term, Statement, Set, Store, If, Loop, Barrier, Return, Break, Continue, Statements, number}
use Rattle.semantics.specs.Item.{Entry, enter, leave, resume, update_of}
use Rattle.arrivals.specs.Loops.{has_barrier, have_barrier, slip, skip, first_of, loop_fault, unmet}
use Rattle.arrivals.specs.Points.{Has, Point, points, has_loop, have_loop, join, Left, turning}
use Rattle.arrivals.proofs.Tests.{refuted, true_false, or_left, or_right, none_left, none_right, neither}
use Rattle.arrivals.proofs.Counting.{Counts, turn, Fits, FitsAll, FitsOne, own, owned, owned-enter, own-have, fits-same, fits_all-new, fits_all-calm}
use Rattle.arrivals.proofs.Joined.{has_left, has_right}
use Rattle.arrivals.proofs.NoPoints.{no_points}
use Rattle.arrivals.proofs.Controlled.{Settled, bare, bare-enter, settled-enter, first_none, second_none, Controlled, controlled-rest, controlled-enter, has_turned, turned-once_more}

pub cond-false : {A : Type 0} (b : Bool) (x y : A) → b ≡ false → cond b x y ≡ y
cond-false true x y h = cc
cond-false false x y h = refl

pub cond-true : {A : Type 0} (b : Bool) (x y : A) → b ≡ true → cond b x y ≡ x
cond-true true x y h = refl
cond-true false x y h = cc

module _ (all : List Point) (c : Counts) (n : ℕ) (e : Term) (b u : Statements) (t : ℕ) (r : List Entry) where
  abbrev loop : Statement
  loop = Loop n e b u

  abbrev again : Entry
  again = record { statement = Loop n e b u; turns = t }

  -- with the loop in front, its body is entered
  body-entered : has_turned t ≡ true → Controlled all c (again ∷ r) → FitsAll c b → FitsAll c u → ((have_barrier b || have_barrier u) ≡ true → Settled (again ∷ r)) → Controlled all c (enter b (enter u (again ∷ r)))
  body-entered ht h fb fu calm =
      let updated = controlled-enter all c u (again ∷ r) fu (λ q. calm (or_right (have_barrier b) (have_barrier u) q)) h.separate.0.1.1.1.0 (λ k q. absurd (true_false (have_loop k u) q (h.separate.0.1.1.1.1.no_loop k)))
      (λ p k. h.covered.0 p (inr (has_right p (points b (join u (turning loop ∷ bare r))) (points u (turning loop ∷ bare r)) (subst (λ x. Has p (points u (record { statement = loop; again = x } ∷ bare r))) ht k)))) (second_none (unmet b) (unmet u) (second_none (loop_fault (have_barrier b || have_barrier u) (slip b || skip b) n) (first_of (unmet b) (unmet u)) h.met.0)) h in
      controlled-enter all c b (enter u (again ∷ r)) fb (λ q. settled-enter u (again ∷ r) (calm (or_left (have_barrier b) (have_barrier u) q))) h.separate.0.1.1.0
      (λ k q. owned-enter k u (again ∷ r) ∙ neither (own k u) (nat_eq n k || owned k r) (own-have k u (h.separate.0.1.1.1.1.no_loop k))
      (neither (nat_eq n k) (owned k r) (refuted (nat_eq n k) (λ same. true_false (have_loop k b) q (subst (λ m. have_loop m b ≡ false) (eqb-true n k same) h.separate.0.0)))
      (h.separate.1.0 k (or_right (nat_eq n k) (have_loop k b || have_loop k u) (or_left (have_loop k b) (have_loop k u) q)))))
      (λ p k. h.covered.0 p (inr (has_left p (points b (join u (turning loop ∷ bare r))) (points u (turning loop ∷ bare r)) (subst (λ x. Has p (points b (join u (record { statement = loop; again = x } ∷ bare r)))) ht (subst (λ rest. Has p (points b rest)) (bare-enter u (again ∷ r)) k))))) (first_none (unmet b) (unmet u) (second_none (loop_fault (have_barrier b || have_barrier u) (slip b || skip b) n) (first_of (unmet b) (unmet u)) h.met.0)) updated

-- a loop with a barrier has turned: it is counted
pub controlled-turn : (all : List Point) (c : Counts) (n : ℕ) (e : Term) (b u : Statements) (t : ℕ) (r : List Entry) → (have_barrier b || have_barrier u) ≡ true → Controlled all c (record { statement = Loop n e b u; turns = t } ∷ r) → Controlled all (turn (Loop n e b u) c) (enter b (enter u (record { statement = Loop n e b u; turns = t + 1 } ∷ r)))
controlled-turn all c n e b u t r hb h = body-entered all (turn s c) n e b u (t + 1) r (turned-once_more t) (record {
  fits = ((λ q. ap (λ m. m + 1) (h.fits.0 hb) ∙ sym (cond-true (nat_eq n n) (c n + 1) _ (eq-eqb n n refl))), fits-same c (turn s c) r outside h.fits.1);
  calm = h.calm;
  separate = h.separate;
  covered = h.covered;
  met = h.met;
}) (fits_all-new (turn s c) b inside) (fits_all-new (turn s c) u (λ k q. absurd (true_false (have_loop k u) q (h.separate.0.1.1.1.1.no_loop k)))) (λ q. ((λ k. absurd (true_false (have_barrier b || have_barrier u) hb k)), h.calm.0 hb))
  where
    s : Statement
    s = Loop n e b u

    outside : (k : ℕ) → owned k r ≡ true → turn s c k ≡ c k
    outside k q =
        let no : has_loop k s ≡ false = refuted (has_loop k s) (λ y. true_false (owned k r) q (h.separate.1.0 k y)) in
        cond-false (nat_eq n k) (c k + 1) _ (none_left (nat_eq n k) (have_loop k b || have_loop k u) no) ∙ cond-false (has_loop k s) 0 (c k) no

    inside : (k : ℕ) → have_loop k b ≡ true → turn s c k ≡ 0
    inside k q =
        cond-false (nat_eq n k) (c k + 1) _ (refuted (nat_eq n k) (λ same. true_false (have_loop k b) q (subst (λ m. have_loop m b ≡ false) (eqb-true n k same) h.separate.0.0)))
        ∙ cond-true (has_loop k s) 0 (c k) (or_right (nat_eq n k) (have_loop k b || have_loop k u) (or_left (have_loop k b) (have_loop k u) q))

-- a loop without a barrier has turned
pub controlled-again : (all : List Point) (c : Counts) (n : ℕ) (e : Term) (b u : Statements) (t : ℕ) (r : List Entry) → (have_barrier b || have_barrier u) ≡ false → Controlled all c (record { statement = Loop n e b u; turns = t } ∷ r) → Controlled all c (enter b (enter u (record { statement = Loop n e b u; turns = t + 1 } ∷ r)))
controlled-again all c n e b u t r hb h = body-entered all c n e b u (t + 1) r (turned-once_more t) (record {
  fits = ((λ q. absurd (true_false (have_barrier b || have_barrier u) q hb)), h.fits.1);
  calm = h.calm;
  separate = h.separate;
  covered = h.covered;
  met = h.met;
}) (fits_all-calm c b (none_left (have_barrier b) (have_barrier u) hb)) (fits_all-calm c u (none_right (have_barrier b) (have_barrier u) hb)) (λ q. absurd (true_false (have_barrier b || have_barrier u) q hb))

-- early exits
pub controlled-leave : (all : List Point) (c : Counts) (k : ℕ) (left : List Entry) → Controlled all c left → Controlled all c (leave k left)
controlled-leave all c k [] h = h
controlled-leave all c k (e ∷ r) h = by (nat_eq (number e.statement) k) (controlled-leave all c k r (controlled-rest all c e r h))
  where
    by : (x : Bool) → Controlled all c (leave k r) → Controlled all c (cond x r (leave k r))
    by true g = controlled-rest all c e r h
    by false g = g

updated : (all : List Point) (c : Counts) (s : Statement) (t : ℕ) (r : List Entry) → Controlled all c (record { statement = s; turns = t } ∷ r) → Controlled all c (enter (update_of s) (record { statement = s; turns = t } ∷ r))
updated all c (Set n x e) t r h = h
updated all c (Store n a site i e) t r h = h
updated all c (If n e yeses noes) t r h = h
updated all c (Loop n e b u) t r h =
    controlled-enter all c u (record { statement = Loop n e b u; turns = t } ∷ r) (fits_all-new c u (λ k q. absurd (true_false (have_loop k u) q (h.separate.0.1.1.1.1.no_loop k))))
    (λ q. ((λ k. absurd (true_false (have_barrier b || have_barrier u) (or_right (have_barrier b) (have_barrier u) q) k)), h.calm.0 (or_right (have_barrier b) (have_barrier u) q)))
    h.separate.0.1.1.1.0 (λ k q. absurd (true_false (have_loop k u) q (h.separate.0.1.1.1.1.no_loop k)))
    (λ p k. absurd (no_points u (record { statement = Loop n e b u; again = has_turned t } ∷ bare r) h.separate.0.1.1.1.1.no_barrier h.separate.0.1.1.1.1.no_loop p k)) (second_none (unmet b) (unmet u) (second_none (loop_fault (have_barrier b || have_barrier u) (slip b || skip b) n) (first_of (unmet b) (unmet u)) h.met.0)) h
updated all c (Barrier n l g) t r h = h
updated all c (Return n) t r h = h
updated all c (Break n k) t r h = h
updated all c (Continue n k) t r h = h

pub controlled-resume : (all : List Point) (c : Counts) (k : ℕ) (left : List Entry) → Controlled all c left → Controlled all c (resume k left)
controlled-resume all c k [] h = h
controlled-resume all c k (e ∷ r) h = by (nat_eq (number e.statement) k) (controlled-resume all c k r (controlled-rest all c e r h))
  where
    by : (x : Bool) → Controlled all c (resume k r) → Controlled all c (cond x (enter (update_of e.statement) (e ∷ r)) (resume k r))
    by true g = updated all c e.statement e.turns r h
    by false g = g

-- the turns that a statement has at a barrier, or behind one
abbrev pub due : Counts → Statement → ℕ
due c (Loop n e b u) = cond (have_barrier b || have_barrier u) (c n) 0
due c s = 0

abbrev pub dressed : Counts → List Left → List Entry
dressed c [] = []
dressed c (s ∷ ss) = record { statement = s.statement; turns = due c s.statement } ∷ dressed c ss

due-is : (c : Counts) (s : Statement) (t : ℕ) → FitsOne c s t → (has_barrier s ≡ false → t ≡ 0) → t ≡ due c s
due-is c (Set n x e) t f h = f
due-is c (Store n a site i e) t f h = f
due-is c (If n e yeses noes) t f h = f.0
due-is c (Loop n e b u) t f h = by (have_barrier b || have_barrier u) f h
  where
    by : (x : Bool) → (x ≡ true → t ≡ c n) → (x ≡ false → t ≡ 0) → t ≡ cond x (c n) 0
    by true f h = f refl
    by false f h = h refl
due-is c (Barrier n l g) t f h = f
due-is c (Return n) t f h = f
due-is c (Break n k) t f h = f
due-is c (Continue n k) t f h = f

pub left-dressed : (c : Counts) (left : List Entry) → Fits c left → Settled left → left ≡ dressed c (bare left)
left-dressed c [] f h = refl
left-dressed c (e ∷ r) f h = ap₂ (λ t rest. record { statement = e.statement; turns = t } ∷ rest) (due-is c e.statement e.turns f.0 h.0) (left-dressed c r f.1 h.1)
