-- Accesses of one element in the order in which they come.
use Rattle.std.proofs.Common.{◌≡◌, ◌≤◌, ◌/◌, ◌&&◌, ◌||◌, not, ℕ, Bool, true, false, cond, refl, ap, arith, nat_eq}
use Rattle.std.proofs.lemmas.Bool.Decides.{nat_tests}
use Rattle.clashes.specs.Marks.{are_unordered, loads_meet, loads_after, beside}
use Rattle.clashes.specs.Knowledge.{InOrder}
use Rattle.clashes.specs.declared.mark.Mark.{Mark}
use Rattle.clashes.specs.declared.seen.Loads.{Loads}
use Rattle.clashes.specs.declared.seen.Loads.TheVariants.{Nobody, OneItem, OneGroup, Groups}

-- by items, groups and epochs of three
by_numbers : (ai ag ae xi xg xe mi mg me : ℕ) → (ai ≡ xi → ag ≡ xg) → (xi ≡ mi → xg ≡ mg) → (ag ≡ xg → ae ≤ xe) → (xg ≡ mg → xe ≤ me)
    → (not (nat_eq ai xi) && (not (nat_eq ag xg) || nat_eq ae xe)) ≡ false → (not (nat_eq ai mi) && (not (nat_eq ag mg) || nat_eq ae me)) ≡ true
    → (not (nat_eq xi mi) && (not (nat_eq xg mg) || nat_eq xe me)) ≡ true
by_numbers ai ag ae xi xg xe mi mg me sa sx oa ox h k = by (nat_eq ai xi) (nat_eq ag xg) (nat_eq ae xe) (nat_eq ai mi) (nat_eq ag mg) (nat_eq ae me) (nat_eq xi mi) (nat_eq xg mg) (nat_eq xe me) refl refl refl refl refl refl refl refl refl h k
  where
    by : (p1 p2 p3 q1 q2 q3 r1 r2 r3 : Bool) → nat_eq ai xi ≡ p1 → nat_eq ag xg ≡ p2 → nat_eq ae xe ≡ p3 → nat_eq ai mi ≡ q1 → nat_eq ag mg ≡ q2 → nat_eq ae me ≡ q3 → nat_eq xi mi ≡ r1 → nat_eq xg mg ≡ r2 → nat_eq xe me ≡ r3
        → (not p1 && (not p2 || p3)) ≡ false → (not q1 && (not q2 || q3)) ≡ true → (not r1 && (not r2 || r3)) ≡ true
    by p1 p2 p3 q1 q2 q3 r1 r2 r3 a1 a2 a3 b1 b2 b3 c1 c2 c3 h k = grind (arith, nat_tests)

-- who clashes with an earlier access, and not with it a later one, clashes with the later one
pub hands_on : (n : ℕ) (a x m : Mark) → InOrder n a x → InOrder n x m → are_unordered n a x ≡ false → are_unordered n a m ≡ true → are_unordered n x m ≡ true
hands_on n a x m oa ox h k = by_numbers a.item (a.item / n) a.epoch x.item (x.item / n) x.epoch m.item (m.item / n) m.epoch (ap (λ i. i / n)) (ap (λ i. i / n)) oa ox h k

-- a later store that clashes with the loads so far clashes with those and one more
by_one : (n : ℕ) (a x m : Mark) → InOrder n a x → InOrder n x m → are_unordered n a m ≡ true → loads_meet n (beside n a x) m ≡ true
by_one n a x m oa ox k = by (nat_eq a.item x.item) (nat_eq (a.item / n) (x.item / n)) (nat_eq a.epoch x.epoch) refl refl refl
  where
    goes : are_unordered n a x ≡ false → are_unordered n x m ≡ true
    goes h = hands_on n a x m oa ox h k

    by : (p q r : Bool) → nat_eq a.item x.item ≡ p → nat_eq (a.item / n) (x.item / n) ≡ q → nat_eq a.epoch x.epoch ≡ r
        → loads_meet n (cond p (OneItem x) (cond (not q) Groups (cond r (OneGroup (x.item / n) x.epoch) (OneItem x)))) m ≡ true
    by true q r hp hq hr = goes (ap (λ p. not p && (not (nat_eq (a.item / n) (x.item / n)) || nat_eq a.epoch x.epoch)) hp)
    by false false r hp hq hr = refl
    by false true true hp hq hr = meets (nat_eq a.item m.item) (nat_eq (a.item / n) (m.item / n)) (nat_eq a.epoch m.epoch) (nat_eq (m.item / n) (x.item / n)) (nat_eq m.epoch x.epoch) refl refl refl refl refl k
      where
        meets : (s t u v w : Bool) → nat_eq a.item m.item ≡ s → nat_eq (a.item / n) (m.item / n) ≡ t → nat_eq a.epoch m.epoch ≡ u → nat_eq (m.item / n) (x.item / n) ≡ v → nat_eq m.epoch x.epoch ≡ w → (not s && (not t || u)) ≡ true → (not v || w) ≡ true
        meets s t u v w hs ht hu hv hw k = grind (arith, nat_tests)
    by false true false hp hq hr = goes (rw (hp, hq, hr) refl)

pub loads_old : (n : ℕ) (l : Loads) (x m : Mark) → ((a : Mark) → l ≡ OneItem a → InOrder n a x) → ((g e : ℕ) → l ≡ OneGroup g e → x.item / n ≡ g → e ≤ x.epoch) → InOrder n x m → loads_meet n l m ≡ true → loads_meet n (loads_after n l x) m ≡ true
loads_old n Nobody x m one many o h = cc
loads_old n (OneItem a) x m one many o h = by_one n a x m (one a refl) o h
loads_old n (OneGroup g e) x m one many o h = by (nat_eq (x.item / n) g) (nat_eq x.epoch e) refl refl
  where
    by : (p q : Bool) → nat_eq (x.item / n) g ≡ p → nat_eq x.epoch e ≡ q → loads_meet n (cond (not p) Groups (cond q (OneGroup g e) (OneItem x))) m ≡ true
    by false q hp hq = refl
    by true true hp hq = h
    by true false hp hq =
        let same : x.item / n ≡ g = grind (arith, nat_tests) in
        let high = many g e refl same in
        meets (nat_eq (m.item / n) g) (nat_eq m.epoch e) (nat_eq x.item m.item) (nat_eq (x.item / n) (m.item / n)) (nat_eq x.epoch m.epoch) refl refl refl refl refl same high (ap (λ i. i / n)) h
      where
        meets : (s t u v w : Bool) → nat_eq (m.item / n) g ≡ s → nat_eq m.epoch e ≡ t → nat_eq x.item m.item ≡ u → nat_eq (x.item / n) (m.item / n) ≡ v → nat_eq x.epoch m.epoch ≡ w
            → x.item / n ≡ g → e ≤ x.epoch → (x.item ≡ m.item → x.item / n ≡ m.item / n) → (not s || t) ≡ true → (not u && (not v || w)) ≡ true
        meets s t u v w hs ht hu hv hw same high c h = grind (arith, nat_tests)
loads_old n Groups x m one many o h = refl

-- who clashes with a load clashes with all loads
pub loads_new : (n : ℕ) (l : Loads) (x m : Mark) → are_unordered n x m ≡ true → loads_meet n (loads_after n l x) m ≡ true
loads_new n Nobody x m h = h
loads_new n (OneItem a) x m h = by (nat_eq a.item x.item) (nat_eq (a.item / n) (x.item / n)) (nat_eq a.epoch x.epoch)
  where
    by : (p q r : Bool) → loads_meet n (cond p (OneItem x) (cond (not q) Groups (cond r (OneGroup (x.item / n) x.epoch) (OneItem x)))) m ≡ true
    by true q r = h
    by false false r = refl
    by false true true = meets (nat_eq x.item m.item) (nat_eq (x.item / n) (m.item / n)) (nat_eq x.epoch m.epoch) (nat_eq (m.item / n) (x.item / n)) (nat_eq m.epoch x.epoch) refl refl refl refl refl h
      where
        meets : (s t u v w : Bool) → nat_eq x.item m.item ≡ s → nat_eq (x.item / n) (m.item / n) ≡ t → nat_eq x.epoch m.epoch ≡ u → nat_eq (m.item / n) (x.item / n) ≡ v → nat_eq m.epoch x.epoch ≡ w → (not s && (not t || u)) ≡ true → (not v || w) ≡ true
        meets s t u v w hs ht hu hv hw k = grind (arith, nat_tests)
    by false true false = h
loads_new n (OneGroup g e) x m h = by (nat_eq (x.item / n) g) (nat_eq x.epoch e) refl refl
  where
    by : (p q : Bool) → nat_eq (x.item / n) g ≡ p → nat_eq x.epoch e ≡ q → loads_meet n (cond (not p) Groups (cond q (OneGroup g e) (OneItem x))) m ≡ true
    by false q hp hq = refl
    by true true hp hq = meets (nat_eq x.item m.item) (nat_eq (x.item / n) (m.item / n)) (nat_eq x.epoch m.epoch) (nat_eq (m.item / n) g) (nat_eq m.epoch e) refl refl refl refl refl h
      where
        meets : (s t u v w : Bool) → nat_eq x.item m.item ≡ s → nat_eq (x.item / n) (m.item / n) ≡ t → nat_eq x.epoch m.epoch ≡ u → nat_eq (m.item / n) g ≡ v → nat_eq m.epoch e ≡ w → (not s && (not t || u)) ≡ true → (not v || w) ≡ true
        meets s t u v w hs ht hu hv hw k = grind (arith, nat_tests)
    by true false hp hq = h
loads_new n Groups x m h = refl
