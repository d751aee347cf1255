-- What merged and multiplied terms are worth, and that they rise.
use Rattle.std.proofs.Common.{◌≡◌, ◌≢◌, ℕ, zero, suc, ◌<◌, ◌≤◌, Bool, true, false, not, ◌&&◌, [], ◌∷◌, arith, refl, ap, sym, subst, ◌∙◌}
use Rattle.std.specs.Prelude.{ℤ, pos, negsuc, ◌+ℤ◌, ◌*ℤ◌, nat_lt, nat_le, nat_eq}
use Rattle.std.specs.Ordering.{int_eq}
use Rattle.std.proofs.lemmas.Int.{ints}
use Rattle.std.proofs.lemmas.Bool.{lt-ltb}
use Rattle.std.proofs.lemmas.Bool.Decides.{nat_tests, Decides-int_eq}
use Rattle.linear.specs.Linear.{Weighted, terms_value}
use Rattle.semantics.proofs.Integers.{add-mul, mul-add, mul_assoc}
use Rattle.linear.specs.Exact.{Terms, is_rising, put, merge_one, merge, multiples, without, coefficient_of, with_value}

not_below : (x y : ℕ) → y ≤ x → nat_lt x y ≡ false
not_below x y h = grind (arith, nat_tests)

pub merge_below : (x : Weighted ℕ) (rest : Terms → Terms) (y : Weighted ℕ) (b : Terms) → x.symbol < y.symbol → merge_one x rest (y ∷ b) ≡ x ∷ rest (y ∷ b)
merge_below x rest y b h = rw (lt-ltb x.symbol y.symbol h) refl

pub merge_above : (x : Weighted ℕ) (rest : Terms → Terms) (y : Weighted ℕ) (b : Terms) → y.symbol < x.symbol → merge_one x rest (y ∷ b) ≡ y ∷ merge_one x rest b
merge_above x rest y b h = rw (not_below x.symbol y.symbol (omega arith), lt-ltb y.symbol x.symbol h) refl

pub merge_same : (x : Weighted ℕ) (rest : Terms → Terms) (y : Weighted ℕ) (b : Terms) → x.symbol ≡ y.symbol → merge_one x rest (y ∷ b) ≡ put (x.coefficient +ℤ y.coefficient) x.symbol (rest b)
merge_same x rest y b h = rw (not_below x.symbol y.symbol (omega arith), not_below y.symbol x.symbol (omega arith)) refl

-- how two symbols lie
data Order (x y : ℕ) : Type 0 where
  Below : (h : x < y) → Order x y
  Above : (h : y < x) → Order x y
  Same : (h : x ≡ y) → Order x y

order : (x y : ℕ) → Order x y
order zero zero = Same refl
order zero (suc y) = Below (omega arith)
order (suc x) zero = Above (omega arith)
order (suc x) (suc y) = elim (order x y) [ Below h ↦ Below (omega arith) | Above h ↦ Above (omega arith) | Same h ↦ Same (ap suc h) ]

value-put : (v : ℕ → ℤ) (z : ℤ) (s : ℕ) (ts : Terms) → terms_value v (put z s ts) ≡ z *ℤ v s +ℤ terms_value v ts
value-put v (pos zero) s ts = omega (arith, ints)
value-put v (pos (suc n)) s ts = refl
value-put v (negsuc n) s ts = refl

value_alike : (x y w a b m : ℤ) → m ≡ a +ℤ b → (x +ℤ y) *ℤ w +ℤ m ≡ (x *ℤ w +ℤ a) +ℤ (y *ℤ w +ℤ b)
value_alike x y w a b m h = omega (arith, ints, add-mul x y w)

value-merge_one : (v : ℕ → ℤ) (x : Weighted ℕ) (a : Terms) (rest : Terms → Terms) → ((b : Terms) → terms_value v (rest b) ≡ terms_value v a +ℤ terms_value v b) → (b : Terms) → terms_value v (merge_one x rest b) ≡ (x.coefficient *ℤ v x.symbol +ℤ terms_value v a) +ℤ terms_value v b
value-merge_one v x a rest h [] = omega (arith, ints, h [])
value-merge_one v x a rest h (y ∷ b) = elim (order x.symbol y.symbol) [
  | Below l ↦ ap (terms_value v) (merge_below x rest y b l) ∙ omega (arith, ints, h (y ∷ b))
  | Above l ↦ ap (terms_value v) (merge_above x rest y b l) ∙ omega (arith, ints, value-merge_one v x a rest h b)
  | Same e ↦ ap (terms_value v) (merge_same x rest y b e) ∙ value-put v (x.coefficient +ℤ y.coefficient) x.symbol (rest b) ∙ value_alike x.coefficient y.coefficient (v x.symbol) (terms_value v a) (terms_value v b) (terms_value v (rest b)) (h b) ∙ ap (λ s. (x.coefficient *ℤ v x.symbol +ℤ terms_value v a) +ℤ (y.coefficient *ℤ v s +ℤ terms_value v b)) e
]

pub value-merge : (v : ℕ → ℤ) (a b : Terms) → terms_value v (merge a b) ≡ terms_value v a +ℤ terms_value v b
value-merge v [] b = omega (arith, ints)
value-merge v (x ∷ a) b = value-merge_one v x a (merge a) (value-merge v a) b

value_scaled : (k c w t m : ℤ) → m ≡ k *ℤ t → (k *ℤ c) *ℤ w +ℤ m ≡ k *ℤ (c *ℤ w +ℤ t)
value_scaled k c w t m h = omega (arith, ints, h, mul_assoc k c w, mul-add k (c *ℤ w) t)

pub value-multiples : (v : ℕ → ℤ) (k : ℤ) (ts : Terms) → terms_value v (multiples k ts) ≡ k *ℤ terms_value v ts
value-multiples v k [] = omega (arith, ints)
value-multiples v k (t ∷ ts) = value-put v (k *ℤ t.coefficient) t.symbol (multiples k ts) ∙ value_scaled k t.coefficient (v t.symbol) (terms_value v ts) _ (value-multiples v k ts)

true≢false : true ≢ false
true≢false e = cc

by_bool : (b : Bool) → (b ≡ true → ⊥) → not b ≡ true
by_bool true h = absurd (h refl)
by_bool false h = refl

at_most : (m n : ℕ) → nat_le m n ≡ true → m ≤ n
at_most m n h = grind (arith, nat_tests)

at_most_test : (m n : ℕ) → m ≤ n → nat_le m n ≡ true
at_most_test m n h = grind (arith, nat_tests)

-- symbols rise strictly, from `least` on, and no coefficient is 0
abbrev pub IsRising : (least : ℕ) → Terms → Type 0
IsRising least [] = Unit {0}
IsRising least (t ∷ ts) = (least ≤ t.symbol) × (t.coefficient ≢ pos 0) × IsRising (suc t.symbol) ts

of_and : (a b c : Bool) → (a && (b && c)) ≡ true → (a ≡ true) × (b ≡ true) × (c ≡ true)
of_and true true c h = (refl, refl, h)
of_and true false c h = absurd cc
of_and false b c h = absurd cc

not_zero : (z : ℤ) → not (int_eq z (pos 0)) ≡ true → z ≢ pos 0
not_zero z h e = true≢false (sym h ∙ ap not ((Decides-int_eq z (pos 0)).1 e))

not_zero_test : (z : ℤ) → z ≢ pos 0 → not (int_eq z (pos 0)) ≡ true
not_zero_test z h = by_bool (int_eq z (pos 0)) (λ e. absurd (h ((Decides-int_eq z (pos 0)).0 e)))

pub rising_true : (n : ℕ) (ts : Terms) → is_rising n ts ≡ true → IsRising n ts
rising_true n [] h = tt
rising_true n (t ∷ ts) h =
    let p = of_and (nat_le n t.symbol) (not (int_eq t.coefficient (pos 0))) (is_rising (suc t.symbol) ts) h in
    (at_most n t.symbol p.0, not_zero t.coefficient p.1, rising_true (suc t.symbol) ts p.2)

pub rising_test : (n : ℕ) (ts : Terms) → IsRising n ts → is_rising n ts ≡ true
rising_test n [] r = refl
rising_test n (t ∷ ts) r = rw (at_most_test n t.symbol r.0, not_zero_test t.coefficient r.1, rising_test (suc t.symbol) ts r.2) refl

pub rising_from : (m n : ℕ) (ts : Terms) → n ≤ m → IsRising m ts → IsRising n ts
rising_from m n [] h r = tt
rising_from m n (t ∷ ts) h r = (omega (arith, r.0), r.1, r.2)

rising-put : (n : ℕ) (z : ℤ) (s : ℕ) (ts : Terms) → n ≤ s → IsRising (suc s) ts → IsRising n (put z s ts)
rising-put n (pos zero) s ts h r = rising_from (suc s) n ts (omega arith) r
rising-put n (pos (suc k)) s ts h r = (h, λ e. cc, r)
rising-put n (negsuc k) s ts h r = (h, λ e. cc, r)

rising-merge_one : (x : Weighted ℕ) (rest : Terms → Terms) → ((b : Terms) → IsRising (suc x.symbol) b → IsRising (suc x.symbol) (rest b)) → x.coefficient ≢ pos 0 → (b : Terms) (n : ℕ) → n ≤ x.symbol → IsRising n b → IsRising n (merge_one x rest b)
rising-merge_one x rest f z [] n h r = (h, z, f [] tt)
rising-merge_one x rest f z (y ∷ b) n h r = elim (order x.symbol y.symbol) [
  | Below l ↦ subst (IsRising n) (sym (merge_below x rest y b l)) (h, z, f (y ∷ b) (omega arith, r.1, r.2))
  | Above l ↦ subst (IsRising n) (sym (merge_above x rest y b l)) (r.0, r.1, rising-merge_one x rest f z b (suc y.symbol) (omega arith) r.2)
  | Same e ↦ subst (IsRising n) (sym (merge_same x rest y b e)) (rising-put n (x.coefficient +ℤ y.coefficient) x.symbol (rest b) h (f b (subst (λ s. IsRising (suc s) b) (sym e) r.2)))
]

pub rising-merge : (n : ℕ) (a b : Terms) → IsRising n a → IsRising n b → IsRising n (merge a b)
rising-merge n [] b p q = q
rising-merge n (x ∷ a) b p q = rising-merge_one x (merge a) (λ b' q'. rising-merge (suc x.symbol) a b' p.2 q') p.1 b n p.0 q

pub rising-multiples : (n : ℕ) (k : ℤ) (ts : Terms) → IsRising n ts → IsRising n (multiples k ts)
rising-multiples n k [] r = tt
rising-multiples n k (t ∷ ts) r = rising-put n (k *ℤ t.coefficient) t.symbol (multiples k ts) r.0 (rising-multiples (suc t.symbol) k ts r.2)

-- terms are merged with multiples of others: a multiple may be 0, and then there is no term
pub merge_under : (x : Weighted ℕ) (a b : Terms) (n : ℕ) → x.symbol < n → IsRising n b → merge (x ∷ a) b ≡ x ∷ merge a b
merge_under x a [] n h r = refl
merge_under x a (y ∷ b) n h r = merge_below x (merge a) y b (omega (arith, r.0))

pub merge_put_above : (x : Weighted ℕ) (a : Terms) (z : ℤ) (s : ℕ) (b : Terms) → s < x.symbol → merge (x ∷ a) (put z s b) ≡ put z s (merge (x ∷ a) b)
merge_put_above x a (pos zero) s b h = refl
merge_put_above x a (pos (suc n)) s b h = merge_above x (merge a) _ b h
merge_put_above x a (negsuc n) s b h = merge_above x (merge a) _ b h

put_some : (z : ℤ) (s : ℕ) (ts : Terms) → z ≢ pos 0 → put z s ts ≡ record { coefficient = z; symbol = s } ∷ ts
put_some (pos zero) s ts h = absurd (h refl)
put_some (pos (suc n)) s ts h = refl
put_some (negsuc n) s ts h = refl

put_same : (x : Weighted ℕ) (z : ℤ) (ts : Terms) → z ≡ x.coefficient → x.coefficient ≢ pos 0 → put z x.symbol ts ≡ x ∷ ts
put_same x z ts e h = ap (λ c. put c x.symbol ts) e ∙ put_some x.coefficient x.symbol ts h

pub merge_put_same : (x : Weighted ℕ) (a : Terms) (z : ℤ) (s : ℕ) (b : Terms) → x.symbol ≡ s → x.coefficient ≢ pos 0 → IsRising (suc s) b → merge (x ∷ a) (put z s b) ≡ put (x.coefficient +ℤ z) x.symbol (merge a b)
merge_put_same x a (pos zero) s b e h r = merge_under x a b (suc s) (omega arith) r ∙ sym (put_same x (x.coefficient +ℤ pos 0) (merge a b) (omega (arith, ints)) h)
merge_put_same x a (pos (suc n)) s b e h r = merge_same x (merge a) _ b e
merge_put_same x a (negsuc n) s b e h r = merge_same x (merge a) _ b e

pub multiples-one : (n : ℕ) (ts : Terms) → IsRising n ts → multiples (pos 1) ts ≡ ts
multiples-one n [] r = refl
multiples-one n (t ∷ ts) r = put_same t (pos 1 *ℤ t.coefficient) (multiples (pos 1) ts) (omega (arith, ints)) r.1 ∙ ap (λ us. t ∷ us) (multiples-one (suc t.symbol) ts r.2)

-- a symbol is or is not that of a term
same_symbol : (a b : ℕ) → a ≡ b → nat_eq a b ≡ true
same_symbol a b h = grind (arith, nat_tests)

other_symbol : (a b : ℕ) → a ≢ b → nat_eq a b ≡ false
other_symbol a b h = grind (arith, nat_tests)

-- equal or not, as a test says it
data Alike (a b : ℕ) : Type 0 where
  Equal : (h : a ≡ b) → nat_eq a b ≡ true → Alike a b
  Other : (h : a ≢ b) → nat_eq a b ≡ false → Alike a b

alike : (a b : ℕ) → Alike a b
alike a b = elim (order a b) [
  | Below h ↦ (let n : a ≢ b = omega arith in Other n (other_symbol a b n))
  | Above h ↦ (let n : a ≢ b = omega arith in Other n (other_symbol a b n))
  | Same h ↦ Equal h (same_symbol a b h)
]

without_same : (s : ℕ) (t : Weighted ℕ) (ts : Terms) → nat_eq t.symbol s ≡ true → without s (t ∷ ts) ≡ without s ts
without_same s t ts e = rw e refl

without_other : (s : ℕ) (t : Weighted ℕ) (ts : Terms) → nat_eq t.symbol s ≡ false → without s (t ∷ ts) ≡ t ∷ without s ts
without_other s t ts e = rw e refl

pub rising-without : (s n : ℕ) (ts : Terms) → IsRising n ts → IsRising n (without s ts)
rising-without s n [] r = tt
rising-without s n (t ∷ ts) r = elim (alike t.symbol s) [
  | Equal h e ↦ subst (IsRising n) (sym (without_same s t ts e)) (rising_from (suc t.symbol) n (without s ts) (omega (arith, r.0)) (rising-without s (suc t.symbol) ts r.2))
  | Other h e ↦ subst (IsRising n) (sym (without_other s t ts e)) (r.0, r.1, rising-without s (suc t.symbol) ts r.2)
]

-- beyond a symbol another value of it is not seen
value_beyond : (v : ℕ → ℤ) (s : ℕ) (z : ℤ) (n : ℕ) (ts : Terms) → s < n → IsRising n ts → terms_value (with_value v s z) ts ≡ terms_value v (without s ts)
value_beyond v s z n [] h r = refl
value_beyond v s z n (t ∷ ts) h r =
    let o = other_symbol t.symbol s (omega (arith, r.0)) in
    rw o (omega (arith, ints, value_beyond v s z (suc t.symbol) ts (omega (arith, r.0)) r.2))

pub value-without : (v : ℕ → ℤ) (s : ℕ) (z : ℤ) (n : ℕ) (ts : Terms) → IsRising n ts → terms_value (with_value v s z) ts ≡ terms_value v (without s ts) +ℤ coefficient_of s ts *ℤ z
value-without v s z n [] r = omega (arith, ints)
value-without v s z n (t ∷ ts) r = elim (alike t.symbol s) [
  | Equal h e ↦ rw e (omega (arith, ints, value_beyond v s z (suc t.symbol) ts (omega arith) r.2))
  | Other h e ↦ rw e (omega (arith, ints, value-without v s z (suc t.symbol) ts r.2))
]
