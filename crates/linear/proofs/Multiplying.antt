-- What products are worth, and valuations that keep them.
use Rattle.std.proofs.Common.{◌≡◌, ◌≢◌, ℕ, zero, suc, ◌+◌, ◌*◌, ◌/◌, ◌%◌, ◌^◌, ◌<◌, ◌≤◌, Bool, true, false, cond, ◌&&◌, List, [], ◌∷◌, length, arith, refl, ap, sym, subst, ◌∙◌}
use Rattle.std.specs.Prelude.{ℤ, ◌+ℤ◌, ◌*ℤ◌, nat_le, nat_lt, nat_eq, Option, None, Some}
use Rattle.std.proofs.lemmas.Int.{ints}
use Rattle.std.proofs.lemmas.Bool.Decides.{nat_tests}
use Rattle.linear.specs.Linear.{Weighted, Form, terms_value, value_of}
use Rattle.semantics.proofs.Integers.{mul_comm, add-mul, mul-add, mul_assoc}
use Rattle.linear.specs.Exact.{Terms, fits, fits_i64, sum, multiple, multiples}
use Rattle.linear.specs.Products.{factor_before, unpacked, packed, factors, product_number, insert_rising, merged, are_small, product_of, times, IsMultiplicative, value_of_factors, with_products, and_then, within_i64, single, varying, plus_multiple, add_product, add_row, add_rows, no_form, product}
use Rattle.linear.proofs.Merging.{IsRising, rising-merge, rising-multiples, value-merge, value-multiples}

-- digits

past_digit : (a p : ℕ) → suc a < 2 ^ 20 → ((suc a + 2 ^ 20 * p) % 2 ^ 20 ≡ suc a) × ((suc a + 2 ^ 20 * p) / 2 ^ 20 ≡ p)
past_digit a p h = (omega arith, omega arith)

pub both_true : (a b : Bool) → (a && b) ≡ true → (a ≡ true) × (b ≡ true)
both_true true b h = (refl, h)
both_true false b h = absurd cc

pub below : (m n : ℕ) → nat_lt m n ≡ true → m < n
below m n h = grind (arith, nat_tests)

pub at_most : (m n : ℕ) → nat_le m n ≡ true → m ≤ n
at_most m n h = grind (arith, nat_tests)

unpacked-zero : (most : ℕ) → unpacked most 0 ≡ []
unpacked-zero zero = refl
unpacked-zero (suc most) = refl

pub unpacked-packed : (most : ℕ) (fs : List ℕ) → length fs ≤ most → are_small fs ≡ true → unpacked most (packed fs) ≡ fs
unpacked-packed most [] h s = unpacked-zero most
unpacked-packed zero (a ∷ fs) h s = absurd (omega arith)
unpacked-packed (suc most) (a ∷ fs) h s =
    let t = both_true (nat_lt a 1048560) (are_small fs) s in
    let d = past_digit a (packed fs) (omega (arith, below a 1048560 t.0)) in
    ap (λ n. factor_before n (unpacked most ((suc a + 2 ^ 20 * packed fs) / 2 ^ 20))) d.0 ∙ ap (λ n. a ∷ unpacked most n) d.1 ∙ ap (λ gs. a ∷ gs) (unpacked-packed most fs (omega arith) t.1)

pub factors-product : (fs : List ℕ) → length fs ≤ 3 → are_small fs ≡ true → factors (product_number fs) ≡ fs
factors-product fs h s =
    let r : (15 + 16 * packed fs) % 16 ≡ 15 = omega arith in
    let q : (15 + 16 * packed fs) / 16 ≡ packed fs = omega arith in
    ap (λ n. cond (nat_eq n 15) (unpacked 3 ((15 + 16 * packed fs) / 16)) (product_number fs ∷ [])) r ∙ ap (unpacked 3) q ∙ unpacked-packed 3 fs h s

pub tested : {A : Type 0} (b : Bool) (o : Option A) (g : A) → cond b o None ≡ Some g → (b ≡ true) × (o ≡ Some g)
tested true o g h = (refl, h)
tested false o g h = absurd cc

pub same : {A : Type 0} (a b : A) → Some a ≡ Some b → a ≡ b
same a b h = cc

pub factors-alone : (n : ℕ) → n % 16 ≢ 15 → factors n ≡ n ∷ []
factors-alone n h =
    let e : nat_eq (n % 16) 15 ≡ false = grind (arith, nat_tests) in
    rw e refl

product_is : (fs : List ℕ) (k : ℕ) → product_of fs ≡ Some k → factors k ≡ fs
product_is fs k h =
    let t = tested (nat_le (length fs) 3 && are_small fs) (Some (product_number fs)) k h in
    let b = both_true (nat_le (length fs) 3) (are_small fs) t.0 in
    ap factors (sym (same (product_number fs) k t.1)) ∙ factors-product fs (at_most (length fs) 3 b.0) b.1

-- valuations

swap : (a b c : ℤ) → b *ℤ (a *ℤ c) ≡ a *ℤ (b *ℤ c)
swap a b c = sym (mul_assoc b a c) ∙ ap (λ z. z *ℤ c) (mul_comm b a) ∙ mul_assoc a b c

value-chosen : (v : ℕ → ℤ) (a b : ℕ) (gs : List ℕ) (first : Bool) → value_of_factors v (insert_rising a gs) ≡ v a *ℤ value_of_factors v gs → value_of_factors v (cond first (a ∷ b ∷ gs) (b ∷ insert_rising a gs)) ≡ v a *ℤ (v b *ℤ value_of_factors v gs)
value-chosen v a b gs true h = refl
value-chosen v a b gs false h = ap (λ z. v b *ℤ z) h ∙ swap (v a) (v b) (value_of_factors v gs)

value-insert : (v : ℕ → ℤ) (a : ℕ) (gs : List ℕ) → value_of_factors v (insert_rising a gs) ≡ v a *ℤ value_of_factors v gs
value-insert v a [] = refl
value-insert v a (b ∷ gs) = value-chosen v a b gs (nat_le a b) (value-insert v a gs)

pub value-merged : (v : ℕ → ℤ) (fs gs : List ℕ) → value_of_factors v (merged fs gs) ≡ value_of_factors v fs *ℤ value_of_factors v gs
value-merged v [] gs = omega (arith, ints)
value-merged v (a ∷ fs) gs = value-merged v fs (insert_rising a gs) ∙ ap (λ z. value_of_factors v fs *ℤ z) (value-insert v a gs) ∙ swap (v a) (value_of_factors v fs) (value_of_factors v gs) ∙ sym (mul_assoc (v a) (value_of_factors v fs) (value_of_factors v gs))

pub with_products-multiplicative : (v : ℕ → ℤ) → IsMultiplicative (with_products v)
with_products-multiplicative v m n k h = ap (value_of_factors v) (product_is (merged (factors m) (factors n)) k h) ∙ value-merged v (factors m) (factors n)

pub with_products-alone : (v : ℕ → ℤ) (n : ℕ) → n % 16 ≢ 15 → with_products v n ≡ v n
with_products-alone v n h = ap (value_of_factors v) (factors-alone n h) ∙ omega (arith, ints)

-- forms

pub gives : {A B : Type 0} (o : Option A) (go : A → Option B) (b : B) → and_then o go ≡ Some b → (a : A) × (o ≡ Some a) × (go a ≡ Some b)
gives None go b h = absurd cc
gives (Some a) go b h = (a, refl, h)

value-within : (v : ℕ → ℤ) (f g : Form ℕ) → within_i64 f ≡ Some g → value_of v g ≡ value_of v f
value-within v f g h = ap (value_of v) (sym (same f g (tested (fits f) (Some f) g h).1))

pub value-plus : (v : ℕ → ℤ) (f : Form ℕ) (k : ℤ) (g h : Form ℕ) → plus_multiple f k g ≡ Some h → value_of v h ≡ value_of v f +ℤ k *ℤ value_of v g
value-plus v f k g h e =
    let t = tested (fits_i64 k) (within_i64 (sum f (multiple k g))) h e in
    value-within v (sum f (multiple k g)) h t.1 ∙ omega (arith, ints, value-merge v f.terms (multiples k g.terms), value-multiples v k g.terms, mul-add k (terms_value v g.terms) g.constant)

-- (a b) (x y) = (a x) (b y)
across : (a b x y : ℤ) → (a *ℤ b) *ℤ (x *ℤ y) ≡ (a *ℤ x) *ℤ (b *ℤ y)
across a b x y = mul_assoc a b (x *ℤ y) ∙ ap (λ z. a *ℤ z) (swap x b y) ∙ sym (mul_assoc a x (b *ℤ y))

value-add_product : (v : ℕ → ℤ) → IsMultiplicative v → (f : Form ℕ) (t u : Weighted ℕ) (h : Form ℕ) → add_product f t u ≡ Some h → value_of v h ≡ value_of v f +ℤ (t.coefficient *ℤ v t.symbol) *ℤ (u.coefficient *ℤ v u.symbol)
value-add_product v m f t u h e =
    let s = gives (times t.symbol u.symbol) _ h e in
    let w : value_of v (single s.0) ≡ v s.0 = omega (arith, ints) in
    value-plus v f (t.coefficient *ℤ u.coefficient) (single s.0) h s.2
    ∙ ap (λ z. value_of v f +ℤ (t.coefficient *ℤ u.coefficient) *ℤ z) (w ∙ m t.symbol u.symbol s.0 s.1)
    ∙ ap (λ z. value_of v f +ℤ z) (across t.coefficient u.coefficient (v t.symbol) (v u.symbol))

value-add_row : (v : ℕ → ℤ) → IsMultiplicative v → (f : Form ℕ) (t : Weighted ℕ) (us : Terms) (h : Form ℕ) → add_row f t us ≡ Some h → value_of v h ≡ value_of v f +ℤ (t.coefficient *ℤ v t.symbol) *ℤ terms_value v us
value-add_row v m f t [] h e = ap (value_of v) (sym (same f h e)) ∙ omega (arith, ints)
value-add_row v m f t (u ∷ us) h e =
    let g = gives (add_product f t u) _ h e in
    let x : ℤ = t.coefficient *ℤ v t.symbol in
    omega (arith, ints, value-add_product v m f t u g.0 g.1, value-add_row v m g.0 t us h g.2, mul-add (t.coefficient *ℤ v t.symbol) (u.coefficient *ℤ v u.symbol) (terms_value v us))

value-add_rows : (v : ℕ → ℤ) → IsMultiplicative v → (f : Form ℕ) (ts us : Terms) (h : Form ℕ) → add_rows f ts us ≡ Some h → value_of v h ≡ value_of v f +ℤ terms_value v ts *ℤ terms_value v us
value-add_rows v m f [] us h e = ap (value_of v) (sym (same f h e)) ∙ omega (arith, ints)
value-add_rows v m f (t ∷ ts) us h e =
    let g = gives (add_row f t us) _ h e in
    omega (arith, ints, value-add_row v m f t us g.0 g.1, value-add_rows v m g.0 ts us h g.2, add-mul (t.coefficient *ℤ v t.symbol) (terms_value v ts) (terms_value v us))

expanded : (x c y d : ℤ) → (d *ℤ (x +ℤ c) +ℤ c *ℤ y) +ℤ x *ℤ y ≡ (x +ℤ c) *ℤ (y +ℤ d)
expanded x c y d = omega (arith, ints, mul-add (x +ℤ c) y d, add-mul x c y, mul_comm d (x +ℤ c))

pub value_product : (v : ℕ → ℤ) → IsMultiplicative v → (f g h : Form ℕ) → product f g ≡ Some h → value_of v h ≡ value_of v f *ℤ value_of v g
value_product v m f g h e =
    let a = gives (plus_multiple no_form g.constant f) _ h e in
    let b = gives (plus_multiple a.0 f.constant (varying g)) _ h a.2 in
    let one : value_of v a.0 ≡ g.constant *ℤ value_of v f = value-plus v no_form g.constant f a.0 a.1 ∙ omega (arith, ints) in
    let bare : value_of v (varying g) ≡ terms_value v g.terms = omega (arith, ints) in
    let two : value_of v b.0 ≡ g.constant *ℤ value_of v f +ℤ f.constant *ℤ terms_value v g.terms = value-plus v a.0 f.constant (varying g) b.0 b.1 ∙ (λ i. one i +ℤ f.constant *ℤ bare i) in
    value-add_rows v m b.0 f.terms g.terms h b.2 ∙ ap (λ z. z +ℤ terms_value v f.terms *ℤ terms_value v g.terms) two
    ∙ expanded (terms_value v f.terms) f.constant (terms_value v g.terms) g.constant

-- symbols rise

rising-plus : (f : Form ℕ) (k : ℤ) (g h : Form ℕ) → plus_multiple f k g ≡ Some h → IsRising 0 f.terms → IsRising 0 g.terms → IsRising 0 h.terms
rising-plus f k g h e p q =
    let t = tested (fits_i64 k) (within_i64 (sum f (multiple k g))) h e in
    let w = tested (fits (sum f (multiple k g))) (Some (sum f (multiple k g))) h t.1 in
    subst (λ x. IsRising 0 x.terms) (same (sum f (multiple k g)) h w.1) (rising-merge 0 f.terms (multiples k g.terms) p (rising-multiples 0 k g.terms q))

rising-add_row : (f : Form ℕ) (t : Weighted ℕ) (us : Terms) (h : Form ℕ) → add_row f t us ≡ Some h → IsRising 0 f.terms → IsRising 0 h.terms
rising-add_row f t [] h e p = subst (λ x. IsRising 0 x.terms) (same f h e) p
rising-add_row f t (u ∷ us) h e p =
    let g = gives (add_product f t u) _ h e in
    let s = gives (times t.symbol u.symbol) _ g.0 g.1 in
    rising-add_row g.0 t us h g.2 (rising-plus f (t.coefficient *ℤ u.coefficient) (single s.0) g.0 s.2 p (omega arith, λ c. cc, tt))

rising-add_rows : (f : Form ℕ) (ts us : Terms) (h : Form ℕ) → add_rows f ts us ≡ Some h → IsRising 0 f.terms → IsRising 0 h.terms
rising-add_rows f [] us h e p = subst (λ x. IsRising 0 x.terms) (same f h e) p
rising-add_rows f (t ∷ ts) us h e p =
    let g = gives (add_row f t us) _ h e in
    rising-add_rows g.0 ts us h g.2 (rising-add_row f t us g.0 g.1 p)

pub rising_product : (f g h : Form ℕ) → product f g ≡ Some h → IsRising 0 f.terms → IsRising 0 g.terms → IsRising 0 h.terms
rising_product f g h e p q =
    let a = gives (plus_multiple no_form g.constant f) _ h e in
    let b = gives (plus_multiple a.0 f.constant (varying g)) _ h a.2 in
    rising-add_rows b.0 f.terms g.terms h b.2 (rising-plus a.0 f.constant (varying g) b.0 b.1 (rising-plus no_form g.constant f a.0 a.1 tt p) q)

-- the factors of a product are those of both
pub times-factors : (m n k : ℕ) → times m n ≡ Some k → factors k ≡ merged (factors m) (factors n)
times-factors m n k h = product_is (merged (factors m) (factors n)) k h
