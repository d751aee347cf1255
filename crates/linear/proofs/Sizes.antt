-- Sums and multiples are no larger than their parts, and small forms are of i64.
use Rattle.std.proofs.Common.{◌≡◌, ℕ, zero, suc, ◌+◌, ◌*◌, ◌^◌, ◌<◌, ◌≤◌, Bool, true, false, cond, ◌&&◌, [], ◌∷◌, arith, refl, ◌∙◌}
use Rattle.std.specs.Prelude.{ℤ, pos, negsuc, ◌+ℤ◌, ◌*ℤ◌, unsigned_abs, nat_lt}
use Rattle.std.proofs.lemmas.Int.{ints, unsigned_abs-mul}
use Rattle.std.proofs.lemmas.Bool.{lt-ltb}
use Rattle.linear.specs.Linear.{Weighted, Form}
use Rattle.linear.specs.Exact.{Terms, fits_i64, fits_terms, fits, put, merge_one, merge, multiples, sum, multiple}
use Rattle.linear.specs.Sizes.{terms_size, size}

size-plus : (a b : ℤ) → unsigned_abs (a +ℤ b) ≤ unsigned_abs a + unsigned_abs b
size-plus a b = omega (arith, ints)

pub size-put : (z : ℤ) (s : ℕ) (ts : Terms) → terms_size (put z s ts) ≡ unsigned_abs z + terms_size ts
size-put (pos zero) s ts = omega arith
size-put (pos (suc n)) s ts = refl
size-put (negsuc n) s ts = refl

size-cond : (b : Bool) (f g : Terms) (n : ℕ) → terms_size f ≤ n → terms_size g ≤ n → terms_size (cond b f g) ≤ n
size-cond true f g n p q = p
size-cond false f g n p q = q

size-merge_one : (x : Weighted ℕ) (n : ℕ) (rest : Terms → Terms) → ((b : Terms) → terms_size (rest b) ≤ n + terms_size b) → (b : Terms) → terms_size (merge_one x rest b) ≤ (unsigned_abs x.coefficient + n) + terms_size b
size-merge_one x n rest h [] = omega (arith, h [])
size-merge_one x n rest h (y ∷ b) =
    let m : ℕ = (unsigned_abs x.coefficient + n) + (unsigned_abs y.coefficient + terms_size b) in
    size-cond (nat_lt x.symbol y.symbol) (x ∷ rest (y ∷ b)) _ m (omega (arith, h (y ∷ b)))
    (size-cond (nat_lt y.symbol x.symbol) (y ∷ merge_one x rest b) _ m (omega (arith, size-merge_one x n rest h b))
    (omega (arith, size-put (x.coefficient +ℤ y.coefficient) x.symbol (rest b), size-plus x.coefficient y.coefficient, h b)))

size-merge : (a b : Terms) → terms_size (merge a b) ≤ terms_size a + terms_size b
size-merge [] b = omega arith
size-merge (x ∷ a) b = size-merge_one x (terms_size a) (merge a) (size-merge a) b

pub size_sum : (f g : Form ℕ) → size (sum f g) ≤ size f + size g
size_sum f g = omega (arith, size-plus f.constant g.constant, size-merge f.terms g.terms)

distribute : (k a b : ℕ) → k * a + k * b ≡ k * (a + b)
distribute k a b = omega arith

size-multiples : (k : ℤ) (ts : Terms) → terms_size (multiples k ts) ≡ unsigned_abs k * terms_size ts
size-multiples k [] = omega arith
size-multiples k (t ∷ ts) =
    size-put (k *ℤ t.coefficient) t.symbol (multiples k ts) ∙ (λ i. unsigned_abs-mul k t.coefficient i + size-multiples k ts i)
    ∙ distribute (unsigned_abs k) (unsigned_abs t.coefficient) (terms_size ts)

pub size_multiple : (k : ℤ) (f : Form ℕ) → size (multiple k f) ≡ unsigned_abs k * size f
size_multiple k f = (λ i. unsigned_abs-mul k f.constant i + size-multiples k f.terms i) ∙ distribute (unsigned_abs k) (unsigned_abs f.constant) (terms_size f.terms)

pub size_difference : (f g : Form ℕ) → size (sum f (multiple (negsuc 0) g)) ≤ size f + size g
size_difference f g = omega (arith, size_sum f (multiple (negsuc 0) g), size_multiple (negsuc 0) g)

fits-number : (z : ℤ) → unsigned_abs z < 2 ^ 63 → fits_i64 z ≡ true
fits-number (pos n) h = lt-ltb n (2 ^ 63) h
fits-number (negsuc n) h = lt-ltb n (2 ^ 63) (omega (arith, h))

both : (a b : Bool) → a ≡ true → b ≡ true → (a && b) ≡ true
both true b p q = q
both false b p q = cc

fits-terms : (ts : Terms) → terms_size ts < 2 ^ 63 → fits_terms ts ≡ true
fits-terms [] h = refl
fits-terms (t ∷ ts) h = both (fits_i64 t.coefficient) (fits_terms ts) (fits-number t.coefficient (omega arith)) (fits-terms ts (omega arith))

pub fits_small : (f : Form ℕ) → size f < 2 ^ 63 → fits f ≡ true
fits_small f h = both (fits_i64 f.constant) (fits_terms f.terms) (fits-number f.constant (omega arith)) (fits-terms f.terms (omega arith))
