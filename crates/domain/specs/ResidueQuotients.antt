-- Quotients, remainders, masks, shifts and bounds of congruences hold what they promise.
use Rattle.std.proofs.Common.{◌≡◌, ℕ, zero, suc, true, Some, None, arith, ◌*◌, ◌/◌, ◌%◌, ◌^◌, ◌<◌, refl, subst, ap, sym, ◌∙◌}
use Rattle.std.specs.Prelude.{ℤ, pos, negsuc, ◌+ℤ◌, ◌-ℤ◌, ◌*ℤ◌, ◌≤ℤ◌, ◌<ℤ◌, neg_ℤ, ◌==◌, ◌&&◌, nat_lt}
use Rattle.std.specs.Int.{◌∣◌, int_rem_euclid, int_div_euclid}
use Rattle.std.specs.Int.RustNames.{unsigned_abs, int_div, int_rem, int_le, bit_and}
use Rattle.std.proofs.lemmas.Bool.{cond_both, and_parts, and_from, eqb-true, ltb-true}
use Rattle.std.proofs.lemmas.Int.{ints, unsigned_abs-mul, quot-rem, rem_below}
use Rattle.std.proofs.lemmas.Nat.{div-add-mod', mod_below, pow_pos}
use Rattle.std.proofs.lemmas.Nat.Gcd.{dvd_of_mod-eq-zero, dvd_trans}
use Rattle.semantics.proofs.Integers.{mul_comm, add-mul, mul_assoc}
use Rattle.domain.specs.declared.Residue.{Residue}
use Rattle.domain.specs.Members.{leaves, is_within}
use Rattle.domain.specs.Residues.{all, reduce, gcd, is_divisor, is_zero, divides, quotient, divide, common, remainder, masked, mask, shift_left, shift_right, bounds}
use Rattle.domain.specs.Multiples.{Multiple, divided, from-test, to-test, plus, minus, times, coarser, itself, gcd-is}
use Rattle.domain.specs.Laws.{all_holds, reduced, number, multiplies}

-- of modulus 0, the one number
single : (b : Residue) (y : ℤ) → (b.modulus == 0) ≡ true → leaves b y ≡ true → y ≡ b.remainder
single b y e h =
    let p = subst (λ m. Multiple m (y -ℤ b.remainder)) (eqb-true b.modulus 0 e) (from-test b.modulus (y -ℤ b.remainder) h) in
    let f = p.1 in omega (arith, ints, f)

small : (k n : ℕ) → k * n < n → k ≡ 0
small zero n h = refl
small (suc k) n h = absurd (omega arith)

none : (z : ℤ) → unsigned_abs z ≡ 0 → z ≡ pos 0
none (pos n) h = ap pos h
none (negsuc n) h = absurd (omega arith)

-- factors whose products are less apart than the other factor are one
cancelled : (x y d : ℤ) → unsigned_abs (x *ℤ d -ℤ y *ℤ d) < unsigned_abs d → x ≡ y
cancelled x y d h =
    let e : (x -ℤ y) *ℤ d +ℤ y *ℤ d ≡ x *ℤ d = sym (add-mul (x -ℤ y) y d)
    ∙ ap (λ z. z *ℤ d) (let s : (x -ℤ y) +ℤ y ≡ x = omega (arith, ints) in s) in
    let f : x *ℤ d -ℤ y *ℤ d ≡ (x -ℤ y) *ℤ d = omega (arith, ints, e) in
    let g : unsigned_abs (x *ℤ d -ℤ y *ℤ d) ≡ unsigned_abs (x -ℤ y) * unsigned_abs d = ap unsigned_abs f ∙ unsigned_abs-mul (x -ℤ y) d in
    let z = none (x -ℤ y) (small (unsigned_abs (x -ℤ y)) (unsigned_abs d) (subst (λ n. n < unsigned_abs d) g h)) in
    omega (arith, ints, z)

exact : (e d : ℤ) → 0 < unsigned_abs d → int_div (e *ℤ d) d ≡ e
exact e d h =
    let q = quot-rem (e *ℤ d) d in
    let r = rem_below (e *ℤ d) d h in
    let s : e *ℤ d -ℤ int_div (e *ℤ d) d *ℤ d ≡ int_rem (e *ℤ d) d = omega (arith, ints, q) in
    sym (cancelled e (int_div (e *ℤ d) d) d (subst (λ n. n < unsigned_abs d) (sym (ap unsigned_abs s)) r))

-- a multiple of a divisor's size as one of the divisor
signed : (d z w : ℤ) → z ≡ w *ℤ pos (unsigned_abs d) → (e : ℤ) × (z ≡ e *ℤ d) × ((m : ℕ) → Multiple m w → Multiple m e)
signed (pos k) z w h = (w, h, λ m p. p)
signed (negsuc k) z w h =
    let c : (negsuc 0 *ℤ w) *ℤ negsuc k ≡ w *ℤ (negsuc 0 *ℤ negsuc k) = ap (λ x. x *ℤ negsuc k) (mul_comm (negsuc 0) w)
    ∙ mul_assoc w (negsuc 0) (negsuc k) in
    let f : negsuc 0 *ℤ negsuc k ≡ pos (suc k) = omega (arith, ints) in
    (negsuc 0 *ℤ w, h ∙ sym (c ∙ ap (λ x. w *ℤ x) f), λ m p. times m w (negsuc 0) p)

parted : (m n : ℕ) (x r d : ℤ) → unsigned_abs d ≡ n → 0 < n → n ∣ m → Multiple n r
    → Multiple m (x -ℤ r) → Multiple (m / n) (int_div x d -ℤ int_div r d)
parted m n x r d a z h p q =
    let c : pos m ≡ pos (m / n) *ℤ pos n = ap pos (divided n m h) in
    let u : x -ℤ r ≡ (q.0 *ℤ pos (m / n)) *ℤ pos (unsigned_abs d) = q.1
    ∙ ap (λ k. q.0 *ℤ k) c ∙ sym (mul_assoc q.0 (pos (m / n)) (pos n)) ∙ ap (λ k. (q.0 *ℤ pos (m / n)) *ℤ pos k) (sym a) in
    let v : r ≡ p.0 *ℤ pos (unsigned_abs d) = p.1 ∙ ap (λ k. p.0 *ℤ pos k) (sym a) in
    let e = signed d (x -ℤ r) (q.0 *ℤ pos (m / n)) u in
    let s = signed d r p.0 v in
    let w : 0 < unsigned_abs d = omega arith in
    let t = add-mul e.0 s.0 d in
    let ee = e.1 in let ss = s.1 in
    let y : x ≡ (e.0 +ℤ s.0) *ℤ d = omega (arith, ints, t, ee, ss) in
    let f = ap (λ k. int_div k d) y ∙ exact (e.0 +ℤ s.0) d w in
    let g = ap (λ k. int_div k d) ss ∙ exact s.0 d w in
    let i : e.0 ≡ int_div x d -ℤ int_div r d = omega (arith, ints, f, g) in
    subst (Multiple (m / n)) i (e.2 (m / n) (q.0, refl))

quotient_holds : (a : Residue) (d x : ℤ) → 0 < unsigned_abs d → leaves a x ≡ true → leaves (quotient a d) (int_div x d) ≡ true
quotient_holds a d x z p =
    let L : Residue → Type 0 = λ c. leaves c (int_div x d) ≡ true in
    cond_both (a.modulus == 0) _ _ L
    (λ e. subst (λ n. leaves (reduce 0 (int_div n d)) (int_div x d) ≡ true) (single a x e p) (number (int_div x d)))
    (λ e. cond_both (divides (unsigned_abs d) a) _ all L
    (λ f.
    let h = and_parts (a.modulus % unsigned_abs d == 0) (unsigned_abs a.remainder % unsigned_abs d == 0) f in
    reduced _ (int_div a.remainder d) (int_div x d)
    (parted a.modulus (unsigned_abs d) x a.remainder d refl z (dvd_of_mod-eq-zero _ (eqb-true _ 0 h.0))
    (from-test (unsigned_abs d) a.remainder h.1) (from-test a.modulus (x -ℤ a.remainder) p)))
    (λ f. all_holds (int_div x d)))

pub divides_all : (a b : Residue) (x y : ℤ) → leaves a x ≡ true → leaves b y ≡ true → ¬ (y ≡ pos 0)
    → leaves (divide a b) (int_div x y) ≡ true
divides_all a b x y p q z =
    cond_both (is_divisor b) (quotient a b.remainder) all (λ c. leaves c (int_div x y) ≡ true)
    (λ e.
    let h = and_parts (b.modulus == 0) (nat_lt 0 (unsigned_abs b.remainder)) e in
    let s = single b y h.0 q in
    subst (λ d. leaves (quotient a b.remainder) (int_div x d) ≡ true) (sym s) (quotient_holds a b.remainder x (ltb-true 0 _ h.1) p))
    (λ e. all_holds (int_div x y))

remainder_holds : (a b : Residue) (x y : ℤ) → leaves a x ≡ true → leaves b y ≡ true
    → leaves (reduce (common a b) a.remainder) (int_rem x y) ≡ true
remainder_holds a b x y p q =
    let h = gcd-is a.modulus b.modulus in
    let g = gcd-is (gcd a.modulus b.modulus) (unsigned_abs b.remainder) in
    let u = coarser _ a.modulus (x -ℤ a.remainder) (dvd_trans _ g.0 h.0) (from-test a.modulus (x -ℤ a.remainder) p) in
    let v = coarser _ b.modulus (y -ℤ b.remainder) (dvd_trans _ g.0 h.1) (from-test b.modulus (y -ℤ b.remainder) q) in
    let w = plus (common a b) _ _ v (itself _ b.remainder g.1) in
    let s : (y -ℤ b.remainder) +ℤ b.remainder ≡ y = omega (arith, ints) in
    let t = times (common a b) y (int_div x y) (subst (Multiple (common a b)) s w) in
    let r = quot-rem x y in
    let i : (x -ℤ a.remainder) -ℤ int_div x y *ℤ y ≡ int_rem x y -ℤ a.remainder = omega (arith, ints, r) in
    reduced (common a b) a.remainder (int_rem x y) (subst (Multiple (common a b)) i (minus _ _ _ u t))

pub remains : (a b : Residue) (x y : ℤ) → leaves a x ≡ true
    → leaves b y ≡ true → ¬ (y ≡ pos 0) → leaves (remainder a b) (int_rem x y) ≡ true
remains a b x y p q z =
    let L : Residue → Type 0 = λ c. leaves c (int_rem x y) ≡ true in
    cond_both (is_zero b) all _ L (λ e. all_holds (int_rem x y)) (λ o. cond_both (a.modulus == 0 && is_divisor b) _ _ L
    (λ e.
    let h = and_parts (a.modulus == 0) (is_divisor b) e in
    let i = and_parts (b.modulus == 0) (nat_lt 0 (unsigned_abs b.remainder)) h.1 in
    subst (λ n. leaves (reduce 0 n) (int_rem x y) ≡ true)
    (ap (λ n. int_rem n y) (single a x h.0 p) ∙ ap (int_rem a.remainder) (single b y i.0 q)) (number (int_rem x y)))
    (λ e. remainder_holds a b x y p q))

pub masks : (a b : Residue) (m n : ℕ) → leaves a (pos m) ≡ true → leaves b (pos n) ≡ true → leaves (mask a b) (pos (bit_and m n)) ≡ true
masks a b m n p q =
    cond_both (a.modulus == 0 && b.modulus == 0) _ all (λ c. leaves c (pos (bit_and m n)) ≡ true)
    (λ e.
    let h = and_parts (a.modulus == 0) (b.modulus == 0) e in
    subst (λ z. leaves (reduce 0 z) (pos (bit_and m n)) ≡ true) (ap (λ z. masked z (pos n)) (single a (pos m) h.0 p)
    ∙ ap (masked a.remainder) (single b (pos n) h.1 q)) (number (pos (bit_and m n))))
    (λ e. all_holds (pos (bit_and m n)))

pub shifts_left : (a : Residue) (k : ℕ) (x : ℤ) → leaves a x ≡ true → leaves (shift_left a k) (x *ℤ pos (2 ^ k)) ≡ true
shifts_left a k x p = multiplies a (record { modulus = 0; remainder = pos (2 ^ k) }) x (pos (2 ^ k)) p
    (to-test 0 (pos (2 ^ k) -ℤ pos (2 ^ k)) (pos 0, omega (arith, ints)))

-- a number is its quotient rounded down, times the divisor, and what is left
floor-is : (r : ℤ) (m : ℕ) → 0 < m → (r -ℤ int_div_euclid r (pos m) *ℤ pos m ≡ int_rem_euclid r (pos m))
    × (pos 0 ≤ℤ int_rem_euclid r (pos m)) × (int_rem_euclid r (pos m) <ℤ pos m)
floor-is (pos a) m h = let e = div-add-mod' a m in let f = mod_below a m h in
    (omega (arith, ints), omega (arith, ints), omega (arith, ints))
floor-is (negsuc a) m h = let e = div-add-mod' a m in let f = mod_below a m h in
    (omega (arith, ints), omega (arith, ints), omega (arith, ints))

size : (z : ℤ) (n : ℕ) → z <ℤ pos n → neg_ℤ (pos n) <ℤ z → unsigned_abs z < n
size (pos a) n p q = omega (arith, ints)
size (negsuc a) n p q = omega (arith, ints)

pub floors : (x r t : ℤ) (m : ℕ) → 0 < m → x -ℤ r ≡ t *ℤ pos m → int_div_euclid x (pos m) -ℤ int_div_euclid r (pos m) ≡ t
floors x r t m h e =
    let fx = floor-is x m h in
    let fr = floor-is r m h in
    let a = fx.0 in let b = fx.1 in let c = fx.2 in let d = fr.0 in let f = fr.1 in let g = fr.2 in
    let s = add-mul t (int_div_euclid r (pos m)) (pos m) in
    let k : int_div_euclid x (pos m)
    ≡ t +ℤ int_div_euclid r (pos m) = cancelled (int_div_euclid x (pos m)) (t +ℤ int_div_euclid r (pos m)) (pos m)
    (size (int_div_euclid x (pos m) *ℤ pos m -ℤ (t +ℤ int_div_euclid r (pos m)) *ℤ pos m) m (omega (arith, ints, s))
    (omega (arith, ints, s))) in
    omega (arith, ints, k)

pub shifts_right : (a : Residue) (k : ℕ) (x : ℤ) → leaves a x ≡ true → leaves (shift_right a k) (int_div_euclid x (pos (2 ^ k))) ≡ true
shifts_right a k x p =
    let n = 2 ^ k in
    cond_both (a.modulus % n == 0) _ all (λ c. leaves c (int_div_euclid x (pos n)) ≡ true)
    (λ e.
    let q = from-test a.modulus (x -ℤ a.remainder) p in
    let c : pos a.modulus ≡ pos (a.modulus / n) *ℤ pos n = ap pos (divided n a.modulus (dvd_of_mod-eq-zero _ (eqb-true _ 0 e))) in
    let u = q.1 ∙ ap (λ z. q.0 *ℤ z) c ∙ sym (mul_assoc q.0 (pos (a.modulus / n)) (pos n)) in
    reduced (a.modulus / n) (int_div_euclid a.remainder (pos n))
    (int_div_euclid x (pos n)) (q.0, floors x a.remainder (q.0 *ℤ pos (a.modulus / n)) n (pow_pos k) u))
    (λ e. all_holds (int_div_euclid x (pos n)))

le-self : (z r : ℤ) → z ≡ r → (int_le r z && int_le z r) ≡ true
le-self z r e = and_from (int_le r z) (int_le z r) (grind (arith, ints)) (grind (arith, ints))

pub within : (a : Residue) (x : ℤ) → leaves a x ≡ true → is_within (bounds a) x ≡ true
within a x p = cond_both (a.modulus == 0) (record { low = Some a.remainder; high = Some a.remainder })
    (record { low = None; high = None }) (λ b. is_within b x ≡ true) (λ e. le-self x a.remainder (single a x e p)) (λ e. refl)
