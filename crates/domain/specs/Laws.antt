-- The operations on congruences hold what they promise (Granger 1989).
use Rattle.std.proofs.Common.{◌≡◌, ℕ, true, arith, ◌*◌, ◌^◌, ◌<◌, subst, ◌⊎◌, inl, inr}
use Rattle.std.specs.Prelude.{ℤ, pos, ◌+ℤ◌, ◌-ℤ◌, ◌*ℤ◌, ◌==◌, nat_lt}
use Rattle.std.specs.Int.{int_rem_euclid}
use Rattle.std.specs.Int.RustNames.{unsigned_abs}
use Rattle.std.proofs.lemmas.Bool.{cond_both, eqb-true, eqb-false, eq-eqb}
use Rattle.std.proofs.lemmas.Int.{ints}
use Rattle.std.proofs.lemmas.Nat.Gcd.{dvd_refl, dvd_trans}
use Rattle.semantics.proofs.Integers.{mul_comm, add-mul, mul-add}
use Rattle.domain.specs.declared.Residue.{Residue}
use Rattle.domain.specs.Members.{leaves}
use Rattle.domain.specs.Residues.{all, fits, reduce, gcd, join, add, subtract, multiply}
use Rattle.domain.specs.Multiples.{Multiple, from-test, to-test, plus, minus, coarser, itself, scaled, left_over, gcd-is}

by-one : (x : ℤ) → leaves all x ≡ true
by-one x = eq-eqb _ 0 (omega arith)

pub all_holds : (x : ℤ) → leaves all x ≡ true
all_holds = by-one

pub reduced : (m : ℕ) (r z : ℤ) → Multiple m (z -ℤ r) → leaves (reduce m r) z ≡ true
reduced m r z h =
    let L : Residue → Type 0 = λ a. leaves a z ≡ true in
    cond_both (m == 0) _ _ L
    (λ e. cond_both (fits r) (record { modulus = 0; remainder = r }) all L
    (λ f. to-test 0 (z -ℤ r) (subst (λ n. Multiple n (z -ℤ r)) (eqb-true m 0 e) h)) (λ f. by-one z))
    (λ e. cond_both (nat_lt m (2 ^ 63)) (record { modulus = m; remainder = int_rem_euclid r (pos m) }) all L
    (λ f.
    let w : 0 < m = omega (arith, eqb-false m 0 e) in
    let p = plus m (z -ℤ r) (r -ℤ int_rem_euclid r (pos m)) h (left_over m r w) in
    let s : (z -ℤ r) +ℤ (r -ℤ int_rem_euclid r (pos m)) ≡ z -ℤ int_rem_euclid r (pos m) = omega (arith, ints) in
    to-test m (z -ℤ int_rem_euclid r (pos m)) (subst (Multiple m) s p))
    (λ f. by-one z))

pub number : (n : ℤ) → leaves (reduce 0 n) n ≡ true
number n = reduced 0 n n (pos 0, omega (arith, ints))

-- along an equation
at : (m : ℕ) (x y : ℤ) → x ≡ y → Multiple m x → Multiple m y
at m x y e = subst (Multiple m) e

pub adds : (a b : Residue) (x y : ℤ) → leaves a x ≡ true → leaves b y ≡ true → leaves (add a b) (x +ℤ y) ≡ true
adds a b x y p q =
    let g = gcd-is a.modulus b.modulus in
    let u = coarser _ a.modulus (x -ℤ a.remainder) g.0 (from-test a.modulus (x -ℤ a.remainder) p) in
    let v = coarser _ b.modulus (y -ℤ b.remainder) g.1 (from-test b.modulus (y -ℤ b.remainder) q) in
    reduced (gcd a.modulus b.modulus) (a.remainder +ℤ b.remainder) (x +ℤ y) (at _ ((x -ℤ a.remainder) +ℤ (y -ℤ b.remainder))
    ((x +ℤ y) -ℤ (a.remainder +ℤ b.remainder)) (omega (arith, ints)) (plus _ _ _ u v))

pub subtracts : (a b : Residue) (x y : ℤ) → leaves a x ≡ true → leaves b y ≡ true → leaves (subtract a b) (x -ℤ y) ≡ true
subtracts a b x y p q =
    let g = gcd-is a.modulus b.modulus in
    let u = coarser _ a.modulus (x -ℤ a.remainder) g.0 (from-test a.modulus (x -ℤ a.remainder) p) in
    let v = coarser _ b.modulus (y -ℤ b.remainder) g.1 (from-test b.modulus (y -ℤ b.remainder) q) in
    reduced (gcd a.modulus b.modulus) (a.remainder -ℤ b.remainder) (x -ℤ y) (at _ ((x -ℤ a.remainder) -ℤ (y -ℤ b.remainder))
    ((x -ℤ y) -ℤ (a.remainder -ℤ b.remainder)) (omega (arith, ints)) (minus _ _ _ u v))

pub joins : (a b : Residue) (z : ℤ) → (leaves a z ≡ true) ⊎ (leaves b z ≡ true) → leaves (join a b) z ≡ true
joins a b z (inl p) =
    let h = gcd-is a.modulus b.modulus in
    let g = gcd-is (gcd a.modulus b.modulus) (unsigned_abs (a.remainder -ℤ b.remainder)) in
    let u = coarser _ a.modulus (z -ℤ a.remainder) (dvd_trans _ g.0 h.0) (from-test a.modulus (z -ℤ a.remainder) p) in
    let v = itself _ (a.remainder -ℤ b.remainder) g.1 in
    reduced _ b.remainder z
    (at _ ((z -ℤ a.remainder) +ℤ (a.remainder -ℤ b.remainder)) (z -ℤ b.remainder) (omega (arith, ints)) (plus _ _ _ u v))
joins a b z (inr p) =
    let h = gcd-is a.modulus b.modulus in
    let g = gcd-is (gcd a.modulus b.modulus) (unsigned_abs (a.remainder -ℤ b.remainder)) in
    reduced _ b.remainder z (coarser _ b.modulus (z -ℤ b.remainder) (dvd_trans _ g.0 h.1) (from-test b.modulus (z -ℤ b.remainder) p))

-- a product's distance from the remainders' product, by those of the factors
spread : (x y r s : ℤ) → ((x -ℤ r) *ℤ (y -ℤ s) +ℤ (x -ℤ r) *ℤ s) +ℤ (y -ℤ s) *ℤ r ≡ x *ℤ y -ℤ r *ℤ s
spread x y r s =
    let a : (x -ℤ r) *ℤ ((y -ℤ s) +ℤ s) ≡ (x -ℤ r) *ℤ (y -ℤ s) +ℤ (x -ℤ r) *ℤ s = mul-add (x -ℤ r) (y -ℤ s) s in
    let e : (y -ℤ s) +ℤ s ≡ y = omega (arith, ints) in
    let b : (x -ℤ r) *ℤ y ≡ (x -ℤ r) *ℤ (y -ℤ s) +ℤ (x -ℤ r) *ℤ s = subst
    (λ z. (x -ℤ r) *ℤ z ≡ (x -ℤ r) *ℤ (y -ℤ s) +ℤ (x -ℤ r) *ℤ s) e a in
    let c : ((x -ℤ r) +ℤ r) *ℤ y ≡ (x -ℤ r) *ℤ y +ℤ r *ℤ y = add-mul (x -ℤ r) r y in
    let f : (x -ℤ r) +ℤ r ≡ x = omega (arith, ints) in
    let d : x *ℤ y ≡ (x -ℤ r) *ℤ y +ℤ r *ℤ y = subst (λ z. z *ℤ y ≡ (x -ℤ r) *ℤ y +ℤ r *ℤ y) f c in
    let g : ((y -ℤ s) +ℤ s) *ℤ r ≡ (y -ℤ s) *ℤ r +ℤ s *ℤ r = add-mul (y -ℤ s) s r in
    let h : y *ℤ r ≡ (y -ℤ s) *ℤ r +ℤ s *ℤ r = subst (λ z. z *ℤ r ≡ (y -ℤ s) *ℤ r +ℤ s *ℤ r) e g in
    let i = mul_comm r y in
    let j = mul_comm s r in
    omega (arith, ints, b, d, h, i, j)

pub multiplies : (a b : Residue) (x y : ℤ) → leaves a x ≡ true → leaves b y ≡ true → leaves (multiply a b) (x *ℤ y) ≡ true
multiplies a b x y p q =
    let m = a.modulus in let n = b.modulus in let r = a.remainder in let s = b.remainder in
    let u = from-test m (x -ℤ r) p in
    let v = from-test n (y -ℤ s) q in
    let h = gcd-is (m * n) (m * unsigned_abs s) in
    let g = gcd-is (gcd (m * n) (m * unsigned_abs s)) (n * unsigned_abs r) in
    let one = coarser _ (m * n) ((x -ℤ r) *ℤ (y -ℤ s)) (dvd_trans _ g.0 h.0) (scaled m n _ _ u v) in
    let two = coarser _ (m * unsigned_abs s)
    ((x -ℤ r) *ℤ s) (dvd_trans _ g.0 h.1) (scaled m (unsigned_abs s) _ _ u (itself _ s (dvd_refl _))) in
    let three = coarser _ (n * unsigned_abs r) ((y -ℤ s) *ℤ r) g.1 (scaled n (unsigned_abs r) _ _ v (itself _ r (dvd_refl _))) in
    reduced _ (r *ℤ s) (x *ℤ y) (at _ _ _ (spread x y r s) (plus _ _ _ (plus _ _ _ one two) three))
