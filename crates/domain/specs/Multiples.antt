-- Multiples of a number, and greatest common divisors.
use Rattle.std.proofs.Common.{◌≡◌, ℕ, zero, suc, true, arith, ◌*◌, ◌/◌, ◌%◌, ◌<◌, subst, ap, sym, ◌∙◌}
use Rattle.std.specs.Prelude.{ℤ, pos, negsuc, ◌+ℤ◌, ◌-ℤ◌, ◌*ℤ◌, ◌==◌}
use Rattle.std.specs.Int.{IsGcd, ◌∣◌, int_rem_euclid}
use Rattle.std.specs.Int.RustNames.{unsigned_abs}
use Rattle.std.proofs.lemmas.Bool.{cond_both, eqb-true, eqb-false, eq-eqb}
use Rattle.std.proofs.lemmas.Int.{ints, unsigned_abs-mul}
use Rattle.std.proofs.lemmas.Nat.{div-add-mod', mod_below}
use Rattle.std.proofs.lemmas.Nat.Gcd.{mod-eq-zero_of_dvd, IsGcd-from_zero, IsGcd-from_mod}
use Rattle.std.proofs.Math.Nat.{dvd-mul_left}
use Rattle.semantics.proofs.Integers.{mul_comm, add-mul, mul_assoc}
use Rattle.domain.specs.Residues.{steps, gcd}

abbrev pub Multiple : ℕ → ℤ → Type 0
Multiple m z = (q : ℤ) × (z ≡ q *ℤ pos m)

pub divided : (m n : ℕ) → m ∣ n → n ≡ n / m * m
divided m n h = let e = mod-eq-zero_of_dvd m h in let f = div-add-mod' n m in omega arith

pub times : (m : ℕ) (x k : ℤ) → Multiple m x → Multiple m (k *ℤ x)
times m x k p = (k *ℤ p.0, ap (λ z. k *ℤ z) p.1 ∙ sym (mul_assoc k p.0 (pos m)))

natural : (m n : ℕ) → n % m ≡ 0 → Multiple m (pos n)
natural m n e = let f = div-add-mod' n m in (pos (n / m), omega (arith, ints))

pub from-test : (m : ℕ) (z : ℤ) → (unsigned_abs z % m == 0) ≡ true → Multiple m z
from-test m (pos n) h = natural m n (eqb-true (n % m) 0 h)
from-test m (negsuc n) h =
    let p = times m (pos (suc n)) (negsuc 0) (natural m (suc n) (eqb-true (suc n % m) 0 h)) in
    let e : negsuc n ≡ negsuc 0 *ℤ pos (suc n) = omega (arith, ints) in
    (p.0, e ∙ p.1)

pub to-test : (m : ℕ) (z : ℤ) → Multiple m z → (unsigned_abs z % m == 0) ≡ true
to-test m z h =
    let e : unsigned_abs z ≡ unsigned_abs h.0 * m = ap unsigned_abs h.1 ∙ unsigned_abs-mul h.0 (pos m) in
    eq-eqb (unsigned_abs z % m) 0 (mod-eq-zero_of_dvd m (subst (λ n. m ∣ n) (sym e) (dvd-mul_left m (unsigned_abs h.0))))

pub plus : (m : ℕ) (x y : ℤ) → Multiple m x → Multiple m y → Multiple m (x +ℤ y)
plus m x y p q = let e = add-mul p.0 q.0 (pos m) in let f = p.1 in let g = q.1 in (p.0 +ℤ q.0, omega (arith, ints, e, f, g))

pub minus : (m : ℕ) (x y : ℤ) → Multiple m x → Multiple m y → Multiple m (x -ℤ y)
minus m x y p q =
    let h : Multiple m (x +ℤ (negsuc 0 *ℤ y)) = plus m x (negsuc 0 *ℤ y) p (times m y (negsuc 0) q) in
    (h.0, let e = h.1 in omega (arith, ints, e))

-- a multiple of a multiple
pub coarser : (g m : ℕ) (z : ℤ) → g ∣ m → Multiple m z → Multiple g z
coarser g m z d p =
    let e : pos m ≡ pos (m / g) *ℤ pos g = ap pos (divided g m d) in
    (p.0 *ℤ pos (m / g), p.1 ∙ ap (λ x. p.0 *ℤ x) e ∙ sym (mul_assoc p.0 (pos (m / g)) (pos g)))

pub itself : (m : ℕ) (z : ℤ) → m ∣ unsigned_abs z → Multiple m z
itself m z d = from-test m z (eq-eqb (unsigned_abs z % m) 0 (mod-eq-zero_of_dvd m d))

pub scaled : (m n : ℕ) (x y : ℤ) → Multiple m x → Multiple n y → Multiple (m * n) (x *ℤ y)
scaled m n x y p q = (
  p.0 *ℤ q.0,
  ap (λ z. z *ℤ y) p.1 ∙ ap (λ z. (p.0 *ℤ pos m) *ℤ z) q.1 ∙ mul_assoc p.0 (pos m) (q.0 *ℤ pos n)
      ∙ ap (λ z. p.0 *ℤ z) (sym (mul_assoc (pos m) q.0 (pos n)) ∙ ap (λ z. z *ℤ pos n) (mul_comm (pos m) q.0)
      ∙ mul_assoc q.0 (pos m) (pos n)) ∙ sym (mul_assoc p.0 q.0 (pos m *ℤ pos n)),
)

-- what a number leaves by a modulus
pub left_over : (m : ℕ) (r : ℤ) → 0 < m → Multiple m (r -ℤ int_rem_euclid r (pos m))
left_over m (pos a) h = let e = div-add-mod' a m in (pos (a / m), omega (arith, ints))
left_over m (negsuc a) h = let e = div-add-mod' a m in let f = mod_below a m h in (negsuc (a / m), omega (arith, ints))

steps-is : (n a b : ℕ) → b < n → IsGcd a b (steps n a b)
steps-is zero a b h = absurd (omega arith)
steps-is (suc n) a b h = cond_both (b == 0) a (steps n b (a % b)) (IsGcd a b) (λ e. IsGcd-from_zero a b (eqb-true b 0 e))
    (λ e. let z : 0 < b = omega (arith, eqb-false b 0 e) in let f = mod_below a b z in IsGcd-from_mod a b _ (steps-is n b (a % b) (omega arith)))

pub gcd-is : (a b : ℕ) → IsGcd a b (gcd a b)
unfolding gcd
gcd-is a b = steps-is (suc b) a b (omega arith)
