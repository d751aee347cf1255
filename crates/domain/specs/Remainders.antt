-- Remainders, masks, shifts and residues hold what they promise.
use Rattle.std.proofs.Common.{◌≡◌, ℕ, zero, suc, true, Option, Some, None, arith, ◌/◌, ◌%◌, ◌^◌, ◌<◌, refl, ap}
use Rattle.std.specs.Prelude.{ℤ, pos, negsuc, ◌≤ℤ◌, ◌-ℤ◌, ◌*ℤ◌, neg_ℤ, ◌&&◌, ◌==◌}
use Rattle.std.specs.Int.{int_min, int_max, int_div_euclid}
use Rattle.std.specs.Int.RustNames.{int_le, int_rem, unsigned_abs, bit_and}
use Rattle.std.proofs.lemmas.Bool.{cond_both, eq-eqb}
use Rattle.std.proofs.lemmas.Int.{ints, clamps, rem_below}
use Rattle.std.proofs.lemmas.Nat.{le-div, and_le_l, and_le_r, pow_pos}
use Rattle.std.proofs.Math.Nat.{div-mul-le_self, div-le_self, mod-le}
use Rattle.domain.specs.declared.Bounds.{Bounds}
use Rattle.domain.specs.Members.{leaves}
use Rattle.domain.specs.Ends.{IsOrdered, least, greatest, far, is_member, is_zero, all, low_of, high_of, span, remainder, remainders, mask, shifted, shift_left, shift_right, residue}
use Rattle.domain.specs.IntervalMembers.{Low, High, member, member-in, in_span, le-yes}
use Rattle.domain.specs.Sums.{low-far, high-far}
use Rattle.domain.specs.Products.{multiplies}

-- between 0 and the dividend, and less in size than the divisor
below-divisor : (y : ℤ) → ¬ (y ≡ pos 0) → 0 < unsigned_abs y
below-divisor (pos zero) z = absurd (z refl)
below-divisor (pos (suc k)) z = omega arith
below-divisor (negsuc k) z = omega arith

sign : (x y : ℤ) → (int_min (pos 0) x ≤ℤ int_rem x y) × (int_rem x y ≤ℤ int_max (pos 0) x)
sign (pos a) y = let u = mod-le a (unsigned_abs y) in (omega (arith, ints, clamps), omega (arith, ints, clamps))
sign (negsuc a) y = let u = mod-le (suc a) (unsigned_abs y) in (omega (arith, ints, clamps), omega (arith, ints, clamps))

remainders_hold : (a b : Bounds) (x y : ℤ) → is_member a x ≡ true → is_member b y ≡ true → ¬ (y ≡ pos 0) → is_member
    (remainders (low_of far a) (high_of far a) (int_max (neg_ℤ (low_of far b)) (high_of far b) -ℤ pos 1)) (int_rem x y) ≡ true
remainders_hold a b x y p q z =
    let la = low-far a.low x (member a x p).0 in
    let lb = low-far b.low y (member b y q).0 in
    let ha = high-far a.high x (member a x p).1 in
    let hb = high-far b.high y (member b y q).1 in
    let m = int_max (neg_ℤ (low_of far b)) (high_of far b) -ℤ pos 1 in
    let s = sign x y in
    let r = rem_below x y (below-divisor y z) in
    in_span _ _ _
    (cond_both (int_le (pos 0) (low_of far a)) (pos 0) (int_max (low_of far a) (neg_ℤ m))
    (λ l. least ≤ℤ l → l ≤ℤ greatest → l ≤ℤ int_rem x y) (λ e f g. omega (arith, ints, clamps, la))
    (λ e f g. omega (arith, ints, clamps, la, lb, hb, r)))
    (cond_both (int_le (high_of far a) (pos 0)) (pos 0) (int_min (high_of far a) m)
    (λ h. least ≤ℤ h → h ≤ℤ greatest → int_rem x y ≤ℤ h) (λ e f g. omega (arith, ints, clamps, ha))
    (λ e f g. omega (arith, ints, clamps, ha, lb, hb, r)))

pub remains : (a b : Bounds) (x y : ℤ) → is_member a x ≡ true → is_member b y ≡ true → ¬ (y ≡ pos 0)
    → is_member (remainder a b) (int_rem x y) ≡ true
remains a b x y p q z = cond_both (is_zero (low_of far b) (high_of far b)) all _
    (λ c. is_member c (int_rem x y) ≡ true) (λ e. refl) (λ e. remainders_hold a b x y p q z)

pub masks : (a b : Bounds) (m n : ℕ) → is_member a (pos m) ≡ true → is_member b (pos n) ≡ true
    → is_member (mask a b) (pos (bit_and m n)) ≡ true
masks a b m n p q =
    let ha = high-far a.high (pos m) (member a (pos m) p).1 in
    let hb = high-far b.high (pos n) (member b (pos n) q).1 in
    let u = and_le_l m n in
    let v = and_le_r m n in
    cond_both (int_le (pos 0) (low_of far a) && int_le (pos 0) (low_of far b))
    (span (pos 0) (int_min (high_of far a) (high_of far b))) all (λ c. is_member c (pos (bit_and m n)) ≡ true)
    (λ e. in_span (pos 0) (int_min (high_of far a) (high_of far b)) (pos (bit_and m n))
    (λ f g. omega (arith, ints)) (λ f g. omega (arith, ints, clamps, ha, hb))) (λ e. refl)

-- rounding down keeps an order, and stays as near to 0
floor-le : (n x : ℤ) (d : ℕ) → 0 < d → n ≤ℤ x → int_div_euclid n (pos d) ≤ℤ int_div_euclid x (pos d)
floor-le (pos a) (pos b) d z h = omega (arith, ints, le-div (a / d) b d z (omega (arith, ints, div-mul-le_self a d)))
floor-le (pos a) (negsuc b) d z h = absurd (omega (arith, ints))
floor-le (negsuc a) (pos b) d z h = omega (arith, ints)
floor-le (negsuc a) (negsuc b) d z h = omega (arith, ints, le-div (b / d) a d z (omega (arith, ints, div-mul-le_self b d)))

floor-fits : (n : ℤ) (d : ℕ) → least ≤ℤ n → n ≤ℤ greatest → (least ≤ℤ int_div_euclid n (pos d)) × (int_div_euclid n (pos d) ≤ℤ greatest)
floor-fits (pos a) d p q = let u = div-le_self a d in (omega (arith, ints), omega (arith, ints))
floor-fits (negsuc a) d p q = let u = div-le_self a d in (omega (arith, ints), omega (arith, ints))

low-shifted : (o : Option ℤ) (k : ℕ) (x : ℤ) → Low o x → Low (shifted o k) (int_div_euclid x (pos (2 ^ k)))
low-shifted None k x h = tt
low-shifted (Some n) k x h = let f = floor-fits n (2 ^ k) h.0 h.1 in (f.0, f.1, floor-le n x (2 ^ k) (pow_pos k) h.2)

high-shifted : (o : Option ℤ) (k : ℕ) (x : ℤ) → High o x → High (shifted o k) (int_div_euclid x (pos (2 ^ k)))
high-shifted None k x h = tt
high-shifted (Some n) k x h = let f = floor-fits n (2 ^ k) h.0 h.1 in (f.0, f.1, floor-le x n (2 ^ k) (pow_pos k) h.2)

pub shifts_right : (a : Bounds) (k : ℕ) (x : ℤ) → is_member a x ≡ true → is_member (shift_right a k) (int_div_euclid x (pos (2 ^ k))) ≡ true
shifts_right a k x p = member-in (shifted a.low k) (shifted a.high k) _
    (low-shifted a.low k x (member a x p).0) (high-shifted a.high k x (member a x p).1)

pub one : (n : ℤ) → is_member (span n n) n ≡ true
one n = in_span n n n (λ s t. omega (arith, ints)) (λ s t. omega (arith, ints))

pub shifts_left : (a : Bounds) (k : ℕ) (x : ℤ) → is_member a x ≡ true → is_member (shift_left a k) (x *ℤ pos (2 ^ k)) ≡ true
shifts_left a k x p = multiplies a (span (pos (2 ^ k)) (pos (2 ^ k))) x (pos (2 ^ k)) p (one (pos (2 ^ k)))

same : (r x : ℤ) → x ≡ r → leaves (record { modulus = 0; remainder = r }) x ≡ true
same r x e = ap (λ n. n % 0 == 0) (let f : unsigned_abs (x -ℤ r) ≡ 0 = omega (arith, ints) in f)

by-one : (x : ℤ) → leaves (record { modulus = 1; remainder = pos 0 }) x ≡ true
by-one x = eq-eqb _ 0 (omega arith)

leaves_single : (low high : Option ℤ) (x : ℤ) → Low low x → High high x → leaves (residue (record { low = low; high = high })) x ≡ true
leaves_single None high x p q = by-one x
leaves_single (Some l) None x p q = by-one x
leaves_single (Some l) (Some h) x p q =
    let u = p.2 in let v = q.2 in
    cond_both (int_le h l) (record { modulus = 0; remainder = l }) _ (λ r. leaves r x ≡ true)
    (λ e. let w = le-yes h l e in same l x (omega (arith, ints))) (λ e. by-one x)

pub left : (a : Bounds) (x : ℤ) → is_member a x ≡ true → leaves (residue a) x ≡ true
left a x p = leaves_single a.low a.high x (member a x p).0 (member a x p).1

pub shifted-ordered : (low high : Option ℤ) (k : ℕ) → IsOrdered (record { low = low; high = high })
    → IsOrdered (record { low = shifted low k; high = shifted high k })
shifted-ordered None high k h = tt
shifted-ordered (Some l) None k h = tt
shifted-ordered (Some l) (Some r) k h = floor-le l r (2 ^ k) (pow_pos k) h
