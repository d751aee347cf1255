-- Which numbers have known bits: by their remainders, and bit by bit.
use Rattle.std.proofs.Common.{◌≡◌, ℕ, zero, suc, true, arith, ◌+◌, ◌-◌, ◌*◌, ◌/◌, ◌%◌, ◌^◌, ◌<◌, ◌≤◌, refl, subst, ap, sym, ◌∙◌}
use Rattle.std.specs.Prelude.{ℤ, pos, negsuc, ◌+ℤ◌, ◌-ℤ◌}
use Rattle.std.specs.Int.{int_rem_euclid, trailing_ones, bit_at, w32, ◌∣◌}
use Rattle.std.specs.Int.RustNames.{unsigned_abs, bit_and}
use Rattle.std.specs.Int.Count.{count_trailing_zeros, trailing_of_zero}
use Rattle.std.proofs.lemmas.Bool.{eqb-true, eq-eqb}
use Rattle.std.proofs.lemmas.Int.{ints}
use Rattle.std.proofs.lemmas.Nat.{and_mod, and_mask, and_le_l, and_le_r, mod_below, pow_pos, pow-add, shr_split, trailing_le}
use Rattle.std.proofs.lemmas.Nat.Bits.{bit_at_cat_low, bit_at_ones, bit_at-trailing_ones, same_from_bits_below}
use Rattle.std.proofs.Math.Nat.{mod-mod, mod-mod_of_dvd, mod-eq_of_lt, dvd-mul_left}
use Rattle.domain.specs.Multiples.{Multiple, left_over, to-test, plus, minus, coarser}
use Rattle.domain.specs.KnownBits.{Bits, modulo, agrees, lowest, low, shared}

-- ---- what a number leaves
is-natural : (z : ℤ) (m : ℕ) → int_rem_euclid z (pos m) ≡ pos (modulo z m)
is-natural (pos a) m = refl
is-natural (negsuc a) m = refl

pub below : (z : ℤ) (m : ℕ) → 0 < m → modulo z m < m
below (pos a) m h = mod_below a m h
below (negsuc a) m h = omega arith

pub apart : (z : ℤ) (m : ℕ) → 0 < m → Multiple m (z -ℤ pos (modulo z m))
apart z m h = subst (λ r. Multiple m (z -ℤ r)) (is-natural z m) (left_over m z h)

small-same : (r s m : ℕ) → r < m → s < m → Multiple m (pos r -ℤ pos s) → r ≡ s
small-same r s m p q h =
    let e : unsigned_abs (pos r -ℤ pos s) % m ≡ 0 = eqb-true (unsigned_abs (pos r -ℤ pos s) % m) 0 (to-test m (pos r -ℤ pos s) h) in
    let b : unsigned_abs (pos r -ℤ pos s) < m = omega (arith, ints) in
    let z : unsigned_abs (pos r -ℤ pos s) ≡ 0 = sym (mod-eq_of_lt b) ∙ e in
    omega (arith, ints, z)

-- numbers that are a multiple apart leave the same
pub same : (x y : ℤ) (m : ℕ) → 0 < m → Multiple m (x -ℤ y) → modulo x m ≡ modulo y m
same x y m h d =
    let r = pos (modulo x m) in let s = pos (modulo y m) in
    let e : ((x -ℤ y) -ℤ (x -ℤ r)) +ℤ (y -ℤ s) ≡ r -ℤ s = omega (arith, ints) in
    small-same (modulo x m) (modulo y m) m (below x m h) (below y m h)
    (subst (Multiple m) e (plus m _ _ (minus m _ _ d (apart x m h)) (apart y m h)))

-- and the other way round
pub multiple : (x y : ℤ) (m : ℕ) → 0 < m → modulo x m ≡ modulo y m → Multiple m (x -ℤ y)
multiple x y m h e =
    let f : (x -ℤ pos (modulo x m)) -ℤ (y -ℤ pos (modulo y m)) ≡ x -ℤ y = omega (arith, ints, ap pos e) in
    subst (Multiple m) f (minus m _ _ (apart x m h) (apart y m h))

pub divides-32 : (t : ℕ) → t ≤ 32 → 2 ^ t ∣ 2 ^ 32
divides-32 t h =
    let e : 2 ^ (32 - t) * 2 ^ t ≡ 2 ^ 32 = sym (pow-add 2 (32 - t) t) ∙ ap (λ n. 2 ^ n) (let f : 32 - t + t ≡ 32 = omega arith in f) in
    subst (λ n. 2 ^ t ∣ n) e (dvd-mul_left (2 ^ t) (2 ^ (32 - t)))

-- the t lowest of 32 bits
pub coarse : (z : ℤ) (t : ℕ) → t ≤ 32 → modulo z (2 ^ 32) % 2 ^ t ≡ modulo z (2 ^ t)
coarse z t h =
    let e : (pos (modulo z (2 ^ 32)) -ℤ z) ≡ pos 0 -ℤ (z -ℤ pos (modulo z (2 ^ 32))) = omega (arith, ints) in
    sym (same z (pos (modulo z (2 ^ 32))) (2 ^ t) (pow_pos t) (coarser (2 ^ t) (2 ^ 32) _ (divides-32 t h) (apart z (2 ^ 32) (pow_pos 32))))

-- ---- the lowest bits
pub has : (a : Bits) (z : ℤ) → agrees a z ≡ true → bit_and (modulo z (2 ^ 32)) a.known ≡ a.value
has a z p = eqb-true (bit_and (modulo z (2 ^ 32)) a.known) a.value p

-- a member leaves what the value does, where all lower places are known
pub differs : (a : Bits) (z : ℤ) (t : ℕ) → t ≤ 32 → a.known % 2 ^ t ≡ 2 ^ t - 1 → agrees a z ≡ true → Multiple (2 ^ t) (z -ℤ pos a.value)
differs a z t h k p =
    let w = modulo z (2 ^ 32) in
    let e : a.value % 2 ^ t ≡ modulo z (2 ^ t) =
    ap (λ n. n % 2 ^ t) (sym (has a z p)) ∙ and_mod w a.known t ∙ ap (bit_and (w % 2 ^ t)) k ∙ and_mask (w % 2 ^ t) t
    ∙ mod-mod w (2 ^ t) ∙ coarse z t h in
    multiple z (pos a.value) (2 ^ t) (pow_pos t) (sym e)

pub in_lowest : (t : ℕ) (n z : ℤ) → t ≤ 32 → Multiple (2 ^ t) (z -ℤ n) → agrees (lowest t n) z ≡ true
in_lowest t n z h d = eq-eqb (bit_and (modulo z (2 ^ 32)) (2 ^ t - 1)) (modulo n (2 ^ t)) (and_mask (modulo z (2 ^ 32)) t
    ∙ coarse z t h ∙ same z n (2 ^ t) (pow_pos t) d)

-- ---- how many are known
pub low-within : (known : ℕ) → low known ≤ 32
unfolding low
low-within known = trailing_le 32 _

low-bits : (m t i : ℕ) → i < t → bit_at (m % 2 ^ t) i ≡ bit_at m i
low-bits m t i h = sym (bit_at_cat_low (m / 2 ^ t) t (m % 2 ^ t) i h) ∙ ap (λ n. bit_at n i) (shr_split m t)

-- all bits up to the t-th are 1
ones-from-bits : (m t : ℕ) → ((i : ℕ) → i < t → bit_at m i ≡ 1) → m % 2 ^ t ≡ 2 ^ t - 1
ones-from-bits m t f =
    let p = pow_pos t in
    same_from_bits_below t (m % 2 ^ t) (2 ^ t - 1) (mod_below m (2 ^ t) p) (omega arith)
    (λ i h. low-bits m t i h ∙ f i h ∙ sym (bit_at_ones t i h))

ones-below : (m : ℕ) → m < 2 ^ 32 → m % 2 ^ trailing_ones w32 m ≡ 2 ^ trailing_ones w32 m - 1
ones-below m h = by (2 ^ 32 - 1 - m) refl
  where
    by : (n : ℕ) → n ≡ 2 ^ 32 - 1 - m → m % 2 ^ trailing_ones w32 m ≡ 2 ^ trailing_ones w32 m - 1
    by zero e =
        let t : trailing_ones w32 m ≡ 32 = ap (count_trailing_zeros 32) (sym e) ∙ trailing_of_zero 32 in
        subst (λ t. m % 2 ^ t ≡ 2 ^ t - 1) (sym t) (omega arith)
    by (suc k) e = ones-from-bits m (trailing_ones w32 m) (bit_at-trailing_ones w32 m (omega arith)).2

pub low-known : (known : ℕ) → known % 2 ^ low known ≡ 2 ^ low known - 1
unfolding low
low-known known = sym (mod-mod_of_dvd (2 ^ low known) known (divides-32 (low known) (low-within known)))
    ∙ ones-below (known % 2 ^ 32) (mod_below known (2 ^ 32) (pow_pos 32))

-- below the places that both know, each knows all
pub shared-first : (a b : Bits) → a.known % 2 ^ shared a b ≡ 2 ^ shared a b - 1
shared-first a b =
    let t = shared a b in
    let e = sym (and_mod a.known b.known t) ∙ low-known (bit_and a.known b.known) in
    let l = and_le_l (a.known % 2 ^ t) (b.known % 2 ^ t) in
    let m = mod_below a.known (2 ^ t) (pow_pos t) in
    omega (arith, e, l, m)

pub shared-second : (a b : Bits) → b.known % 2 ^ shared a b ≡ 2 ^ shared a b - 1
shared-second a b =
    let t = shared a b in
    let e = sym (and_mod a.known b.known t) ∙ low-known (bit_and a.known b.known) in
    let l = and_le_r (a.known % 2 ^ t) (b.known % 2 ^ t) in
    let m = mod_below b.known (2 ^ t) (pow_pos t) in
    omega (arith, e, l, m)
