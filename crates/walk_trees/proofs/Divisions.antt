-- Quotients, remainders and bits of numbers of a kind.
use Rattle.std.proofs.Common.{◌≡◌, ℕ, zero, suc, ◌+◌, ◌-◌, ◌/◌, ◌%◌, ◌^◌, ◌<◌, ◌≤◌, Bool, true, false, cond, nat_lt, arith, refl, sym, ap, ◌∙◌, inl, inr, ltb-true, ltb-false, lt-ltb, mod-eq_of_lt}
use Rattle.std.specs.Prelude.{ℤ, pos, negsuc, neg_ℤ, ◌+ℤ◌, ◌-ℤ◌, ◌*ℤ◌, ◌≤ℤ◌, ◌<ℤ◌, ◌⊎◌, int_div, int_rem, bit_and, bit_or, bit_xor, Ok}
use Rattle.std.specs.Ordering.{int_eq}
use Rattle.std.specs.Int.RustNames.{unsigned_abs}
use Rattle.std.proofs.lemmas.Int.{ints, quot-rem}
use Rattle.std.specs.Int.{int_rem_euclid}
use Rattle.std.proofs.lemmas.Nat.{div_below, and_mask, and_le_l, and_le_r, or_lt, xor_lt, pow_pos}
use Rattle.std.proofs.lemmas.Bool.{or_cases}
use Rattle.std.proofs.lemmas.Bool.Decides.{Decides-int_eq}
use Rattle.std.proofs.Math.Nat.{div-le_self, mod-le}
use Rattle.semantics.specs.Word.{Kind, Int, Uint, Size, Exact, word, in_kind, bits_of, read_bits, settle}
use Rattle.semantics.proofs.Words.{bits_of-below, read_bits-in_kind, as_kind-same}
use Rattle.walk_trees.specs.Quotients.{is_power}
use Rattle.walk_trees.proofs.KindEnds.{settle-same}
use Rattle.walk_trees.proofs.BitNumbers.{floor-one, run-bits, read-low}

pub settle_in : (k : Kind) (z : ℤ) → in_kind k z ≡ true → settle Exact k z ≡ Ok (word k z)
settle_in k z h = settle-same k z h ∙ ap (λ y. Ok (word k y)) (as_kind-same k z h)

pub negative-in : (m : ℕ) → m ≤ 2 ^ 31 → in_kind Int (neg_ℤ (pos m)) ≡ true
negative-in zero h = lt-ltb 0 (2 ^ 31) (omega arith)
negative-in (suc m) h = lt-ltb m (2 ^ 31) (omega arith)

-- the least `int` is not divided by -1
abbrev pub DoesNotOverflow : Kind → ℤ → ℤ → Type 0
DoesNotOverflow Int x y = (y ≡ negsuc 0 → ⊥) ⊎ (x ≡ negsuc 2147483647 → ⊥)
DoesNotOverflow Uint x y = Unit {0}
DoesNotOverflow Size x y = Unit {0}

minus_one : (a : ℕ) → a < 2 ^ 31 → ((negsuc 0 ≡ negsuc 0 → ⊥) ⊎ (negsuc a ≡ negsuc 2147483647 → ⊥)) → suc a < 2 ^ 31
minus_one a h (inl f) = absurd (f refl)
minus_one a h (inr f) = by (nat_lt (suc a) (2 ^ 31)) refl
  where
    by : (b : Bool) → nat_lt (suc a) (2 ^ 31) ≡ b → suc a < 2 ^ 31
    by true e = ltb-true (suc a) (2 ^ 31) e
    by false e = absurd (f (ap negsuc (let l = ltb-false (suc a) (2 ^ 31) e in omega (arith, h, l))))

pub quotient-in : (k : Kind) (x y : ℤ) → in_kind k x ≡ true → in_kind k y ≡ true → (y ≡ pos 0 → ⊥) → DoesNotOverflow k x y → in_kind k (int_div x y) ≡ true
quotient-in Int (pos a) (pos b) h j z s = let l = ltb-true a (2 ^ 31) h in let d = div-le_self a b in lt-ltb (a / b) (2 ^ 31) (omega (arith, l, d))
quotient-in Int (pos a) (negsuc b) h j z s = let l = ltb-true a (2 ^ 31) h in let d = div-le_self a (suc b) in negative-in (a / suc b) (omega (arith, l, d))
quotient-in Int (negsuc a) (pos b) h j z s = let l = ltb-true a (2 ^ 31) h in let d = div-le_self (suc a) b in negative-in (suc a / b) (omega (arith, l, d))
quotient-in Int (negsuc a) (negsuc zero) h j z s = let l = minus_one a (ltb-true a (2 ^ 31) h) s in let d = div-le_self (suc a) 1 in lt-ltb (suc a / 1) (2 ^ 31) (omega (arith, l, d))
quotient-in Int (negsuc a) (negsuc (suc b)) h j z s = let l = ltb-true a (2 ^ 31) h in lt-ltb (suc a / suc (suc b)) (2 ^ 31) (div_below (suc a) (suc (suc b)) (2 ^ 31) (omega arith) (omega (arith, l)))
quotient-in Uint (pos a) (pos b) h j z s = let l = ltb-true a (2 ^ 32) h in let d = div-le_self a b in lt-ltb (a / b) (2 ^ 32) (omega (arith, l, d))
quotient-in Uint (pos a) (negsuc b) h j z s = cc
quotient-in Uint (negsuc a) y h j z s = cc
quotient-in Size (pos a) (pos b) h j z s = let l = ltb-true a (2 ^ 32) h in let d = div-le_self a b in lt-ltb (a / b) (2 ^ 32) (omega (arith, l, d))
quotient-in Size (pos a) (negsuc b) h j z s = cc
quotient-in Size (negsuc a) y h j z s = cc

-- of a `uint` or a size
pub uint-quotient : (x : ℤ) (n : ℕ) → in_kind Uint x ≡ true → in_kind Uint (int_div x (pos n)) ≡ true
uint-quotient (pos a) n h = let l = ltb-true a (2 ^ 32) h in let d = div-le_self a n in lt-ltb (a / n) (2 ^ 32) (omega (arith, l, d))
uint-quotient (negsuc a) n h = cc

pub remainder-in : (k : Kind) (x y : ℤ) → in_kind k x ≡ true → in_kind k (int_rem x y) ≡ true
remainder-in Int (pos a) y h = let l = ltb-true a (2 ^ 31) h in let d = mod-le a (unsigned_abs y) in lt-ltb (a % unsigned_abs y) (2 ^ 31) (omega (arith, l, d))
remainder-in Int (negsuc a) y h = let l = ltb-true a (2 ^ 31) h in let d = mod-le (suc a) (unsigned_abs y) in negative-in (suc a % unsigned_abs y) (omega (arith, l, d))
remainder-in Uint (pos a) y h = let l = ltb-true a (2 ^ 32) h in let d = mod-le a (unsigned_abs y) in lt-ltb (a % unsigned_abs y) (2 ^ 32) (omega (arith, l, d))
remainder-in Uint (negsuc a) y h = cc
remainder-in Size (pos a) y h = let l = ltb-true a (2 ^ 32) h in let d = mod-le a (unsigned_abs y) in lt-ltb (a % unsigned_abs y) (2 ^ 32) (omega (arith, l, d))
remainder-in Size (negsuc a) y h = cc

-- of a dividend of at least 0 by a number above 0
pub safe-positive : (k : Kind) (x c : ℤ) → pos 0 <ℤ c → DoesNotOverflow k x c
safe-positive Int x c h = inl (λ e. omega (arith, ints, h, e))
safe-positive Uint x c h = tt
safe-positive Size x c h = tt

pub not-zero : (c : ℤ) → pos 0 <ℤ c → c ≡ pos 0 → ⊥
not-zero c h e = omega (arith, ints, h, e)

pub left-is : (x c : ℤ) → int_rem x c +ℤ c *ℤ int_div x c ≡ x
left-is x c = omega (arith, ints, quot-rem x c)

pub left-low : (x c : ℤ) → pos 0 ≤ℤ x → pos 0 ≤ℤ int_rem x c
left-low (pos a) c h = omega (arith, ints)
left-low (negsuc a) c h = absurd (omega (arith, ints))

pub left-high : (x c : ℤ) → pos 0 ≤ℤ x → pos 0 <ℤ c → pos 0 ≤ℤ ((c -ℤ pos 1) -ℤ int_rem x c)
left-high (pos a) (pos zero) h l = absurd (omega (arith, ints))
left-high (pos a) (pos (suc b)) h l = let m : a % suc b < suc b = omega arith in omega (arith, ints, m)
left-high (pos a) (negsuc b) h l = absurd (omega (arith, ints))
left-high (negsuc a) c h l = absurd (omega (arith, ints))

-- bits
pub bits-in : (k : Kind) (n : ℕ) → n < 2 ^ 32 → in_kind k (read_bits k n) ≡ true
bits-in k n h = read_bits-in_kind k n h

pub and-below : (a b : ℤ) → bit_and (bits_of a) (bits_of b) < 2 ^ 32
and-below a b = let l = and_le_l (bits_of a) (bits_of b) in let m = bits_of-below a in omega (arith, l, m)

pub or-below : (a b : ℤ) → bit_or (bits_of a) (bits_of b) < 2 ^ 32
or-below a b = or_lt 32 (bits_of a) (bits_of b) (bits_of-below a) (bits_of-below b)

pub xor-below : (a b : ℤ) → bit_xor (bits_of a) (bits_of b) < 2 ^ 32
xor-below a b = xor_lt 32 (bits_of a) (bits_of b) (bits_of-below a) (bits_of-below b)

-- one of 2^0 to 2^n
pub power_of : (n : ℕ) (c : ℤ) → is_power n c ≡ true → (j : ℕ) × (j ≤ n) × (c ≡ pos (2 ^ j))
unfolding is_power
power_of zero c h = (0, omega arith, (Decides-int_eq c (pos 1)).0 h)
power_of (suc n) c h = elim (or_cases (int_eq c (pos (2 ^ suc n))) (is_power n c) h) [
  | inl e ↦ (suc n, omega arith, (Decides-int_eq c (pos (2 ^ suc n))).0 e)
  | inr e ↦ (let p = power_of n c e in (p.0, omega (arith, p.1), p.2))
]

-- the lowest bits of a `uint` are what it leaves by a power of 2
pub mask-left : (x y : ℤ) (j : ℕ) → in_kind Uint x ≡ true → in_kind Uint y ≡ true → y +ℤ pos 1 ≡ pos (2 ^ j) → read_bits Uint (bit_and (bits_of x) (bits_of y)) ≡ int_rem x (y +ℤ pos 1)
mask-left (pos m) (pos n) j h i e =
    let a : m % 2 ^ 32 ≡ m = mod-eq_of_lt (ltb-true m (2 ^ 32) h) in
    let b : n % 2 ^ 32 ≡ n = mod-eq_of_lt (ltb-true n (2 ^ 32) i) in
    let p : n ≡ 2 ^ j - 1 = omega (arith, ints, e) in
    ap (λ z. pos (bit_and z (n % 2 ^ 32))) a ∙ ap (λ z. pos (bit_and m z)) (b ∙ p) ∙ ap pos (and_mask m j) ∙ ap (int_rem (pos m)) (sym e)
mask-left (pos m) (negsuc n) j h i e = cc
mask-left (negsuc m) y j h i e = cc

-- those of an `int` are what it leaves by a power of 2, rounded down
pub mask-floor : (x y : ℤ) (j : ℕ) → j ≤ 31 → in_kind Int x ≡ true → in_kind Int y ≡ true → y +ℤ pos 1 ≡ pos (2 ^ j) → read_bits Int (bit_and (bits_of x) (bits_of y)) ≡ int_rem_euclid x (pos (2 ^ j))
mask-floor x (negsuc n) j l h i e = absurd (let p = pow_pos j in omega (arith, ints, e, p))
mask-floor x (pos n) j l h i e =
    let t : n < 2 ^ 31 = ltb-true n (2 ^ 31) i in
    let b : n % 2 ^ 32 ≡ n = mod-eq_of_lt (omega (arith, t)) in
    let o : j + 0 ≡ j = omega arith in
    let p : n ≡ 2 ^ (j + 0) - 2 ^ 0 = let q = ap (λ (i : ℕ). 2 ^ i) o in omega (arith, ints, e, q) in
    let m = and_le_r (bits_of x) n in
    ap (λ z. read_bits Int (bit_and (bits_of x) z)) b ∙ read-low Int (bit_and (bits_of x) n) (omega (arith, m, t)) ∙ ap (λ z. pos (bit_and (bits_of x) z)) p
    ∙ run-bits Int x (32 - j) j 0 h (omega (arith, l)) ∙ ap (λ z. pos (2 ^ 0) *ℤ int_rem_euclid z (pos (2 ^ j))) (floor-one x) ∙ omega (arith, ints)

-- both of at least 0
pub and-plain : (k : Kind) (m n : ℕ) → in_kind k (pos m) ≡ true → in_kind k (pos n) ≡ true → read_bits k (bit_and (bits_of (pos m)) (bits_of (pos n))) ≡ pos (bit_and m n)
and-plain Int m n h i =
    let s : m < 2 ^ 31 = ltb-true m (2 ^ 31) h in
    let t : n < 2 ^ 31 = ltb-true n (2 ^ 31) i in
    let a : m % 2 ^ 32 ≡ m = mod-eq_of_lt (omega (arith, s)) in
    let b : n % 2 ^ 32 ≡ n = mod-eq_of_lt (omega (arith, t)) in
    let l = and_le_l m n in
    ap (λ z. read_bits Int (bit_and z (n % 2 ^ 32))) a ∙ ap (λ z. read_bits Int (bit_and m z)) b ∙ ap (λ q. cond q (pos (bit_and m n)) (pos (bit_and m n) -ℤ pos (2 ^ 32))) (lt-ltb (bit_and m n) (2 ^ 31) (omega (arith, l, s)))
and-plain Uint m n h i =
    let a : m % 2 ^ 32 ≡ m = mod-eq_of_lt (ltb-true m (2 ^ 32) h) in
    let b : n % 2 ^ 32 ≡ n = mod-eq_of_lt (ltb-true n (2 ^ 32) i) in
    ap (λ z. pos (bit_and z (n % 2 ^ 32))) a ∙ ap (λ z. pos (bit_and m z)) b
and-plain Size m n h i =
    let a : m % 2 ^ 32 ≡ m = mod-eq_of_lt (ltb-true m (2 ^ 32) h) in
    let b : n % 2 ^ 32 ≡ n = mod-eq_of_lt (ltb-true n (2 ^ 32) i) in
    ap (λ z. pos (bit_and z (n % 2 ^ 32))) a ∙ ap (λ z. pos (bit_and m z)) b

-- the complement of each bit
pub complement-bits : (a : ℤ) → bits_of (negsuc 0 -ℤ a) ≡ 2 ^ 32 - 1 - bits_of a
complement-bits (pos n) = let e : negsuc 0 -ℤ pos n ≡ negsuc n = omega (arith, ints) in ap bits_of e
complement-bits (negsuc n) = let e : negsuc 0 -ℤ negsuc n ≡ pos n = omega (arith, ints) in ap bits_of e ∙ omega arith

pub complement_uint-bits : (k : Kind) (a : ℤ) → in_kind k a ≡ true → bits_of (pos 4294967295 -ℤ a) ≡ 2 ^ 32 - 1 - bits_of a
complement_uint-bits Int (pos n) h = let l : n < 2 ^ 31 = ltb-true n (2 ^ 31) h in let e : pos 4294967295 -ℤ pos n ≡ pos (4294967295 - n) = omega (arith, ints, l) in ap bits_of e ∙ omega (arith, l)
complement_uint-bits Uint (pos n) h = let l : n < 2 ^ 32 = ltb-true n (2 ^ 32) h in let e : pos 4294967295 -ℤ pos n ≡ pos (4294967295 - n) = omega (arith, ints, l) in ap bits_of e ∙ omega (arith, l)
complement_uint-bits Size (pos n) h = let l : n < 2 ^ 32 = ltb-true n (2 ^ 32) h in let e : pos 4294967295 -ℤ pos n ≡ pos (4294967295 - n) = omega (arith, ints, l) in ap bits_of e ∙ omega (arith, l)
complement_uint-bits k (negsuc n) h = let e : pos 4294967295 -ℤ negsuc n ≡ pos (n + 4294967296) = omega (arith, ints) in ap bits_of e ∙ omega arith
