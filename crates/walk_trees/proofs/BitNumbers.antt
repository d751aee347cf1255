-- Bits of numbers of a kind, by quotients that are rounded down.
use Rattle.std.proofs.Common.{◌≡◌, ℕ, suc, ◌+◌, ◌-◌, ◌*◌, ◌/◌, ◌%◌, ◌^◌, ◌<◌, ◌≤◌, Bool, true, false, cond, nat_lt, arith, refl, sym, ap, ◌∙◌, ltb-true, lt-ltb, mod-eq_of_lt}
use Rattle.std.specs.Prelude.{ℤ, pos, negsuc, ◌+ℤ◌, ◌-ℤ◌, ◌*ℤ◌, ◌≤ℤ◌, bit_and, bit_or, bit_xor}
use Rattle.std.specs.Int.{int_div_euclid, int_rem_euclid}
use Rattle.std.proofs.lemmas.Int.{ints}
use Rattle.std.proofs.lemmas.Nat.{and_le_l, and_comm, or_lt, xor_lt, pow_pos, pow-add, div-mul-add, mod-mul-add, div_below, mod_below}
use Rattle.std.proofs.lemmas.Nat.Bits.{and_high, and_high_mask}
use Rattle.std.proofs.Math.Nat.{div-le_self, div-one, mod-add-div'}
use Rattle.semantics.specs.Word.{Kind, Int, Uint, Size, in_kind, bits_of, read_bits}

-- a quotient that is rounded down, and what it leaves
pub floor-is : (x : ℤ) (d : ℕ) → 0 < d → int_rem_euclid x (pos d) +ℤ pos d *ℤ int_div_euclid x (pos d) ≡ x
floor-is (pos n) d h = let e = mod-add-div' n d in omega (arith, ints, e)
floor-is (negsuc n) d h = let e = mod-add-div' n d in let l = mod_below n d h in omega (arith, ints, e, l)

pub floor-low : (x : ℤ) (d : ℕ) → pos 0 ≤ℤ int_rem_euclid x (pos d)
floor-low (pos n) d = omega (arith, ints)
floor-low (negsuc n) d = omega (arith, ints)

pub floor-high : (x : ℤ) (d : ℕ) → 0 < d → pos 0 ≤ℤ ((pos d -ℤ pos 1) -ℤ int_rem_euclid x (pos d))
floor-high (pos n) d h = let l = mod_below n d h in omega (arith, ints, l)
floor-high (negsuc n) d h = let l = mod_below n d h in omega (arith, ints, l)

pub floor-in : (k : Kind) (x : ℤ) (d : ℕ) → in_kind k x ≡ true → in_kind k (int_div_euclid x (pos d)) ≡ true
floor-in Int (pos n) d h = let l = ltb-true n (2 ^ 31) h in let m = div-le_self n d in lt-ltb (n / d) (2 ^ 31) (omega (arith, l, m))
floor-in Int (negsuc n) d h = let l = ltb-true n (2 ^ 31) h in let m = div-le_self n d in lt-ltb (n / d) (2 ^ 31) (omega (arith, l, m))
floor-in Uint (pos n) d h = let l = ltb-true n (2 ^ 32) h in let m = div-le_self n d in lt-ltb (n / d) (2 ^ 32) (omega (arith, l, m))
floor-in Uint (negsuc n) d h = cc
floor-in Size (pos n) d h = let l = ltb-true n (2 ^ 32) h in let m = div-le_self n d in lt-ltb (n / d) (2 ^ 32) (omega (arith, l, m))
floor-in Size (negsuc n) d h = cc

pub floor-one : (x : ℤ) → int_div_euclid x (pos 1) ≡ x
floor-one (pos n) = ap pos (div-one n)
floor-one (negsuc n) = ap negsuc (div-one n)

-- the complement's quotient, and what it leaves
complement-split : (p w m : ℕ) → 0 < w → m < p * w → p * w - 1 - m ≡ (p - 1 - m / w) * w + (w - 1 - m % w)
complement-split p w m z h =
    let q = m / w in
    let e = p - 1 - q in
    let l = div_below m w p z h in
    let s : p ≡ q + 1 + e = omega (arith, l) in
    let t : p * w ≡ q * w + w + e * w = ap (λ n. n * w) s ∙ omega arith in
    let d = mod-add-div' m w in
    let b = mod_below m w z in
    omega (arith, t, d, b)

complement-quotient : (p w m : ℕ) → 0 < w → m < p * w → (p * w - 1 - m) / w ≡ p - 1 - m / w
complement-quotient p w m z h = ap (λ n. n / w) (complement-split p w m z h) ∙ div-mul-add (p - 1 - m / w) w (w - 1 - m % w) (omega (arith, z))

complement-left : (p w m : ℕ) → 0 < w → m < p * w → (p * w - 1 - m) % w ≡ w - 1 - m % w
complement-left p w m z h = ap (λ n. n % w) (complement-split p w m z h) ∙ mod-mul-add (p - 1 - m / w) w (w - 1 - m % w) (omega (arith, z))

-- 32 bits above a place
whole : (i b : ℕ) → i + b ≡ 32 → 2 ^ 32 ≡ 2 ^ i * 2 ^ b
whole i b e = ap (λ n. 2 ^ n) (sym e) ∙ pow-add 2 i b

above : (i b n : ℕ) → i + b ≡ 32 → n < 2 ^ 32 → (2 ^ 32 - 1 - n) / 2 ^ b ≡ 2 ^ i - 1 - n / 2 ^ b
above i b n e h = let w = whole i b e in ap (λ m. (m - 1 - n) / 2 ^ b) w ∙ complement-quotient (2 ^ i) (2 ^ b) n (pow_pos b) (omega (arith, w, h))

-- bits in a run
run : (n j b : ℕ) → pos (bit_and n (2 ^ (j + b) - 2 ^ b)) ≡ pos (2 ^ b) *ℤ pos (n / 2 ^ b % 2 ^ j)
run n j b = let e = and_high n j b in omega (arith, ints, e)

pub run-bits : (k : Kind) (x : ℤ) (i j b : ℕ) → in_kind k x ≡ true → i + (j + b) ≡ 32 → pos (bit_and (bits_of x) (2 ^ (j + b) - 2 ^ b)) ≡ pos (2 ^ b) *ℤ int_rem_euclid (int_div_euclid x (pos (2 ^ b))) (pos (2 ^ j))
run-bits Int (pos n) i j b h e = let l = ltb-true n (2 ^ 31) h in let s : n % 2 ^ 32 ≡ n = mod-eq_of_lt (omega (arith, l)) in ap (λ m. pos (bit_and m (2 ^ (j + b) - 2 ^ b))) s ∙ run n j b
run-bits Uint (pos n) i j b h e = let s : n % 2 ^ 32 ≡ n = mod-eq_of_lt (ltb-true n (2 ^ 32) h) in ap (λ m. pos (bit_and m (2 ^ (j + b) - 2 ^ b))) s ∙ run n j b
run-bits Uint (negsuc n) i j b h e = cc
run-bits Size (pos n) i j b h e = let s : n % 2 ^ 32 ≡ n = mod-eq_of_lt (ltb-true n (2 ^ 32) h) in ap (λ m. pos (bit_and m (2 ^ (j + b) - 2 ^ b))) s ∙ run n j b
run-bits Size (negsuc n) i j b h e = cc
run-bits Int (negsuc n) i j b h e =
    let l = ltb-true n (2 ^ 31) h in
    let m : n < 2 ^ 32 = omega (arith, l) in
    let s : n % 2 ^ 32 ≡ n = mod-eq_of_lt m in
    let w = whole (i + j) b (omega (arith, e)) in
    let q = n / 2 ^ b in
    let a : (2 ^ 32 - 1 - n) / 2 ^ b ≡ 2 ^ (i + j) - 1 - q = above (i + j) b n (omega (arith, e)) m in
    let f : 2 ^ (i + j) ≡ 2 ^ i * 2 ^ j = pow-add 2 i j in
    let r : q < 2 ^ (i + j) = div_below n (2 ^ b) (2 ^ (i + j)) (pow_pos b) (omega (arith, w, m)) in
    let c : (2 ^ (i + j) - 1 - q) % 2 ^ j ≡ 2 ^ j - 1 - q % 2 ^ j = ap (λ p. (p - 1 - q) % 2 ^ j) f ∙ complement-left (2 ^ i) (2 ^ j) q (pow_pos j) (omega (arith, f, r)) in
    ap (λ m. pos (bit_and (2 ^ 32 - 1 - m) (2 ^ (j + b) - 2 ^ b))) s ∙ run (2 ^ 32 - 1 - n) j b ∙ ap (λ p. pos (2 ^ b) *ℤ pos (p % 2 ^ j)) a ∙ ap (λ p. pos (2 ^ b) *ℤ pos p) c

-- 31 bits or fewer are read as themselves
pub read-low : (k : Kind) (n : ℕ) → n < 2 ^ 31 → read_bits k n ≡ pos n
read-low Int n h = ap (λ b. cond b (pos n) (pos n -ℤ pos (2 ^ 32))) (lt-ltb n (2 ^ 31) h)
read-low Uint n h = refl
read-low Size n h = refl

read-high : (n : ℕ) → 2 ^ 31 ≤ n → read_bits Int n ≡ pos n -ℤ pos (2 ^ 32)
read-high n h = by (nat_lt n (2 ^ 31)) refl
  where
    by : (b : Bool) → nat_lt n (2 ^ 31) ≡ b → cond b (pos n) (pos n -ℤ pos (2 ^ 32)) ≡ pos n -ℤ pos (2 ^ 32)
    by true e = absurd (let l = ltb-true n (2 ^ 31) e in omega (arith, l, h))
    by false e = refl

-- all bits from a place on
pub upper-bits : (k : Kind) (x : ℤ) (i b : ℕ) → in_kind k x ≡ true → i + b ≡ 31 → read_bits k (bit_and (bits_of x) (2 ^ 32 - 2 ^ b)) ≡ pos (2 ^ b) *ℤ int_div_euclid x (pos (2 ^ b))
upper-bits Int (pos n) i b h e =
    let l = ltb-true n (2 ^ 31) h in
    let s : n % 2 ^ 32 ≡ n = mod-eq_of_lt (omega (arith, l)) in
    let m : bit_and n (2 ^ 32 - 2 ^ b) ≡ n / 2 ^ b * 2 ^ b = and_high_mask 32 b (omega (arith, e)) n (omega (arith, l)) in
    let d = mod-add-div' n (2 ^ b) in
    ap (λ z. read_bits Int (bit_and z (2 ^ 32 - 2 ^ b))) s ∙ ap (read_bits Int) m ∙ read-low Int (n / 2 ^ b * 2 ^ b) (omega (arith, d, l)) ∙ omega (arith, ints)
upper-bits Uint (pos n) i b h e =
    let l = ltb-true n (2 ^ 32) h in
    let s : n % 2 ^ 32 ≡ n = mod-eq_of_lt l in
    let m : bit_and n (2 ^ 32 - 2 ^ b) ≡ n / 2 ^ b * 2 ^ b = and_high_mask 32 b (omega (arith, e)) n l in
    ap (λ z. pos (bit_and z (2 ^ 32 - 2 ^ b))) s ∙ ap pos m ∙ omega (arith, ints)
upper-bits Uint (negsuc n) i b h e = cc
upper-bits Size (pos n) i b h e =
    let l = ltb-true n (2 ^ 32) h in
    let s : n % 2 ^ 32 ≡ n = mod-eq_of_lt l in
    let m : bit_and n (2 ^ 32 - 2 ^ b) ≡ n / 2 ^ b * 2 ^ b = and_high_mask 32 b (omega (arith, e)) n l in
    ap (λ z. pos (bit_and z (2 ^ 32 - 2 ^ b))) s ∙ ap pos m ∙ omega (arith, ints)
upper-bits Size (negsuc n) i b h e = cc
upper-bits Int (negsuc n) i b h e =
    let l = ltb-true n (2 ^ 31) h in
    let o : n < 2 ^ 32 = omega (arith, l) in
    let s : n % 2 ^ 32 ≡ n = mod-eq_of_lt o in
    let q = n / 2 ^ b in
    let w = whole (suc i) b (omega (arith, e)) in
    let v : 2 ^ 31 ≡ 2 ^ i * 2 ^ b = ap (λ n. 2 ^ n) (sym e) ∙ pow-add 2 i b in
    let a : (2 ^ 32 - 1 - n) / 2 ^ b ≡ 2 ^ suc i - 1 - q = above (suc i) b n (omega (arith, e)) o in
    let m : bit_and (2 ^ 32 - 1 - n) (2 ^ 32 - 2 ^ b) ≡ (2 ^ 32 - 1 - n) / 2 ^ b * 2 ^ b = and_high_mask 32 b (omega (arith, e)) (2 ^ 32 - 1 - n) (omega arith) in
    let r : q < 2 ^ i = div_below n (2 ^ b) (2 ^ i) (pow_pos b) (omega (arith, v, l)) in
    let t = 2 ^ i - 1 - q in
    let u : 2 ^ i ≡ q + 1 + t = omega (arith, r) in
    let f : 2 ^ 31 ≡ q * 2 ^ b + 2 ^ b + t * 2 ^ b = v ∙ ap (λ p. p * 2 ^ b) u ∙ omega arith in
    let g : 2 ^ suc i - 1 - q ≡ 2 ^ i + t = omega (arith, u) in
    let j : (2 ^ suc i - 1 - q) * 2 ^ b ≡ 2 ^ 31 + t * 2 ^ b = ap (λ p. p * 2 ^ b) g ∙ omega (arith, v) in
    ap (λ z. read_bits Int (bit_and (2 ^ 32 - 1 - z) (2 ^ 32 - 2 ^ b))) s ∙ ap (read_bits Int) (m ∙ ap (λ p. p * 2 ^ b) a ∙ j) ∙ read-high (2 ^ 31 + t * 2 ^ b) (omega arith) ∙ omega (arith, ints, f)

-- of a number that is not negative fewer bits or as many are left
pub met-low : (k : Kind) (n : ℕ) (y : ℤ) → in_kind k (pos n) ≡ true → read_bits k (bit_and (bits_of (pos n)) (bits_of y)) ≡ pos (bit_and n (bits_of y))
met-low Int n y h =
    let l = ltb-true n (2 ^ 31) h in
    let s : n % 2 ^ 32 ≡ n = mod-eq_of_lt (omega (arith, l)) in
    let m = and_le_l n (bits_of y) in
    ap (λ z. read_bits Int (bit_and z (bits_of y))) s ∙ read-low Int (bit_and n (bits_of y)) (omega (arith, l, m))
met-low Uint n y h = let s : n % 2 ^ 32 ≡ n = mod-eq_of_lt (ltb-true n (2 ^ 32) h) in ap (λ z. pos (bit_and z (bits_of y))) s
met-low Size n y h = let s : n % 2 ^ 32 ≡ n = mod-eq_of_lt (ltb-true n (2 ^ 32) h) in ap (λ z. pos (bit_and z (bits_of y))) s

pub met-below : (k : Kind) (x y : ℤ) → in_kind k x ≡ true → pos 0 ≤ℤ x → (pos 0 ≤ℤ read_bits k (bit_and (bits_of x) (bits_of y))) × (read_bits k (bit_and (bits_of x) (bits_of y)) ≤ℤ x)
met-below k (pos n) y h l = let e = met-low k n y h in let m = and_le_l n (bits_of y) in (omega (arith, ints, e), omega (arith, ints, e, m))
met-below k (negsuc n) y h l = absurd (omega (arith, ints, l))

pub met-turned : (k : Kind) (x y : ℤ) → read_bits k (bit_and (bits_of x) (bits_of y)) ≡ read_bits k (bit_and (bits_of y) (bits_of x))
met-turned k x y = ap (read_bits k) (and_comm (bits_of x) (bits_of y))

-- two numbers that are not negative
pub or-plain : (k : Kind) (m n : ℕ) → in_kind k (pos m) ≡ true → in_kind k (pos n) ≡ true → read_bits k (bit_or (bits_of (pos m)) (bits_of (pos n))) ≡ pos (bit_or m n)
or-plain Int m n h i =
    let s : m < 2 ^ 31 = ltb-true m (2 ^ 31) h in
    let t : n < 2 ^ 31 = ltb-true n (2 ^ 31) i in
    let a : m % 2 ^ 32 ≡ m = mod-eq_of_lt (omega (arith, s)) in
    let b : n % 2 ^ 32 ≡ n = mod-eq_of_lt (omega (arith, t)) in
    ap (λ z. read_bits Int (bit_or z (n % 2 ^ 32))) a ∙ ap (λ z. read_bits Int (bit_or m z)) b ∙ read-low Int (bit_or m n) (or_lt 31 m n s t)
or-plain Uint m n h i =
    let a : m % 2 ^ 32 ≡ m = mod-eq_of_lt (ltb-true m (2 ^ 32) h) in
    let b : n % 2 ^ 32 ≡ n = mod-eq_of_lt (ltb-true n (2 ^ 32) i) in
    ap (λ z. pos (bit_or z (n % 2 ^ 32))) a ∙ ap (λ z. pos (bit_or m z)) b
or-plain Size m n h i =
    let a : m % 2 ^ 32 ≡ m = mod-eq_of_lt (ltb-true m (2 ^ 32) h) in
    let b : n % 2 ^ 32 ≡ n = mod-eq_of_lt (ltb-true n (2 ^ 32) i) in
    ap (λ z. pos (bit_or z (n % 2 ^ 32))) a ∙ ap (λ z. pos (bit_or m z)) b

pub xor-plain : (k : Kind) (m n : ℕ) → in_kind k (pos m) ≡ true → in_kind k (pos n) ≡ true → read_bits k (bit_xor (bits_of (pos m)) (bits_of (pos n))) ≡ pos (bit_xor m n)
xor-plain Int m n h i =
    let s : m < 2 ^ 31 = ltb-true m (2 ^ 31) h in
    let t : n < 2 ^ 31 = ltb-true n (2 ^ 31) i in
    let a : m % 2 ^ 32 ≡ m = mod-eq_of_lt (omega (arith, s)) in
    let b : n % 2 ^ 32 ≡ n = mod-eq_of_lt (omega (arith, t)) in
    ap (λ z. read_bits Int (bit_xor z (n % 2 ^ 32))) a ∙ ap (λ z. read_bits Int (bit_xor m z)) b ∙ read-low Int (bit_xor m n) (xor_lt 31 m n s t)
xor-plain Uint m n h i =
    let a : m % 2 ^ 32 ≡ m = mod-eq_of_lt (ltb-true m (2 ^ 32) h) in
    let b : n % 2 ^ 32 ≡ n = mod-eq_of_lt (ltb-true n (2 ^ 32) i) in
    ap (λ z. pos (bit_xor z (n % 2 ^ 32))) a ∙ ap (λ z. pos (bit_xor m z)) b
xor-plain Size m n h i =
    let a : m % 2 ^ 32 ≡ m = mod-eq_of_lt (ltb-true m (2 ^ 32) h) in
    let b : n % 2 ^ 32 ≡ n = mod-eq_of_lt (ltb-true n (2 ^ 32) i) in
    ap (λ z. pos (bit_xor z (n % 2 ^ 32))) a ∙ ap (λ z. pos (bit_xor m z)) b
