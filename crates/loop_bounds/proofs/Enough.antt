-- A loop's test is true no more often than its turns, where each turn makes the form fall, or grow, as its bound says.
use Rattle.std.proofs.Common.{◌≡◌, ℕ, suc, ◌+◌, ◌*◌, ◌/◌, ◌^◌, ◌<◌, ◌≤◌, true, List, [], ◌∷◌, length, arith, inl, inr}
use Rattle.std.specs.Prelude.{ℤ, pos, negsuc, ◌+ℤ◌, ◌<ℤ◌, ◌≤ℤ◌}
use Rattle.std.specs.Int.{div_ceil}
use Rattle.std.proofs.lemmas.Bool.{cases_lt}
use Rattle.std.proofs.lemmas.Bool.Decides.{nat_tests}
use Rattle.std.proofs.lemmas.Int.{ints}
use Rattle.std.proofs.lemmas.Nat.{leading_top, le-div, mul-le}
use Rattle.std.proofs.lemmas.Grind.{div_ceil_times}
use Rattle.std.proofs.Math.Nat.{lt_of_mul-lt-mul_right, add-mul, pow-le-pow_right, pow-suc, div-le_self, div-mul-le_self, mul-add}
use Rattle.linear.specs.Exact.{fits_i64}
use Rattle.loop_bounds.specs.declared.bound.Bound.{Bound}
use Rattle.loop_bounds.specs.declared.bound.Bound.TheVariants as bounds
use Rattle.loop_bounds.specs.Turns.{above, digits, turns}
use Rattle.loop_bounds.specs.Falling.{most, Opens, Holds, Falls, Runs}

pub ceil_falls : (m n s : ℕ) → 0 < s → n + s ≤ m → div_ceil n s < div_ceil m s
ceil_falls m n s p h = lt_of_mul-lt-mul_right s (omega (arith, div_ceil_times n s p, div_ceil_times m s p))

pub ceil_grows : (m n s : ℕ) → 0 < s → m ≤ n → div_ceil m s ≤ div_ceil n s
ceil_grows m n s p h =
    let k : div_ceil m s < div_ceil n s + 1 = lt_of_mul-lt-mul_right s (omega (arith, div_ceil_times n s p, div_ceil_times m s p, add-mul (div_ceil n s) 1 s)) in
    omega (arith, k)

pub ceil_some : (n s : ℕ) → 0 < s → 0 < n → 0 < div_ceil n s
ceil_some n s p h = lt_of_mul-lt-mul_right s (omega (arith, div_ceil_times n s p))

exponent : (a b : ℕ) → 2 ^ a < 2 ^ b → a < b
exponent a b h = elim (cases_lt a b) [ inl p ↦ p | inr p ↦ absurd (omega (arith, h, pow-le-pow_right {n = 2} (omega arith) p)) ]

-- one digit more than the exponent of the greatest power that is no more than the number
digits_are : (n : ℕ) → 0 < n → n < 2 ^ 64 → (j : ℕ) × (digits n ≡ suc j) × (2 ^ j ≤ n) × (n < 2 ^ suc j)
digits_are n p h =
    let t = leading_top 64 n p h in
    (t.0, omega (arith, t.1), t.2, t.3)

pub digits_fall : (m n : ℕ) → 0 < n → n + n ≤ m → m < 2 ^ 64 → digits n < digits m
digits_fall m n p h k =
    let a = digits_are n p (omega (arith, h, k)) in
    let b = digits_are m (omega (arith, p, h)) k in
    let e : suc a.0 < suc b.0 = exponent (suc a.0) (suc b.0) (omega (arith, pow-suc 2 a.0, a.2, h, b.3)) in
    omega (arith, a.1, b.1, e)

pub digits_grow : (m n : ℕ) → 0 < m → m ≤ n → n < 2 ^ 64 → digits m ≤ digits n
digits_grow m n p h k =
    let a = digits_are m p (omega (arith, h, k)) in
    let b = digits_are n (omega (arith, p, h)) k in
    let e : a.0 < suc b.0 = exponent a.0 (suc b.0) (omega (arith, a.2, h, b.3)) in
    omega (arith, a.1, b.1, e)

pub digits_some : (n : ℕ) → 0 < n → n < 2 ^ 64 → 0 < digits n
digits_some n p h = omega (arith, (digits_are n p h).1)

-- into a number that is at least double the most goes at most half as often
pub quotient_halves : (k m n : ℕ) → 0 < m → m + m ≤ n → k / n + k / n ≤ k / m
quotient_halves k m n p h =
    let q = k / n in
    let t : (q + q) * m ≤ k = omega (arith, add-mul q q m, mul-add q m m, mul-le q (m + m) q n (omega arith) h, div-mul-le_self k n) in
    le-div (q + q) k m p t

-- the greater the divisor, the less
pub quotient_grows : (k m n : ℕ) → 0 < m → m ≤ n → k / n ≤ k / m
quotient_grows k m n p h = le-div (k / n) k m p (omega (arith, mul-le (k / n) m (k / n) n (omega arith) h, div-mul-le_self k n))

pub quotient_some : (k n : ℕ) → 0 < n → n ≤ k → 0 < k / n
quotient_some k n p h = le-div 1 k n p (omega (arith, h))

pub quotient_below : (k n m : ℕ) → k < m → k / n < m
quotient_below k n m h = omega (arith, h, div-le_self k n)

at_least_1 : (x : ℤ) → pos 0 <ℤ x → pos 1 ≤ℤ x
at_least_1 x h = omega (arith, ints, h)

-- a number above 0, as a natural number
pub some_above : (z : ℤ) → pos 1 ≤ℤ z → 0 < above z
some_above (pos n) h = omega (arith, ints, h)
some_above (negsuc n) h = absurd (omega (arith, ints, h))

pub above_grows : (y z : ℤ) → pos 1 ≤ℤ y → y ≤ℤ z → above y ≤ above z
above_grows (pos m) (pos n) h k = omega (arith, ints, k)
above_grows (pos m) (negsuc n) h k = absurd (omega (arith, ints, k))
above_grows (negsuc m) z h k = absurd (omega (arith, ints, h))

pub above_falls : (step : ℕ) (y z : ℤ) → pos 1 ≤ℤ y → pos 1 ≤ℤ z → (z +ℤ pos step) ≤ℤ y → above z + step ≤ above y
above_falls step (pos m) (pos n) g h f = omega (arith, ints, f)
above_falls step (pos m) (negsuc n) g h f = absurd (omega (arith, ints, h))
above_falls step (negsuc m) z g h f = absurd (omega (arith, ints, g))

pub above_halves : (y z : ℤ) → pos 1 ≤ℤ y → pos 1 ≤ℤ z → (z +ℤ z) ≤ℤ y → above z + above z ≤ above y
above_halves (pos m) (pos n) g h f = omega (arith, ints, f)
above_halves (pos m) (negsuc n) g h f = absurd (omega (arith, ints, h))
above_halves (negsuc m) z g h f = absurd (omega (arith, ints, g))

-- how often the test is true at most where the form can be doubled from this number up to the most
pub doubled_some : (y m : ℤ) → pos 1 ≤ℤ y → y ≤ℤ m → above m < 2 ^ 64 → 0 < digits (above m / above y)
doubled_some y m p h k = digits_some (above m / above y) (quotient_some (above m) (above y) (some_above y p) (above_grows y m p h)) (quotient_below (above m) (above y) (2 ^ 64) k)

pub doubled_grows : (y z m : ℤ) → pos 1 ≤ℤ y → y ≤ℤ z → z ≤ℤ m → above m < 2 ^ 64 → digits (above m / above z) ≤ digits (above m / above y)
doubled_grows y z m p h g k =
    let q : pos 1 ≤ℤ z = omega (arith, ints, p, h) in
    digits_grow (above m / above z) (above m / above y) (quotient_some (above m) (above z) (some_above z q) (above_grows z m q g))
    (quotient_grows (above m) (above y) (above z) (some_above y p) (above_grows y z p h)) (quotient_below (above m) (above y) (2 ^ 64) k)

pub doubled_falls : (y z m : ℤ) → pos 1 ≤ℤ y → (y +ℤ y) ≤ℤ z → z ≤ℤ m → above m < 2 ^ 64 → digits (above m / above z) < digits (above m / above y)
doubled_falls y z m p h g k =
    let q : pos 1 ≤ℤ z = omega (arith, ints, p, h) in
    digits_fall (above m / above y) (above m / above z) (quotient_some (above m) (above z) (some_above z q) (above_grows z m q g))
    (quotient_halves (above m) (above y) (above z) (some_above y p) (above_halves z y q p h)) (quotient_below (above m) (above y) (2 ^ 64) k)

small : (m : ℤ) → fits_i64 m ≡ true → above m < 2 ^ 64
small (pos n) h = grind (arith, nat_tests)
small (negsuc n) h = omega arith

-- the turns that are left at a true test where the form has this value, with that one
abbrev left : Bound → ℤ → ℕ
left (bounds.Down form step m) x = div_ceil (above x) step.size
left (bounds.Halving form m) x = digits (above x)
left (bounds.Doubling form least m) x = digits (above m / above x)

-- a value at a true test, where the bound was kept up to there
record IsWithin (b : Bound) (x : ℤ) : Type 0 where
  opens : Opens b x
  holds : Holds b x

left_some : (b : Bound) (x : ℤ) → fits_i64 (most b) ≡ true → IsWithin b x → 0 < left b x
left_some (bounds.Down form step m) x f h = let p = at_least_1 x h.holds in ceil_some (above x) step.size step.falls (some_above x p)
left_some (bounds.Halving form m) x f h = let p = at_least_1 x h.holds in digits_some (above x) (some_above x p) (omega (arith, above_grows x m p h.opens, small m f))
left_some (bounds.Doubling form least m) x f h = doubled_some x m (omega (arith, ints, least.grows, h.opens)) h.holds (small m f)

left_grows : (b : Bound) (x : ℤ) → fits_i64 (most b) ≡ true → IsWithin b x → left b x ≤ turns b
left_grows (bounds.Down form step m) x f h = ceil_grows (above x) (above m) step.size step.falls (above_grows x m (at_least_1 x h.holds) h.opens)
left_grows (bounds.Halving form m) x f h = let p = at_least_1 x h.holds in digits_grow (above x) (above m) (some_above x p) (above_grows x m p h.opens) (small m f)
left_grows (bounds.Doubling form least m) x f h = doubled_grows least.number x m (at_least_1 least.number least.grows) h.opens h.holds (small m f)

left_falls : (b : Bound) (x y : ℤ) → fits_i64 (most b) ≡ true → IsWithin b x → Holds b y → Falls b x y → left b y < left b x
left_falls (bounds.Down form step m) x y f h p g = ceil_falls (above x) (above y) step.size step.falls (above_falls step.size x y (at_least_1 x h.holds) (at_least_1 y p) g)
left_falls (bounds.Halving form m) x y f h p g =
    let q = at_least_1 x h.holds in
    let r = at_least_1 y p in
    digits_fall (above x) (above y) (some_above y r) (above_halves x y q r g) (omega (arith, above_grows x m q h.opens, small m f))
left_falls (bounds.Doubling form least m) x y f h p g = doubled_falls x y m (omega (arith, ints, least.grows, h.opens)) g p (small m f)

-- a turn keeps it
stays : (b : Bound) (x y : ℤ) → IsWithin b x → Holds b y → Falls b x y → IsWithin b y
stays (bounds.Down form step m) x y h p g = record { opens = omega (arith, ints, g, h.opens); holds = p }
stays (bounds.Halving form m) x y h p g = record { opens = omega (arith, ints, g, h.opens, p); holds = p }
stays (bounds.Doubling form least m) x y h p g = record { opens = omega (arith, ints, g, h.opens, least.grows); holds = p }

holds_first : (b : Bound) (x : ℤ) (xs : List ℤ) → Runs b x xs → Holds b x
holds_first b x [] r = r
holds_first b x (y ∷ ys) r = r.0

runs_left : (b : Bound) (x : ℤ) (xs : List ℤ) → fits_i64 (most b) ≡ true → IsWithin b x → Runs b x xs → suc (length xs) ≤ left b x
runs_left b x [] f h r = omega (arith, left_some b x f h)
runs_left b x (y ∷ ys) f h r =
    let p = holds_first b y ys r.2 in
    omega (arith, runs_left b y ys f (stays b x y h p r.1) r.2, left_falls b x y f h p r.1)

pub enough : (b : Bound) (x : ℤ) (xs : List ℤ) → fits_i64 (most b) ≡ true → Opens b x → Runs b x xs → length (x ∷ xs) ≤ turns b
enough b x xs f o r =
    let h : IsWithin b x = record { opens = o; holds = holds_first b x xs r } in
    omega (arith, runs_left b x xs f h r, left_grows b x f h)
