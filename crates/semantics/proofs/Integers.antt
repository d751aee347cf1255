-- Laws of products, sums and rounded quotients of whole numbers.
use Rattle.std.proofs.Common.{◌≡◌, ℕ, suc, ◌+◌, ◌*◌, ◌<◌, ◌≤◌, ◌/◌, arith, ap}
use Rattle.std.specs.Prelude.{ℤ, pos, negsuc, ◌+ℤ◌, ◌*ℤ◌, ◌≤ℤ◌}
use Rattle.std.specs.Int.{int_div_euclid}
use Rattle.std.proofs.lemmas.Int.{ints}
use Rattle.std.proofs.lemmas.Nat.{div_below, le-div}
use borrow.Author.Differences.{up, down, product_is, sum_is_lem}

pub mul_comm : (a b : ℤ) → a *ℤ b ≡ b *ℤ a
mul_comm a b = omega (arith, ints)

pub add-mul : (a b c : ℤ) → (a +ℤ b) *ℤ c ≡ a *ℤ c +ℤ b *ℤ c
add-mul a b c =
    let e : up (a +ℤ b) + down a + down b ≡ down (a +ℤ b) + up a + up b = sum_is_lem a b in
    let eu = ap (λ n. n * up c) e in
    let ed = ap (λ n. n * down c) e in
    omega (arith, ints, eu, ed)

pub mul-add : (a b c : ℤ) → a *ℤ (b +ℤ c) ≡ a *ℤ b +ℤ a *ℤ c
mul-add a b c =
    let e : up (b +ℤ c) + down b + down c ≡ down (b +ℤ c) + up b + up c = sum_is_lem b c in
    let eu = ap (λ n. up a * n) e in
    let ed = ap (λ n. down a * n) e in
    omega (arith, ints, eu, ed)

pub mul_assoc : (a b c : ℤ) → (a *ℤ b) *ℤ c ≡ a *ℤ (b *ℤ c)
mul_assoc a b c =
    let ab = product_is a b in
    let bc = product_is b c in
    let by = λ (k : ℕ) (m n : ℕ) (e : m ≡ n). ap (λ x. x * k) e in
    omega (arith, ints, by (up c) _ _ ab.0, by (down c) _ _ ab.1, by (up a) _ _ bc.0, by (down a) _ _ bc.1, by (down c) _ _ ab.0, by (up c) _ _ ab.1, by (down a) _ _ bc.0, by (up a) _ _ bc.1)

-- a fact times a weight
pub weighted : (k z : ℤ) → pos 0 ≤ℤ k → pos 0 ≤ℤ z → pos 0 ≤ℤ (k *ℤ z)
weighted (pos k) (pos z) hk hz = omega (arith, ints)
weighted (pos k) (negsuc z) hk hz = absurd (omega (arith, ints))
weighted (negsuc k) z hk hz = absurd (omega (arith, ints))

-- d * x + c ≥ 0 gives x + c / d ≥ 0 over whole numbers, the quotient rounded down
pub divided : (d : ℕ) (x c : ℤ) → 0 < d → pos 0 ≤ℤ (pos d *ℤ x +ℤ c) → pos 0 ≤ℤ (x +ℤ int_div_euclid c (pos d))
divided d (pos x) (pos c) hd h = omega (arith, ints)
divided d (pos x) (negsuc c) hd h =
    let p : suc c ≤ d * x = omega (arith, ints) in
    let q : c / d < x = div_below c d x hd (omega arith) in
    omega (arith, ints)
divided d (negsuc x) (pos c) hd h =
    let p : d * suc x ≤ c = omega (arith, ints) in
    let q : suc x ≤ c / d = le-div (suc x) c d hd (omega arith) in
    omega (arith, ints)
divided d (negsuc x) (negsuc c) hd h = absurd (omega (arith, ints))
