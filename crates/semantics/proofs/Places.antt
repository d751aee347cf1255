-- Items and groups go by their numbers: places and numbers correspond.
use Rattle.std.proofs.Common.{◌≡◌, ℕ, ◌+◌, ◌*◌, ◌/◌, ◌%◌, ◌<◌, sym, arith, ap, ◌∙◌}
use Rattle.std.proofs.Math.Nat.{div-div-eq-div-mul}
use Rattle.std.proofs.lemmas.Nat.{mul-add-lt}
use Rattle.semantics.specs.Launch.{Three, product}
use Rattle.semantics.specs.Setup.{place, number_of, IsPlace}
use Rattle.semantics.proofs.Groups.{factor-pos, quotient-below}

regroup : (a b c : ℕ) → a * b * c ≡ b * c * a
regroup a b c = grind arith

whole : (n a : ℕ) → 0 < a → n % a + a * (n / a) ≡ n
whole n a h = omega arith

below : (n a : ℕ) → 0 < a → n % a < a
below n a h = omega arith

-- the digits of a number in a mixed radix
digits : (n a b c : ℕ) → n < a * b * c → (n % a < a) × (n / a % b < b) × (n / (a * b) < c) × (n % a + a * (n / a % b + b * (n / (a * b))) ≡ n)
digits n a b c h =
    let h' : n < b * c * a = omega (arith, regroup a b c, h) in
    let a0 : 0 < a = factor-pos n (b * c) a h' in
    let m : n / a < b * c = quotient-below n (b * c) a h' in
    let m' : n / a < c * b = grind arith in
    let b0 : 0 < b = factor-pos (n / a) c b m' in
    let q : n / a / b ≡ n / (a * b) = div-div-eq-div-mul n a b in
    let k : n / a / b < c = quotient-below (n / a) c b m' in
    let e : n / a % b + b * (n / (a * b)) ≡ n / a = ap (λ x. n / a % b + b * x) (sym q) ∙ whole (n / a) b b0 in
    (below n a a0, below (n / a) b b0, omega (arith, q, k), ap (λ x. n % a + a * x) e ∙ whole n a a0)

pub place-is : (t : Three ℕ) (n : ℕ) → n < product t → IsPlace t (place t n) × (number_of t (place t n) ≡ n)
place-is t n h = let d = digits n t.x t.y t.z h in ((d.0, d.1, d.2), d.3)

first : (x a w : ℕ) → x < a → ((x + a * w) % a ≡ x) × ((x + a * w) / a ≡ w)
first x a w h = (grind arith, grind arith)

undigits : (x y z a b c : ℕ) → x < a → y < b → z < c → (x + a * (y + b * z) < a * b * c) × ((x + a * (y + b * z)) % a ≡ x) × ((x + a * (y + b * z)) / a % b ≡ y) × ((x + a * (y + b * z)) / (a * b) ≡ z)
undigits x y z a b c hx hy hz =
    let low = first x a (y + b * z) hx in
    let mid = first y b z hy in
    let m : z * b + y < b * c = mul-add-lt z b y c hz hy in
    let m' : y + b * z < b * c = grind arith in
    let n : (y + b * z) * a + x < a * (b * c) = mul-add-lt (y + b * z) a x (b * c) m' hx in
    let n' : x + a * (y + b * z) < a * b * c = grind arith in
    (n', low.0, ap (λ w. w % b) low.1 ∙ mid.0, sym (div-div-eq-div-mul (x + a * (y + b * z)) a b) ∙ ap (λ w. w / b) low.1 ∙ mid.1)

pub number-is : (t p : Three ℕ) → IsPlace t p → (number_of t p < product t) × (place t (number_of t p) ≡ p)
number-is t p h =
    let d = undigits p.x p.y p.z t.x t.y t.z h.0 h.1 h.2 in
    (d.0, λ i. record { x = d.1 i; y = d.2 i; z = d.3 i })
