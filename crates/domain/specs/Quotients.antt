-- The corners of two intervals are the ends of their quotients; remainders.
use Rattle.std.proofs.Common.{◌≡◌, ℕ, zero, suc, true, false, Option, Some, None, arith, ◌+◌, ◌*◌, ◌/◌, ◌^◌, ◌≤◌, refl, subst, ◌∙◌}
use Rattle.std.specs.Prelude.{ℤ, pos, negsuc, ◌≤ℤ◌, ◌+ℤ◌, neg_ℤ}
use Rattle.std.specs.Int.{int_min, int_max}
use Rattle.std.specs.Int.RustNames.{int_le, int_div}
use Rattle.std.specs.Option.{unwrap_or}
use Rattle.std.proofs.lemmas.Bool.{cond_both, cond-true, cond-false}
use Rattle.std.proofs.lemmas.Int.{ints, clamps}
use Rattle.std.proofs.lemmas.Nat.{le-div}
use Rattle.std.proofs.Math.Nat.{div-mul-le_self, mul-le-mul_left}
use Rattle.domain.specs.declared.Bounds.{Bounds}
use Rattle.domain.specs.Ends.{least, greatest, far_dividend, far_divisor, is_member, first_divisor, last_divisor, quotients, divide, is_zero, all, low_of, high_of}
use Rattle.domain.specs.IntervalMembers.{Low, High, member, in_span, yes-le}
use Rattle.domain.specs.Products.{least_of, greatest_of}

-- quotients of natural numbers: a larger dividend, a smaller divisor
up-quotient : (m n k : ℕ) → m ≤ n → m / suc k ≤ n / suc k
up-quotient m n k h = le-div (m / suc k) n (suc k) (omega arith) (omega (arith, div-mul-le_self m (suc k)))

down-quotient : (m k j : ℕ) → k ≤ j → m / suc j ≤ m / suc k
down-quotient m k j h = le-div (m / suc j) m (suc k) (omega arith)
    (omega (arith, div-mul-le_self m (suc j), mul-le-mul_left {m = suc k} {n = suc j} (m / suc j) (omega arith)))

-- dividends in order
quotient-pos : (x y : ℤ) (k : ℕ) → x ≤ℤ y → int_div x (pos (suc k)) ≤ℤ int_div y (pos (suc k))
quotient-pos (pos a) (pos b) k h = omega (arith, ints, up-quotient a b k (omega (arith, ints)))
quotient-pos (pos a) (negsuc b) k h = absurd (omega (arith, ints))
quotient-pos (negsuc a) (pos b) k h = omega (arith, ints)
quotient-pos (negsuc a) (negsuc b) k h = omega (arith, ints, up-quotient (suc b) (suc a) k (omega (arith, ints)))

quotient-neg : (x y : ℤ) (k : ℕ) → x ≤ℤ y → int_div y (negsuc k) ≤ℤ int_div x (negsuc k)
quotient-neg (pos a) (pos b) k h = omega (arith, ints, up-quotient a b k (omega (arith, ints)))
quotient-neg (pos a) (negsuc b) k h = absurd (omega (arith, ints))
quotient-neg (negsuc a) (pos b) k h = omega (arith, ints)
quotient-neg (negsuc a) (negsuc b) k h = omega (arith, ints, up-quotient (suc b) (suc a) k (omega (arith, ints)))

far-quotient : (k : ℕ) → suc k ≤ 2 ^ 63 → 2 ^ 63 + 1 ≤ (3 * 2 ^ 125) / suc k
far-quotient k h = le-div (2 ^ 63 + 1) (3 * 2 ^ 125) (suc k) (omega arith) (omega arith)

-- by one divisor of i64, a quotient is at most what those of both ends are at most
below_ends : (d : ℤ) (o p : Option ℤ) (x h : ℤ) → Low o x → High p x → ¬ (d ≡ pos 0) → least ≤ℤ d → d ≤ℤ greatest
    → int_div (unwrap_or o (neg_ℤ far_dividend)) d ≤ℤ h → int_div (unwrap_or p far_dividend) d ≤ℤ h → h ≤ℤ greatest → int_div x d ≤ℤ h
below_ends (pos zero) o p x h lo hi z s t a b f = absurd (z refl)
below_ends (pos (suc k)) o None x h lo hi z s t a b f = absurd (omega (arith, ints, far-quotient k (omega (arith, ints))))
below_ends (pos (suc k)) o (Some n) x h lo hi z s t a b f = omega (arith, ints, quotient-pos x n k hi.2)
below_ends (negsuc k) None p x h lo hi z s t a b f = absurd (omega (arith, ints, far-quotient k (omega (arith, ints))))
below_ends (negsuc k) (Some n) p x h lo hi z s t a b f = omega (arith, ints, quotient-neg n x k lo.2)

above_ends : (d : ℤ) (o p : Option ℤ) (x h : ℤ) → Low o x → High p x → ¬ (d ≡ pos 0) → least ≤ℤ d → d ≤ℤ greatest
    → h ≤ℤ int_div (unwrap_or o (neg_ℤ far_dividend)) d → h ≤ℤ int_div (unwrap_or p far_dividend) d → least ≤ℤ h → h ≤ℤ int_div x d
above_ends (pos zero) o p x h lo hi z s t a b f = absurd (z refl)
above_ends (pos (suc k)) None p x h lo hi z s t a b f = absurd (omega (arith, ints, far-quotient k (omega (arith, ints))))
above_ends (pos (suc k)) (Some n) p x h lo hi z s t a b f = omega (arith, ints, quotient-pos n x k lo.2)
above_ends (negsuc k) o None x h lo hi z s t a b f = absurd (omega (arith, ints, far-quotient k (omega (arith, ints))))
above_ends (negsuc k) o (Some n) x h lo hi z s t a b f = omega (arith, ints, quotient-neg x n k hi.2)

-- z lies between a and b
abbrev Between : ℤ → ℤ → ℤ → Type 0
Between a z b = (int_min a b ≤ℤ z) × (z ≤ℤ int_max a b)

-- a quotient lies between those by a smaller and a larger divisor of one sign
between-pos : (x r y s : ℤ) → pos 1 ≤ℤ r → r ≤ℤ y → y ≤ℤ s → Between (int_div x r) (int_div x y) (int_div x s)
between-pos (pos a) (pos (suc r)) (pos (suc y)) (pos (suc s)) p h k =
    let u = down-quotient a r y (omega (arith, ints)) in
    let v = down-quotient a y s (omega (arith, ints)) in
    (omega (arith, ints, clamps), omega (arith, ints, clamps))
between-pos (negsuc a) (pos (suc r)) (pos (suc y)) (pos (suc s)) p h k =
    let u = down-quotient (suc a) r y (omega (arith, ints)) in
    let v = down-quotient (suc a) y s (omega (arith, ints)) in
    (omega (arith, ints, clamps), omega (arith, ints, clamps))
between-pos x r y s p h k = absurd (omega (arith, ints))

between-neg : (x r y s : ℤ) → s ≤ℤ negsuc 0 → r ≤ℤ y → y ≤ℤ s → Between (int_div x r) (int_div x y) (int_div x s)
between-neg (pos a) (negsuc r) (negsuc y) (negsuc s) p h k =
    let u = down-quotient a y r (omega (arith, ints)) in
    let v = down-quotient a s y (omega (arith, ints)) in
    (omega (arith, ints, clamps), omega (arith, ints, clamps))
between-neg (negsuc a) (negsuc r) (negsuc y) (negsuc s) p h k =
    let u = down-quotient (suc a) y r (omega (arith, ints)) in
    let v = down-quotient (suc a) s y (omega (arith, ints)) in
    (omega (arith, ints, clamps), omega (arith, ints, clamps))
between-neg x r y s p h k = absurd (omega (arith, ints))

-- and between 0 and that by a smaller divisor
toward-pos : (x r y : ℤ) → pos 1 ≤ℤ r → r ≤ℤ y → Between (pos 0) (int_div x y) (int_div x r)
toward-pos (pos a) (pos (suc r)) (pos (suc y)) p h = let u = down-quotient a r y (omega (arith, ints)) in
    (omega (arith, ints, clamps), omega (arith, ints, clamps))
toward-pos (negsuc a) (pos (suc r)) (pos (suc y)) p h = let u = down-quotient (suc a) r y (omega (arith, ints)) in
    (omega (arith, ints, clamps), omega (arith, ints, clamps))
toward-pos x r y p h = absurd (omega (arith, ints))

toward-neg : (x y s : ℤ) → s ≤ℤ negsuc 0 → y ≤ℤ s → Between (pos 0) (int_div x y) (int_div x s)
toward-neg (pos a) (negsuc y) (negsuc s) p h = let u = down-quotient a s y (omega (arith, ints)) in
    (omega (arith, ints, clamps), omega (arith, ints, clamps))
toward-neg (negsuc a) (negsuc y) (negsuc s) p h = let u = down-quotient (suc a) s y (omega (arith, ints)) in
    (omega (arith, ints, clamps), omega (arith, ints, clamps))
toward-neg x y s p h = absurd (omega (arith, ints))

-- and between the number and its negation
one-pos : (x y : ℤ) → pos 1 ≤ℤ y → Between (int_div x (negsuc 0)) (int_div x y) (int_div x (pos 1))
one-pos (pos a) (pos (suc y)) p = let u = down-quotient a 0 y (omega arith) in (omega (arith, ints, clamps), omega (arith, ints, clamps))
one-pos (negsuc a) (pos (suc y)) p = let u = down-quotient (suc a) 0 y (omega arith) in
    (omega (arith, ints, clamps), omega (arith, ints, clamps))
one-pos x y p = absurd (omega (arith, ints))

one-neg : (x y : ℤ) → y ≤ℤ negsuc 0 → Between (int_div x (negsuc 0)) (int_div x y) (int_div x (pos 1))
one-neg (pos a) (negsuc y) p = let u = down-quotient a 0 y (omega arith) in (omega (arith, ints, clamps), omega (arith, ints, clamps))
one-neg (negsuc a) (negsuc y) p = let u = down-quotient (suc a) 0 y (omega arith) in
    (omega (arith, ints, clamps), omega (arith, ints, clamps))
one-neg x y p = absurd (omega (arith, ints))

-- by an open end, 0
far-pos : (o : Option ℤ) (x : ℤ) → Low o x → int_div (unwrap_or o (neg_ℤ far_dividend)) far_divisor ≡ pos 0
far-pos None x h = refl
far-pos (Some (pos n)) x h = let p = h.0 in let q = h.1 in omega (arith, ints)
far-pos (Some (negsuc n)) x h = let p = h.0 in let q = h.1 in omega (arith, ints)

far-neg : (o : Option ℤ) (x : ℤ) → Low o x → int_div (unwrap_or o (neg_ℤ far_dividend)) (neg_ℤ far_divisor) ≡ pos 0
far-neg None x h = refl
far-neg (Some (pos n)) x h = let p = h.0 in let q = h.1 in omega (arith, ints)
far-neg (Some (negsuc n)) x h = let p = h.0 in let q = h.1 in omega (arith, ints)

no-le : (a b : ℤ) → (b +ℤ pos 1) ≤ℤ a → int_le a b ≡ false
no-le a b h = grind (arith, ints)

first-above : (l h : ℤ) → pos 0 ≤ℤ l → first_divisor l h ≡ int_max l (pos 1)
first-above l h p = cond-true (int_le (pos 0) l) _ _ (yes-le _ _ p)

first-round : (l h : ℤ) → l ≤ℤ negsuc 0 → pos 1 ≤ℤ h → first_divisor l h ≡ negsuc 0
first-round l h p q = cond-false (int_le (pos 0) l) _ _ (no-le (pos 0) l (omega (arith, ints)))
    ∙ cond-true (int_le (pos 1) h) _ _ (yes-le _ _ q)

first-below : (l h : ℤ) → l ≤ℤ negsuc 0 → h ≤ℤ pos 0 → first_divisor l h ≡ l
first-below l h p q = cond-false (int_le (pos 0) l) _ _ (no-le (pos 0) l (omega (arith, ints)))
    ∙ cond-false (int_le (pos 1) h) _ _ (no-le (pos 1) h (omega (arith, ints)))

last-below : (l h : ℤ) → h ≤ℤ pos 0 → last_divisor l h ≡ int_min h (negsuc 0)
last-below l h p = cond-true (int_le h (pos 0)) _ _ (yes-le _ _ p)

last-round : (l h : ℤ) → l ≤ℤ negsuc 0 → pos 1 ≤ℤ h → last_divisor l h ≡ pos 1
last-round l h p q = cond-false (int_le h (pos 0)) _ _ (no-le h (pos 0) (omega (arith, ints)))
    ∙ cond-true (int_le l (negsuc 0)) _ _ (yes-le _ _ p)

last-above : (l h : ℤ) → pos 0 ≤ℤ l → pos 1 ≤ℤ h → last_divisor l h ≡ h
last-above l h p q = cond-false (int_le h (pos 0)) _ _ (no-le h (pos 0) (omega (arith, ints)))
    ∙ cond-false (int_le l (negsuc 0)) _ _ (no-le l (negsuc 0) (omega (arith, ints)))

-- a convex set that holds the corners, and with both ends' quotients by a divisor of i64 those between, holds the quotients
abbrev Convex : (ℤ → Type 0) → Type 0
Convex K = (a z b : ℤ) → Between a z b → K a → K b → K z

abbrev Along : (ℤ → Type 0) → ℤ → ℤ → ℤ → Type 0
Along K p q x = (d : ℤ) → ¬ (d ≡ pos 0) → least ≤ℤ d → d ≤ℤ greatest → K (int_div p d) → K (int_div q d) → K (int_div x d)

ne-pos : (z : ℤ) → pos 1 ≤ℤ z → ¬ (z ≡ pos 0)
ne-pos z h e = omega (arith, ints)

ne-neg : (z : ℤ) → z ≤ℤ negsuc 0 → ¬ (z ≡ pos 0)
ne-neg z h e = omega (arith, ints)

round : (K : ℤ → Type 0) (p q x y : ℤ) → Convex K → Along K p q x → ¬ (y ≡ pos 0)
    → K (int_div p (negsuc 0)) → K (int_div p (pos 1)) → K (int_div q (negsuc 0)) → K (int_div q (pos 1)) → K (int_div x y)
round K p q x (pos zero) v at z a b c d = absurd (z refl)
round K p q x (pos (suc k)) v at z a b c d = v _ _ _ (one-pos x (pos (suc k)) (omega (arith, ints)))
    (at (negsuc 0) (ne-neg _ (omega (arith, ints))) (omega (arith, ints)) (omega (arith, ints)) a c)
    (at (pos 1) (ne-pos _ (omega (arith, ints))) (omega (arith, ints)) (omega (arith, ints)) b d)
round K p q x (negsuc k) v at z a b c d = v _ _ _ (one-neg x (negsuc k) (omega (arith, ints)))
    (at (negsuc 0) (ne-neg _ (omega (arith, ints))) (omega (arith, ints)) (omega (arith, ints)) a c)
    (at (pos 1) (ne-pos _ (omega (arith, ints))) (omega (arith, ints)) (omega (arith, ints)) b d)

-- divisors from l on, at least 0
above_zero : (K : ℤ → Type 0) (o r : Option ℤ) (q x y l : ℤ) → Convex K → Along K (unwrap_or o (neg_ℤ far_dividend)) q x
    → ¬ (y ≡ pos 0) → Low o x → least ≤ℤ l → l ≤ℤ greatest → pos 0 ≤ℤ l → l ≤ℤ y → High r y
    → K (int_div (unwrap_or o (neg_ℤ far_dividend)) (int_max l (pos 1)))
    → K (int_div (unwrap_or o (neg_ℤ far_dividend)) (unwrap_or r far_divisor)) → K (int_div q (int_max l (pos 1)))
    → K (int_div q (unwrap_or r far_divisor)) → K (int_div x y)
above_zero K o None q x y l v at z ox s t n h ry a b c d =
    let w : pos 1 ≤ℤ y = omega (arith, ints) in
    let first = at (int_max l (pos 1)) (ne-pos _ (omega (arith, ints, clamps))) (omega (arith, ints, clamps))
    (omega (arith, ints, clamps)) a c in
    v _ _ _ (toward-pos x (int_max l (pos 1)) y (omega (arith, ints, clamps)) (omega (arith, ints, clamps)))
    (subst K (far-pos o x ox) b) first
above_zero K o (Some m) q x y l v at z ox s t n h ry a b c d =
    let w : pos 1 ≤ℤ y = omega (arith, ints) in
    let f = ry.0 in let g = ry.1 in let i = ry.2 in
    let first = at (int_max l (pos 1)) (ne-pos _ (omega (arith, ints, clamps))) (omega (arith, ints, clamps))
    (omega (arith, ints, clamps)) a c in
    let last = at m (ne-pos _ (omega (arith, ints))) f g b d in
    v _ _ _ (between-pos x (int_max l (pos 1)) y m (omega (arith, ints, clamps)) (omega (arith, ints, clamps)) i) first last

below_zero : (K : ℤ → Type 0) (o r : Option ℤ) (q x y l : ℤ) → Convex K → Along K (unwrap_or o (neg_ℤ far_dividend)) q x
    → ¬ (y ≡ pos 0) → Low o x → least ≤ℤ l → l ≤ℤ greatest → l ≤ℤ pos 0 → y ≤ℤ l → Low r y
    → K (int_div (unwrap_or o (neg_ℤ far_dividend)) (int_min l (negsuc 0)))
    → K (int_div (unwrap_or o (neg_ℤ far_dividend)) (unwrap_or r (neg_ℤ far_divisor))) → K (int_div q (int_min l (negsuc 0)))
    → K (int_div q (unwrap_or r (neg_ℤ far_divisor))) → K (int_div x y)
below_zero K o None q x y l v at z ox s t n h ry a b c d =
    let w : y ≤ℤ negsuc 0 = omega (arith, ints) in
    let last = at (int_min l (negsuc 0)) (ne-neg _ (omega (arith, ints, clamps))) (omega (arith, ints, clamps))
    (omega (arith, ints, clamps)) a c in
    v _ _ _ (toward-neg x y (int_min l (negsuc 0)) (omega (arith, ints, clamps)) (omega (arith, ints, clamps)))
    (subst K (far-neg o x ox) b) last
below_zero K o (Some m) q x y l v at z ox s t n h ry a b c d =
    let w : y ≤ℤ negsuc 0 = omega (arith, ints) in
    let f = ry.0 in let g = ry.1 in let i = ry.2 in
    let last = at (int_min l (negsuc 0)) (ne-neg _ (omega (arith, ints, clamps))) (omega (arith, ints, clamps))
    (omega (arith, ints, clamps)) a c in
    let first = at m (ne-neg _ (omega (arith, ints))) f g b d in
    v _ _ _ (between-neg x m y (int_min l (negsuc 0)) (omega (arith, ints, clamps)) i (omega (arith, ints, clamps))) first last

-- the divisors' ends at a and b, where the open ones are far out
abbrev Corners : (ℤ → Type 0) → ℤ → ℤ → ℤ → ℤ → Type 0
Corners K p q r s = K (int_div p r) × K (int_div p s) × K (int_div q r) × K (int_div q s)

quotient_above : (K : ℤ → Type 0) (o r : Option ℤ) (q x y l : ℤ) → Convex K → Along K (unwrap_or o (neg_ℤ far_dividend)) q x
    → ¬ (y ≡ pos 0) → Low o x → least ≤ℤ l → l ≤ℤ greatest → pos 0 ≤ℤ l → l ≤ℤ y → High r y → pos 1 ≤ℤ unwrap_or r far_divisor
    → Corners K (unwrap_or o (neg_ℤ far_dividend)) q
    (first_divisor l (unwrap_or r far_divisor)) (last_divisor l (unwrap_or r far_divisor)) → K (int_div x y)
quotient_above K o r q x y l v at z ox s t n h ry m c =
    let C : ℤ → ℤ → Type 0 = λ f e. Corners K (unwrap_or o (neg_ℤ far_dividend)) q f e in
    let d = subst (λ f. C f (last_divisor l (unwrap_or r far_divisor))) (first-above l (unwrap_or r far_divisor) n) c in
    let e = subst (λ e. C (int_max l (pos 1)) e) (last-above l (unwrap_or r far_divisor) n m) d in
    above_zero K o r q x y l v at z ox s t n h ry e.0 e.1 e.2 e.3

quotient_below : (K : ℤ → Type 0) (o r : Option ℤ) (q x y h : ℤ) → Convex K
    → Along K (unwrap_or o (neg_ℤ far_dividend)) q x → ¬ (y ≡ pos 0) → Low o x → least ≤ℤ h → h ≤ℤ greatest → h ≤ℤ pos 0 → y ≤ℤ h
    → Low r y → unwrap_or r (neg_ℤ far_divisor) ≤ℤ negsuc 0
    → Corners K (unwrap_or o (neg_ℤ far_dividend)) q (first_divisor (unwrap_or r (neg_ℤ far_divisor)) h)
    (last_divisor (unwrap_or r (neg_ℤ far_divisor)) h) → K (int_div x y)
quotient_below K o r q x y h v at z ox s t n k ry m c =
    let C : ℤ → ℤ → Type 0 = λ f e. Corners K (unwrap_or o (neg_ℤ far_dividend)) q f e in
    let d = subst (λ f. C f (last_divisor (unwrap_or r (neg_ℤ far_divisor)) h)) (first-below (unwrap_or r (neg_ℤ far_divisor)) h m n) c in
    let e = subst (λ e. C (unwrap_or r (neg_ℤ far_divisor)) e) (last-below (unwrap_or r (neg_ℤ far_divisor)) h n) d in
    below_zero K o r q x y h v at z ox s t n k ry e.1 e.0 e.3 e.2

quotient_round : (K : ℤ → Type 0) (p q x y l h : ℤ) → Convex K → Along K p q x → ¬ (y ≡ pos 0) → l ≤ℤ negsuc 0 → pos 1 ≤ℤ h
    → Corners K p q (first_divisor l h) (last_divisor l h) → K (int_div x y)
quotient_round K p q x y l h v at z m n c =
    let d = subst (λ f. Corners K p q f (last_divisor l h)) (first-round l h m n) c in
    let e = subst (λ e. Corners K p q (negsuc 0) e) (last-round l h m n) d in
    round K p q x y v at z e.0 e.1 e.2 e.3

quotient_in : (K : ℤ → Type 0) (o q r : Option ℤ) (p x y : ℤ) → Convex K → Along K (unwrap_or o (neg_ℤ far_dividend)) p x
    → ¬ (y ≡ pos 0) → Low o x → Low q y → High r y
    → Corners K (unwrap_or o (neg_ℤ far_dividend)) p (first_divisor (unwrap_or q (neg_ℤ far_divisor)) (unwrap_or r far_divisor))
    (last_divisor (unwrap_or q (neg_ℤ far_divisor)) (unwrap_or r far_divisor)) → K (int_div x y)
quotient_in K o (Some (pos l)) None p x y v at z ox ly hy c = quotient_above K o None p x y (pos l) v at z ox ly.0 ly.1
    (omega (arith, ints)) ly.2 hy (omega (arith, ints)) c
quotient_in K o (Some (pos l)) (Some n) p x y v at z ox ly hy c =
    let a : pos l ≤ℤ y = ly.2 in
    let b : y ≤ℤ n = hy.2 in
    quotient_above K o (Some n) p x y (pos l) v at z ox ly.0 ly.1 (omega (arith, ints)) a hy (omega (arith, ints, z)) c
quotient_in K o None None p x y v at z ox ly hy c = quotient_round K _ p x y (neg_ℤ far_divisor) far_divisor v at z
    (omega (arith, ints)) (omega (arith, ints)) c
quotient_in K o None (Some (pos (suc n))) p x y v at z ox ly hy c = quotient_round K _ p x y (neg_ℤ far_divisor)
    (pos (suc n)) v at z (omega (arith, ints)) (omega (arith, ints)) c
quotient_in K o None (Some (pos zero)) p x y v at z ox ly hy c = quotient_below K o None p x y (pos 0) v at z ox hy.0 hy.1
    (omega (arith, ints)) hy.2 ly (omega (arith, ints)) c
quotient_in K o None (Some (negsuc n)) p x y v at z ox ly hy c = quotient_below K o None p x y (negsuc n) v at z ox hy.0 hy.1
    (omega (arith, ints)) hy.2 ly (omega (arith, ints)) c
quotient_in K o (Some (negsuc l)) None p x y v at z ox ly hy c = quotient_round K _ p x y (negsuc l) far_divisor v at z
    (omega (arith, ints)) (omega (arith, ints)) c
quotient_in K o (Some (negsuc l)) (Some (pos (suc n))) p x y v at z ox ly hy c = quotient_round K _ p x y (negsuc l)
    (pos (suc n)) v at z (omega (arith, ints)) (omega (arith, ints)) c
quotient_in K o (Some (negsuc l)) (Some (pos zero)) p x y v at z ox ly hy c = quotient_below K o (Some (negsuc l)) p x y
    (pos 0) v at z ox hy.0 hy.1 (omega (arith, ints)) hy.2 ly (omega (arith, ints)) c
quotient_in K o (Some (negsuc l)) (Some (negsuc n)) p x y v at z ox ly hy c = quotient_below K o (Some (negsuc l)) p x y
    (negsuc n) v at z ox hy.0 hy.1 (omega (arith, ints)) hy.2 ly (omega (arith, ints)) c

convex-low : (h : ℤ) → Convex (λ z. h ≤ℤ z)
convex-low h a z b w p q = let u = w.0 in omega (arith, ints, clamps)

convex-high : (h : ℤ) → Convex (λ z. z ≤ℤ h)
convex-high h a z b w p q = let u = w.1 in omega (arith, ints, clamps)

quotients_hold : (a b : Bounds) (x y : ℤ) → is_member a x ≡ true → is_member b y ≡ true → ¬ (y ≡ pos 0)
    → is_member (quotients (low_of far_dividend a) (high_of far_dividend a)
    (first_divisor (low_of far_divisor b) (high_of far_divisor b)) (last_divisor (low_of far_divisor b) (high_of far_divisor b)))
    (int_div x y) ≡ true
quotients_hold a b x y p q z =
    let ax = member a x p in
    let by = member b y q in
    let la = low_of far_dividend a in
    let ha = high_of far_dividend a in
    let f = first_divisor (low_of far_divisor b) (high_of far_divisor b) in
    let e = last_divisor (low_of far_divisor b) (high_of far_divisor b) in
    let l = least_of (int_div la f) (int_div la e) (int_div ha f) (int_div ha e) in
    let h = greatest_of (int_div la f) (int_div la e) (int_div ha f) (int_div ha e) in
    in_span _ _ _
    (λ s t. quotient_in (λ w. _ ≤ℤ w) a.low b.low b.high ha x y (convex-low _)
    (λ d n i j u v. above_ends d a.low a.high x _ ax.0 ax.1 n i j u v s) z ax.0 by.0 by.1 l)
    (λ s t. quotient_in (λ w. w ≤ℤ _) a.low b.low b.high ha x y (convex-high _)
    (λ d n i j u v. below_ends d a.low a.high x _ ax.0 ax.1 n i j u v t) z ax.0 by.0 by.1 h)

pub divides : (a b : Bounds) (x y : ℤ) → is_member a x ≡ true → is_member b y ≡ true → ¬ (y ≡ pos 0)
    → is_member (divide a b) (int_div x y) ≡ true
divides a b x y p q z = cond_both (is_zero (low_of far_divisor b) (high_of far_divisor b)) all _
    (λ c. is_member c (int_div x y) ≡ true) (λ e. refl) (λ e. quotients_hold a b x y p q z)
