-- The corners of two intervals are the ends of their products.
use Rattle.std.proofs.Common.{◌≡◌, ℕ, zero, suc, true, Option, Some, None, arith, subst}
use Rattle.std.specs.Prelude.{ℤ, pos, negsuc, ◌≤ℤ◌, ◌+ℤ◌, ◌-ℤ◌, ◌*ℤ◌, neg_ℤ}
use Rattle.std.specs.Int.{int_min, int_max}
use Rattle.std.specs.Option.{unwrap_or}
use Rattle.std.proofs.lemmas.Int.{ints, clamps}
use Rattle.semantics.proofs.Integers.{mul_comm, mul-add, weighted}
use Rattle.domain.specs.declared.Bounds.{Bounds}
use Rattle.domain.specs.Ends.{least, greatest, far_factor, is_member, multiply, low_of, high_of}
use Rattle.domain.specs.IntervalMembers.{Low, High, member, in_span}

-- products with one factor keep an order, or turn it
pub mul-le_pos : (k : ℕ) (x y : ℤ) → x ≤ℤ y → (pos k *ℤ x) ≤ℤ (pos k *ℤ y)
mul-le_pos k x y h =
    let w : pos 0 ≤ℤ (pos k *ℤ (y -ℤ x)) = weighted (pos k) (y -ℤ x) (omega (arith, ints)) (omega (arith, ints)) in
    let e : pos k *ℤ (x +ℤ (y -ℤ x)) ≡ pos k *ℤ x +ℤ pos k *ℤ (y -ℤ x) = mul-add (pos k) x (y -ℤ x) in
    let s : x +ℤ (y -ℤ x) ≡ y = omega (arith, ints) in
    let t : pos k *ℤ y ≡ pos k *ℤ x +ℤ pos k *ℤ (y -ℤ x) = subst (λ z. pos k *ℤ z ≡ pos k *ℤ x +ℤ pos k *ℤ (y -ℤ x)) s e in
    omega (arith, ints, w, t)

pub mul-le_neg : (k : ℕ) (x y : ℤ) → x ≤ℤ y → (negsuc k *ℤ y) ≤ℤ (negsuc k *ℤ x)
mul-le_neg k x y h =
    let p = mul-le_pos (suc k) x y h in
    omega (arith, ints, p)

-- a multiple of a member is at most what both ends' multiples are at most
below_ends : (m : ℤ) (o p : Option ℤ) (y h : ℤ) → Low o y → High p y → (m *ℤ unwrap_or o (neg_ℤ far_factor)) ≤ℤ h
    → (m *ℤ unwrap_or p far_factor) ≤ℤ h → h ≤ℤ greatest → (m *ℤ y) ≤ℤ h
below_ends (pos zero) o p y h lo hi a b f = omega (arith, ints)
below_ends (pos (suc k)) o None y h lo hi a b f = absurd (omega (arith, ints))
below_ends (pos (suc k)) o (Some n) y h lo hi a b f = let w = mul-le_pos (suc k) y n hi.2 in omega (arith, ints, w)
below_ends (negsuc k) None p y h lo hi a b f = absurd (omega (arith, ints))
below_ends (negsuc k) (Some n) p y h lo hi a b f = let w = mul-le_neg k n y lo.2 in omega (arith, ints, w)

above_ends : (m : ℤ) (o p : Option ℤ) (y h : ℤ) → Low o y → High p y → h ≤ℤ (m *ℤ unwrap_or o (neg_ℤ far_factor))
    → h ≤ℤ (m *ℤ unwrap_or p far_factor) → least ≤ℤ h → h ≤ℤ (m *ℤ y)
above_ends (pos zero) o p y h lo hi a b f = omega (arith, ints)
above_ends (pos (suc k)) None p y h lo hi a b f = absurd (omega (arith, ints))
above_ends (pos (suc k)) (Some n) p y h lo hi a b f = let w = mul-le_pos (suc k) n y lo.2 in omega (arith, ints, w)
above_ends (negsuc k) o None y h lo hi a b f = absurd (omega (arith, ints))
above_ends (negsuc k) o (Some n) y h lo hi a b f = let w = mul-le_neg k y n hi.2 in omega (arith, ints, w)

below_corners : (o p q r : Option ℤ) (x y h : ℤ) → Low o x → High p x → Low q y → High r y
    → (unwrap_or o (neg_ℤ far_factor) *ℤ unwrap_or q (neg_ℤ far_factor)) ≤ℤ h
    → (unwrap_or o (neg_ℤ far_factor) *ℤ unwrap_or r far_factor) ≤ℤ h
    → (unwrap_or p far_factor *ℤ unwrap_or q (neg_ℤ far_factor)) ≤ℤ h → (unwrap_or p far_factor *ℤ unwrap_or r far_factor) ≤ℤ h
    → h ≤ℤ greatest → (x *ℤ y) ≤ℤ h
below_corners o p q r x y h ox px qy ry a b c d f =
    let first = below_ends (unwrap_or o (neg_ℤ far_factor)) q r y h qy ry a b f in
    let second = below_ends (unwrap_or p far_factor) q r y h qy ry c d f in
    subst (λ z. z ≤ℤ h) (mul_comm y x)
    (below_ends y o p x h ox px (subst (λ z. z ≤ℤ h) (mul_comm _ y) first) (subst (λ z. z ≤ℤ h) (mul_comm _ y) second) f)

above_corners : (o p q r : Option ℤ) (x y h : ℤ) → Low o x → High p x → Low q y → High r y
    → h ≤ℤ (unwrap_or o (neg_ℤ far_factor) *ℤ unwrap_or q (neg_ℤ far_factor))
    → h ≤ℤ (unwrap_or o (neg_ℤ far_factor) *ℤ unwrap_or r far_factor)
    → h ≤ℤ (unwrap_or p far_factor *ℤ unwrap_or q (neg_ℤ far_factor)) → h ≤ℤ (unwrap_or p far_factor *ℤ unwrap_or r far_factor)
    → least ≤ℤ h → h ≤ℤ (x *ℤ y)
above_corners o p q r x y h ox px qy ry a b c d f =
    let first = above_ends (unwrap_or o (neg_ℤ far_factor)) q r y h qy ry a b f in
    let second = above_ends (unwrap_or p far_factor) q r y h qy ry c d f in
    subst (λ z. h ≤ℤ z) (mul_comm y x)
    (above_ends y o p x h ox px (subst (λ z. h ≤ℤ z) (mul_comm _ y) first) (subst (λ z. h ≤ℤ z) (mul_comm _ y) second) f)

-- the least and the greatest of four
pub least_of : (a b c d : ℤ) → (int_min (int_min a b) (int_min c d) ≤ℤ a) × (int_min (int_min a b) (int_min c d) ≤ℤ b)
    × (int_min (int_min a b) (int_min c d) ≤ℤ c) × (int_min (int_min a b) (int_min c d) ≤ℤ d)
least_of a b c d = (omega (arith, ints, clamps), omega (arith, ints, clamps), omega (arith, ints, clamps), omega (arith, ints, clamps))

pub greatest_of : (a b c d : ℤ) → (a ≤ℤ int_max (int_max a b) (int_max c d)) × (b ≤ℤ int_max (int_max a b) (int_max c d))
    × (c ≤ℤ int_max (int_max a b) (int_max c d)) × (d ≤ℤ int_max (int_max a b) (int_max c d))
greatest_of a b c d = (omega (arith, ints, clamps), omega (arith, ints, clamps), omega (arith, ints, clamps), omega (arith, ints, clamps))

pub multiplies : (a b : Bounds) (x y : ℤ) → is_member a x ≡ true → is_member b y ≡ true → is_member (multiply a b) (x *ℤ y) ≡ true
multiplies a b x y p q =
    let ax = member a x p in
    let by = member b y q in
    let la = low_of far_factor a in
    let ha = high_of far_factor a in
    let lb = low_of far_factor b in
    let hb = high_of far_factor b in
    let l = least_of (la *ℤ lb) (la *ℤ hb) (ha *ℤ lb) (ha *ℤ hb) in
    let h = greatest_of (la *ℤ lb) (la *ℤ hb) (ha *ℤ lb) (ha *ℤ hb) in
    in_span _ _ _ (λ s t. above_corners a.low a.high b.low b.high x y _ ax.0 ax.1 by.0 by.1 l.0 l.1 l.2 l.3 s)
    (λ s t. below_corners a.low a.high b.low b.high x y _ ax.0 ax.1 by.0 by.1 h.0 h.1 h.2 h.3 t)
