-- Sums, differences, joins and narrowing hold what they promise.
use Rattle.std.proofs.Common.{◌≡◌, true, Option, Some, None, arith, ◌⊎◌, inl, inr, refl}
use Rattle.std.specs.Prelude.{ℤ, ◌≤ℤ◌, ◌+ℤ◌, ◌-ℤ◌, neg_ℤ, ◌&&◌}
use Rattle.std.specs.Int.{int_min, int_max}
use Rattle.std.specs.Int.RustNames.{int_le}
use Rattle.std.specs.Option.{unwrap_or}
use Rattle.std.proofs.lemmas.Bool.{cond_both, and_parts}
use Rattle.std.proofs.lemmas.Int.{ints, clamps}
use Rattle.domain.specs.declared.Bounds.{Bounds}
use Rattle.domain.specs.Members.{is_within}
use Rattle.domain.specs.Ends.{least, greatest, far, is_end, is_member, join, add, subtract, at_least, at_most, low_of, high_of, span}
use Rattle.domain.specs.IntervalMembers.{Low, High, member, in_span}

-- a number of an end that is far out, or an end
pub low-far : (o : Option ℤ) (z : ℤ) → Low o z → (unwrap_or o (neg_ℤ far) ≤ℤ greatest)
    × ((unwrap_or o (neg_ℤ far) ≡ neg_ℤ far) ⊎ ((least ≤ℤ unwrap_or o (neg_ℤ far)) × (unwrap_or o (neg_ℤ far) ≤ℤ z)))
low-far None z h = (omega (arith, ints), inl refl)
low-far (Some n) z h = (h.1, inr (h.0, h.2))

pub high-far : (o : Option ℤ) (z : ℤ) → High o z
    → (least ≤ℤ unwrap_or o far) × ((unwrap_or o far ≡ far) ⊎ ((unwrap_or o far ≤ℤ greatest) × (z ≤ℤ unwrap_or o far)))
high-far None z h = (omega (arith, ints), inl refl)
high-far (Some n) z h = (h.0, inr (h.1, h.2))

pub adds : (a b : Bounds) (x y : ℤ) → is_member a x ≡ true → is_member b y ≡ true → is_member (add a b) (x +ℤ y) ≡ true
adds a b x y p q =
    let la = low-far a.low x (member a x p).0 in
    let lb = low-far b.low y (member b y q).0 in
    let ha = high-far a.high x (member a x p).1 in
    let hb = high-far b.high y (member b y q).1 in
    in_span (low_of far a +ℤ low_of far b) (high_of far a +ℤ high_of far b) (x +ℤ y) (λ s t. omega (arith, ints, la, lb))
    (λ s t. omega (arith, ints, ha, hb))

pub subtracts : (a b : Bounds) (x y : ℤ) → is_member a x ≡ true → is_member b y ≡ true → is_member (subtract a b) (x -ℤ y) ≡ true
subtracts a b x y p q =
    let la = low-far a.low x (member a x p).0 in
    let lb = low-far b.low y (member b y q).0 in
    let ha = high-far a.high x (member a x p).1 in
    let hb = high-far b.high y (member b y q).1 in
    in_span (low_of far a -ℤ high_of far b) (high_of far a -ℤ low_of far b) (x -ℤ y) (λ s t. omega (arith, ints, la, hb))
    (λ s t. omega (arith, ints, ha, lb))

join_left : (a b : Bounds) (z : ℤ) → is_member a z ≡ true → is_member (join a b) z ≡ true
join_left a b z p =
    let l = low-far a.low z (member a z p).0 in
    let h = high-far a.high z (member a z p).1 in
    in_span (int_min (low_of far a) (low_of far b)) (int_max (high_of far a) (high_of far b)) z
    (λ s t. omega (arith, ints, clamps, l)) (λ s t. omega (arith, ints, clamps, h))

join_right : (a b : Bounds) (z : ℤ) → is_member b z ≡ true → is_member (join a b) z ≡ true
join_right a b z p =
    let l = low-far b.low z (member b z p).0 in
    let h = high-far b.high z (member b z p).1 in
    in_span (int_min (low_of far a) (low_of far b)) (int_max (high_of far a) (high_of far b)) z
    (λ s t. omega (arith, ints, clamps, l)) (λ s t. omega (arith, ints, clamps, h))

pub joins : (a b : Bounds) (z : ℤ) → (is_member a z ≡ true) ⊎ (is_member b z ≡ true) → is_member (join a b) z ≡ true
joins a b z (inl p) = join_left a b z p
joins a b z (inr p) = join_right a b z p

pub narrows_up : (a : Bounds) (n x : ℤ) → is_member a x ≡ true → n ≤ℤ x → is_member (at_least a n) x ≡ true
narrows_up a n x p q =
    let l = low-far a.low x (member a x p).0 in
    let h = high-far a.high x (member a x p).1 in
    cond_both (int_le n (high_of far a)) (span (int_max (low_of far a) n) (high_of far a)) a (λ b. is_member b x ≡ true)
    (λ e. in_span (int_max (low_of far a) n) (high_of far a) x
    (λ s t. omega (arith, ints, clamps, l)) (λ s t. omega (arith, ints, h))) (λ e. p)

pub narrows_down : (a : Bounds) (n x : ℤ) → is_member a x ≡ true → x ≤ℤ n → is_member (at_most a n) x ≡ true
narrows_down a n x p q =
    let l = low-far a.low x (member a x p).0 in
    let h = high-far a.high x (member a x p).1 in
    cond_both (int_le (low_of far a) n) (span (low_of far a) (int_min (high_of far a) n)) a (λ b. is_member b x ≡ true)
    (λ e. in_span (low_of far a) (int_min (high_of far a) n) x
    (λ s t. omega (arith, ints, l)) (λ s t. omega (arith, ints, clamps, h))) (λ e. p)

pub within : (a : Bounds) (x : ℤ) → is_member a x ≡ true → is_within a x ≡ true
within a x p = (and_parts (is_end a.low && is_end a.high) (is_within a x) p).1
