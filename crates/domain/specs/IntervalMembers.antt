-- Members of an interval, by facts on numbers in place of tests.
use Rattle.std.proofs.Common.{◌≡◌, true, Option, Some, None, arith, refl}
use Rattle.std.specs.Prelude.{ℤ, ◌≤ℤ◌, ◌&&◌}
use Rattle.std.specs.Int.RustNames.{int_le}
use Rattle.std.proofs.lemmas.Bool.{and_parts, and_from, cond_both}
use Rattle.std.proofs.lemmas.Int.{ints}
use Rattle.domain.specs.declared.Bounds.{Bounds}
use Rattle.domain.specs.Members.{is_above, is_below}
use Rattle.domain.specs.Ends.{least, greatest, fits, end, is_end, is_member, span}

-- an end of i64 that is at most z
abbrev pub Low : Option ℤ → ℤ → Type 0
Low None z = Unit {0}
Low (Some n) z = (least ≤ℤ n) × (n ≤ℤ greatest) × (n ≤ℤ z)

abbrev pub High : Option ℤ → ℤ → Type 0
High None z = Unit {0}
High (Some n) z = (least ≤ℤ n) × (n ≤ℤ greatest) × (z ≤ℤ n)

pub le-yes : (a b : ℤ) → int_le a b ≡ true → a ≤ℤ b
le-yes a b e = omega (arith, ints)

pub yes-le : (a b : ℤ) → a ≤ℤ b → int_le a b ≡ true
yes-le a b h = grind (arith, ints)

pub fits-in : (n : ℤ) → least ≤ℤ n → n ≤ℤ greatest → fits n ≡ true
fits-in n p q = and_from (int_le least n) (int_le n greatest) (yes-le _ _ p) (yes-le _ _ q)

low : (o : Option ℤ) (z : ℤ) → is_end o ≡ true → is_above o z ≡ true → Low o z
low None z e h = tt
low (Some n) z e h =
    let f = and_parts (int_le least n) (int_le n greatest) e in
    (le-yes _ _ f.0, le-yes _ _ f.1, le-yes _ _ h)

high : (o : Option ℤ) (z : ℤ) → is_end o ≡ true → is_below o z ≡ true → High o z
high None z e h = tt
high (Some n) z e h =
    let f = and_parts (int_le least n) (int_le n greatest) e in
    (le-yes _ _ f.0, le-yes _ _ f.1, le-yes _ _ h)

pub member : (b : Bounds) (z : ℤ) → is_member b z ≡ true → Low b.low z × High b.high z
member b z h =
    let p = and_parts (is_end b.low && is_end b.high) (is_above b.low z && is_below b.high z) h in
    let e = and_parts (is_end b.low) (is_end b.high) p.0 in
    let w = and_parts (is_above b.low z) (is_below b.high z) p.1 in
    (low b.low z e.0 w.0, high b.high z e.1 w.1)

tests : (low high : Option ℤ) (z : ℤ) → is_end low ≡ true → is_end high ≡ true → is_above low z ≡ true → is_below high z ≡ true
    → is_member (record { low = low; high = high }) z ≡ true
tests low high z p q r s = and_from _ _ (and_from _ _ p q) (and_from _ _ r s)

low-back : (o : Option ℤ) (z : ℤ) → Low o z → (is_end o ≡ true) × (is_above o z ≡ true)
low-back None z h = (refl, refl)
low-back (Some n) z h = (fits-in n h.0 h.1, yes-le _ _ h.2)

high-back : (o : Option ℤ) (z : ℤ) → High o z → (is_end o ≡ true) × (is_below o z ≡ true)
high-back None z h = (refl, refl)
high-back (Some n) z h = (fits-in n h.0 h.1, yes-le _ _ h.2)

pub member-in : (low high : Option ℤ) (z : ℤ) → Low low z → High high z → is_member (record { low = low; high = high }) z ≡ true
member-in low high z p q = tests low high z (low-back low z p).0 (high-back high z q).0 (low-back low z p).1 (high-back high z q).1

low-end : (n z : ℤ) → (least ≤ℤ n → n ≤ℤ greatest → n ≤ℤ z) → Low (end n) z
low-end n z h = cond_both (fits n) (Some n) None (λ o. Low o z) (λ e.
    let f = and_parts (int_le least n) (int_le n greatest) e in
    let p = le-yes least n f.0 in
    let q = le-yes n greatest f.1 in
    (p, q, h p q)) (λ e. tt)

high-end : (n z : ℤ) → (least ≤ℤ n → n ≤ℤ greatest → z ≤ℤ n) → High (end n) z
high-end n z h = cond_both (fits n) (Some n) None (λ o. High o z) (λ e.
    let f = and_parts (int_le least n) (int_le n greatest) e in
    let p = le-yes least n f.0 in
    let q = le-yes n greatest f.1 in
    (p, q, h p q)) (λ e. tt)

-- a span holds what is between its numbers, so far as these are ends
pub in_span : (low high z : ℤ) → (least ≤ℤ low → low ≤ℤ greatest → low ≤ℤ z) → (least ≤ℤ high → high ≤ℤ greatest → z ≤ℤ high)
    → is_member (span low high) z ≡ true
in_span low high z p q = member-in (end low) (end high) z (low-end low z p) (high-end high z q)
