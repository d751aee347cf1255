-- Copies of forms without products keep the order of their terms.
use Rattle.std.proofs.Common.{◌≡◌, ℕ, suc, ◌+◌, ◌*◌, ◌/◌, ◌%◌, ◌<◌, ◌≤◌, true, not, ◌&&◌, nat_le, [], ◌∷◌, arith, refl, ap, ◌∙◌, lt-ltb, inl, inr}
use Rattle.std.specs.Prelude.{pos}
use Rattle.std.specs.Ordering.{int_eq}
use Rattle.std.proofs.lemmas.Bool.{and_parts, cases_lt}
use Rattle.std.proofs.lemmas.Bool.Decides.{nat_tests}
use Rattle.linear.specs.Exact.{Terms, is_rising, merge}
use Rattle.walk_trees.specs.Seconds.{second, second_terms}
use Rattle.walk_trees.proofs.Seconds.{shared, copied}

-- symbols of the launch and of the first item, no products
abbrev pub ArePlain : Terms → Type 0
ArePlain [] = Unit {0}
ArePlain (t ∷ ts) = (t.symbol % 16 < 9) × ArePlain ts

-- term by term
abbrev pub each_second : Terms → Terms
each_second [] = []
each_second (t ∷ ts) = record { coefficient = t.coefficient; symbol = second t.symbol } ∷ each_second ts

second-is : (n : ℕ) → n % 16 < 9 → second n ≡ n + 6 * ((n % 16 + 13) / 16)
second-is n h = elim (cases_lt (n % 16) 3) [
  | inl l ↦ (let e = shared n l in omega (arith, e, l))
  | inr l ↦ (let e = copied n (n + 6) l h refl in omega (arith, e, l, h))
]

rises : (m n : ℕ) → m % 16 < 9 → n % 16 < 9 → m < n → second m < second n
rises m n p q h =
    let a = second-is m p in
    let b = second-is n q in
    omega (arith, a, b)

above : (m n : ℕ) → nat_le m n ≡ true → m ≤ n
above m n h = grind (arith, nat_tests)

pub in-order : (least : ℕ) (ts : Terms) → is_rising least ts ≡ true → ArePlain ts → second_terms ts ≡ each_second ts
in-order least [] h p = refl
in-order least (t ∷ []) h p = refl
in-order least (t ∷ u ∷ us) h p =
    let a = and_parts (nat_le least t.symbol) (not (int_eq t.coefficient (pos 0)) && is_rising (suc t.symbol) (u ∷ us)) h in
    let b = and_parts (not (int_eq t.coefficient (pos 0))) (is_rising (suc t.symbol) (u ∷ us)) a.1 in
    let c = and_parts (nat_le (suc t.symbol) u.symbol) (not (int_eq u.coefficient (pos 0)) && is_rising (suc u.symbol) us) b.1 in
    let l : t.symbol < u.symbol = above (suc t.symbol) u.symbol c.0 in
    ap (merge (record { coefficient = t.coefficient; symbol = second t.symbol } ∷ [])) (in-order (suc t.symbol) (u ∷ us) b.1 p.1)
    ∙ rw (lt-ltb (second t.symbol) (second u.symbol) (rises t.symbol u.symbol p.0 p.1.0 l)) refl
