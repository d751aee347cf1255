-- The second item's symbols: factors of products stay small, and different symbols have different ones.
use Rattle.std.proofs.Common.{◌≡◌, ◌≢◌, ℕ, zero, suc, ◌+◌, ◌-◌, ◌*◌, ◌/◌, ◌%◌, ◌^◌, ◌<◌, ◌≤◌, ◌&&◌, Bool, true, false, cond, nat_lt, List, [], ◌∷◌, length, map, arith, refl, sym, ap, ◌∙◌, inl, inr}
use Rattle.std.specs.Prelude.{nat_eq}
use Rattle.std.specs.List.{All}
use Rattle.std.proofs.lemmas.Bool.{and_parts, cases_lt, lt-ltb, le-ltb}
use Rattle.std.proofs.lemmas.Bool.Decides.{nat_tests}
use Rattle.std.proofs.lemmas.List.Elements.{All-cons, All-nil}
use Rattle.linear.specs.Products.{factor_before, unpacked, packed, factors, product_number, are_small}
use Rattle.linear.proofs.Multiplying.{below, factors-alone}
use Rattle.linear.proofs.Factors.{pack_one, unpacked_none, unpacked_next}
use Rattle.linear.proofs.Orders.{packed-rises}
use Rattle.walk_trees.specs.Seconds.{shifted, second, are_own_factors, is_whole, is_own_symbol}
use Rattle.walk_trees.proofs.Seconds.{is_relabelling}

-- factors, one by one

length-before : (d most : ℕ) (ns : List ℕ) → length ns ≤ most → length (factor_before d ns) ≤ suc most
length-before zero most ns h = omega arith
length-before (suc d) most ns h = omega (arith, h)

pub length-unpacked : (most n : ℕ) → length (unpacked most n) ≤ most
length-unpacked zero n = omega arith
length-unpacked (suc most) n = length-before (n % 2 ^ 20) most (unpacked most (n / 2 ^ 20)) (length-unpacked most (n / 2 ^ 20))

length-shifted : (ns : List ℕ) → length (map shifted ns) ≡ length ns
length-shifted [] = refl
length-shifted (n ∷ ns) = ap suc (length-shifted ns)

pub small-shifted : (ns : List ℕ) → are_small ns ≡ true → are_small (map shifted ns) ≡ true
small-shifted [] h = refl
small-shifted (n ∷ ns) h =
    let t = and_parts (nat_lt n 1048560) (are_small ns) h in
    rw (lt-ltb (shifted n) 1048560 (is_relabelling.small n (below n 1048560 t.0)), small-shifted ns t.1) refl

packed-below : (fs : List ℕ) → length fs ≤ 3 → are_small fs ≡ true → packed fs < 2 ^ 60
packed-below [] h s = omega arith
packed-below (a ∷ fs) h s = (pack_one (a ∷ fs) zero 0 h s (omega arith)).3

-- what is packed is below 2^60
pub copy_below : (n : ℕ) → are_small (unpacked 3 n) ≡ true → packed (map shifted (unpacked 3 n)) < 2 ^ 60
copy_below n s = packed-below (map shifted (unpacked 3 n)) (omega (arith, length-shifted (unpacked 3 n), length-unpacked 3 n)) (small-shifted (unpacked 3 n) s)

pub none_left : (most n : ℕ) → most ≡ 0 → packed (map shifted (unpacked most n)) ≡ 0
none_left zero n h = refl
none_left (suc most) n h = absurd (omega arith)

pub none_more : (most n : ℕ) → n % 2 ^ 20 ≡ 0 → packed (map shifted (unpacked most n)) ≡ 0
none_more most n h = ap (λ ns. packed (map shifted ns)) (unpacked_none most n h)

pub next : (most less n : ℕ) → most ≡ suc less → 0 < n % 2 ^ 20 → unpacked most n ≡ (n % 2 ^ 20 - 1) ∷ unpacked less (n / 2 ^ 20)
next most less n m h = ap (λ k. unpacked k n) m ∙ unpacked_next less n (n % 2 ^ 20 - 1) (omega arith)

-- the other factors are small too
pub small_others : (most less n : ℕ) → most ≡ suc less → 0 < n % 2 ^ 20 → are_small (unpacked most n) ≡ true → are_small (unpacked less (n / 2 ^ 20)) ≡ true
small_others most less n m h s = (and_parts (nat_lt (n % 2 ^ 20 - 1) 1048560) (are_small (unpacked less (n / 2 ^ 20))) (sym (ap are_small (next most less n m h)) ∙ s)).1

both : (a : ℕ) (fs : List ℕ) → length fs ≤ 2 → are_small (a ∷ fs) ≡ true → (packed fs < 2 ^ 40) × (suc a < 2 ^ 20)
both a fs h s = (let p = pack_one (a ∷ fs) zero 0 (omega (arith, h)) s (omega arith) in (p.0, p.1))

-- one factor and the others: their numbers, and the number of all
pub one_more : (most less n others : ℕ) → most ≡ suc less → most ≤ 3 → 0 < n % 2 ^ 20 → are_small (unpacked most n) ≡ true → others ≡ packed (map shifted (unpacked less (n / 2 ^ 20))) → (others < 2 ^ 40) × (suc (shifted (n % 2 ^ 20 - 1)) < 2 ^ 20) × (suc (shifted (n % 2 ^ 20 - 1)) + 2 ^ 20 * others ≡ packed (map shifted (unpacked most n)))
one_more most less n others m k h s e =
    let fs = unpacked less (n / 2 ^ 20) in
    let w = next most less n m h in
    let l : length (map shifted fs) ≤ 2 = omega (arith, length-shifted fs, length-unpacked less (n / 2 ^ 20), m, k) in
    let b = both (shifted (n % 2 ^ 20 - 1)) (map shifted fs) l (small-shifted ((n % 2 ^ 20 - 1) ∷ fs) (sym (ap are_small w) ∙ s)) in
    (omega (arith, b.0, e), b.1, ap (λ z. suc (shifted (n % 2 ^ 20 - 1)) + 2 ^ 20 * z) e ∙ sym (ap (λ ns. packed (map shifted ns)) w))

-- symbols of the launch and of the first item

Plain : ℕ → Type 0
Plain n = n % 16 < 9

own_factors : (fs : List ℕ) → are_own_factors fs ≡ true → All Plain fs
unfolding Plain
own_factors [] h = All-nil Plain
own_factors (n ∷ ns) h = (let t = and_parts (nat_lt (n % 16) 9) (are_own_factors ns) h in All-cons Plain n ns (below (n % 16) 9 t.0) (own_factors ns t.1))

shift : (n : ℕ) → n % 16 < 9 → shifted n ≡ n + 6 * ((n % 16 + 13) / 16)
shift n h = elim (cases_lt (n % 16) 3) [
  | inl l ↦ rw (lt-ltb (n % 16) 3 l) (omega (arith, l))
  | inr l ↦ rw (le-ltb (n % 16) 3 l, lt-ltb (n % 16) 9 h) (omega (arith, l, h))
]

rises : (m n : ℕ) → Plain m → Plain n → m < n → shifted m < shifted n
unfolding Plain
rises m n p q h = (let a = shift m p in let b = shift n q in omega (arith, a, b, p, q, h))

-- what an own symbol is: plain, or a product of plain ones

record IsProduct (n : ℕ) : Type 0 where
  number : n ≡ product_number (factors n)
  small : are_small (factors n) ≡ true
  plain : All Plain (factors n)

is_plain : (n : ℕ) → n % 16 ≢ 15 → is_own_symbol n ≡ true → n % 16 < 9
is_plain n e h =
    let t = and_parts (are_own_factors (factors n)) (is_whole n) h in
    let u : are_own_factors (n ∷ []) ≡ true = sym (ap are_own_factors (factors-alone n e)) ∙ t.0 in
    below (n % 16) 9 (and_parts (nat_lt (n % 16) 9) true u).0

is_product : (n : ℕ) → n % 16 ≡ 15 → is_own_symbol n ≡ true → IsProduct n
is_product n e h =
    let b : nat_eq (n % 16) 15 ≡ true = grind (arith, nat_tests) in
    let t = and_parts (are_own_factors (factors n)) (is_whole n) h in
    let w = and_parts (are_small (factors n)) (nat_eq (product_number (factors n)) n) (sym (ap (λ c. cond c (are_small (factors n) && nat_eq (product_number (factors n)) n) true) b) ∙ t.1) in
    let s : product_number (factors n) ≡ n = (let x = w.1 in grind (arith, nat_tests)) in
    record { number = sym s; small = w.0; plain = own_factors (factors n) t.0 }

second-plain : (n : ℕ) → n % 16 < 9 → second n ≡ shifted n
second-plain n h = (let b : nat_eq (n % 16) 15 ≡ false = grind (arith, nat_tests) in ap (λ c. cond c (product_number (map shifted (factors n))) (shifted n)) b)

second-product : (n : ℕ) → n % 16 ≡ 15 → second n ≡ product_number (map shifted (factors n))
second-product n h = (let b : nat_eq (n % 16) 15 ≡ true = grind (arith, nat_tests) in ap (λ c. cond c (product_number (map shifted (factors n))) (shifted n)) b)

products_differ : (m n : ℕ) → IsProduct m → IsProduct n → m < n → product_number (map shifted (factors m)) ≢ product_number (map shifted (factors n))
products_differ m n p q h e =
    let l : packed (factors m) < packed (factors n) = (let x = p.number in let y = q.number in omega (arith, h, x, y)) in
    let k = packed-rises Plain shifted is_relabelling rises (factors m) (factors n) p.small q.small p.plain q.plain l in
    omega (arith, k, e)

-- the copies of two of them differ
differ : (m n : ℕ) → is_own_symbol m ≡ true → is_own_symbol n ≡ true → m < n → second m ≢ second n
differ m n p q h e = by (nat_eq (m % 16) 15) (nat_eq (n % 16) 15) refl refl
  where
    by : (a b : Bool) → nat_eq (m % 16) 15 ≡ a → nat_eq (n % 16) 15 ≡ b → ⊥
    by true true a b =
        let i : m % 16 ≡ 15 = grind (arith, nat_tests) in
        let j : n % 16 ≡ 15 = grind (arith, nat_tests) in
        products_differ m n (is_product m i p) (is_product n j q) h (sym (second-product m i) ∙ e ∙ second-product n j)
    by true false a b =
        let i : m % 16 ≡ 15 = grind (arith, nat_tests) in
        let j : n % 16 ≢ 15 = grind (arith, nat_tests) in
        let l = is_plain n j q in
        let x = sym (second-product m i) ∙ e ∙ second-plain n l ∙ shift n l in
        omega (arith, x, l)
    by false true a b =
        let i : m % 16 ≢ 15 = grind (arith, nat_tests) in
        let j : n % 16 ≡ 15 = grind (arith, nat_tests) in
        let l = is_plain m i p in
        let x = sym (second-product n j) ∙ sym e ∙ second-plain m l ∙ shift m l in
        omega (arith, x, l)
    by false false a b =
        let i : m % 16 ≢ 15 = grind (arith, nat_tests) in
        let j : n % 16 ≢ 15 = grind (arith, nat_tests) in
        let k = is_plain m i p in
        let l = is_plain n j q in
        let x = sym (second-plain m k ∙ shift m k) ∙ e ∙ second-plain n l ∙ shift n l in
        omega (arith, x, k, l, h)

pub copies_differ : (m n : ℕ) → is_own_symbol m ≡ true → is_own_symbol n ≡ true → m < n → nat_eq (second m) (second n) ≡ false
copies_differ m n p q h = (let d = differ m n p q h in grind (arith, nat_tests))

-- its factors are small where it is a product
pub product_small : (n : ℕ) → n % 16 ≡ 15 → is_own_symbol n ≡ true → are_small (unpacked 3 (n / 16)) ≡ true
product_small n e h =
    let b : nat_eq (n % 16) 15 ≡ true = grind (arith, nat_tests) in
    sym (ap are_small (ap (λ c. cond c (unpacked 3 (n / 16)) (n ∷ [])) b)) ∙ (is_product n e h).small

pub second_product : (n : ℕ) → n % 16 ≡ 15 → second n ≡ 15 + 16 * packed (map shifted (unpacked 3 (n / 16)))
second_product n e =
    let b : nat_eq (n % 16) 15 ≡ true = grind (arith, nat_tests) in
    second-product n e ∙ ap (λ c. product_number (map shifted (cond c (unpacked 3 (n / 16)) (n ∷ [])))) b
