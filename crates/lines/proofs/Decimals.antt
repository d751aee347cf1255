-- A number is written as it is read, and read as it is written.
use Rattle.std.proofs.Common.{◌≡◌, ℕ, zero, suc, ◌+◌, ◌-◌, ◌*◌, ◌<◌, ◌^◌, true, false, not, nat_eq, nat_lt, ◌&&◌, List, [], ◌∷◌, length, get_or, drop, Ok, Err, refl, ap, sym, ◌∙◌, arith}
use Rattle.std.specs.Prelude.{ℤ, pos, negsuc, fold, codes, Result}
use Rattle.std.specs.List.{starts_with}
use Rattle.std.specs.Str.{all_ascii_digits}
use Rattle.std.specs.Fmt.{decimal, signed_decimal}
use Rattle.std.proofs.lemmas.Bool.{cond_both, cond-true}
use Rattle.std.proofs.lemmas.Bool.Decides.{nat_tests}
use Rattle.std.proofs.lemmas.Fmt.{decimal_digit, first_decimal, decimal_nonempty, digits_decimal, digits_value-decimal, decimal-digits_value}
use Rattle.std.proofs.lemmas.Str.Parse.{IsNumeralModel, numerals_by_fold, tells_all_ascii_digits}
use Rattle.lines.specs.Bytes.{is_well_spelt}
use Rattle.lines.specs.Lines.{NumberFault, NoDecimal, TooLarge, is_decimal, value_of, within, natural_of, negative_of, positive_of, integer_of}
use Rattle.lines.specs.Lines.{is_natural, is_integer}
use Rattle.lines.proofs.Fronts.{both, begins}

own : IsNumeralModel (λ ds. all_ascii_digits ds ≡ true) value_of
own = numerals_by_fold _ tells_all_ascii_digits (λ n ds. fold (λ n b. n * 10 + (b - 48)) n ds) (record { empty = λ _. refl; more = λ _ _ _ _. refl })

pub below_of : (n k : ℕ) → nat_lt n k ≡ true → n < k
below_of n k h = grind (arith, nat_tests)

pub below_test : (n k : ℕ) → n < k → nat_lt n k ≡ true
below_test n k h = grind (arith, nat_tests)

differs : (a b : ℕ) → not (nat_eq a b) ≡ true → a ≡ b → ⊥
differs a b h e = grind (arith, nat_tests)

above : (n : ℕ) → (n ≡ 0 → ⊥) → 0 < n
above zero h = absurd (h refl)
above (suc n) h = omega arith

has_digit : (ds : List ℕ) → is_well_spelt false ds ≡ true → 0 < length ds
has_digit [] h = absurd cc
has_digit (a ∷ ds) h = omega arith

lone_zero : (ds : List ℕ) → is_well_spelt false ds ≡ true → get_or ds 0 0 ≡ 48 → length ds ≡ 1
lone_zero [] h e = absurd cc
lone_zero (a ∷ []) h e = refl
lone_zero (a ∷ b ∷ ds) h e = absurd (differs a 48 h e)

-- digits that are well spelt are the text of what they stand for
pub spelt_back : (ds : List ℕ) → is_decimal ds ≡ true → value_of ds < 2 ^ 64 → decimal (value_of ds) ≡ ds
spelt_back ds h l =
    let p = both (all_ascii_digits ds) (is_well_spelt false ds) h in
    decimal-digits_value own ds p.0 (has_digit ds p.1) (lone_zero ds p.1) l

well_spelt : (ds : List ℕ) → 0 < length ds → 48 < get_or ds 0 0 → is_well_spelt false ds ≡ true
well_spelt [] h l = absurd (omega arith)
well_spelt (a ∷ []) h l = refl
well_spelt (a ∷ b ∷ ds) h l = grind (arith, nat_tests)

decimal_spelt : (n : ℕ) → n < 2 ^ 64 → is_well_spelt false (decimal n) ≡ true
decimal_spelt zero l = ap (is_well_spelt false) (decimal_digit 0 (omega arith))
decimal_spelt (suc n) l = well_spelt (decimal (suc n)) (decimal_nonempty (suc n) l) (first_decimal (suc n) (omega arith) l)

pub decimal_is_decimal : (n : ℕ) → n < 2 ^ 64 → is_decimal (decimal n) ≡ true
decimal_is_decimal n l = rw (digits_decimal own n l, decimal_spelt n l) refl

pub decimal_value : (n : ℕ) → n < 2 ^ 64 → value_of (decimal n) ≡ n
decimal_value n l = digits_value-decimal own n l

pub natural_back : (w : List ℕ) (n : ℕ) → natural_of w ≡ Ok n → (decimal n ≡ w) × (is_natural n ≡ true)
unfolding natural_of
natural_back w n =
    cond_both (is_decimal w) (within (2 ^ 63) (value_of w) (value_of w)) (Err NoDecimal) (λ r. r ≡ Ok n → (decimal n ≡ w) × (is_natural n ≡ true))
    (λ d. cond_both (nat_lt (value_of w) (2 ^ 63)) (Ok (value_of w)) (Err TooLarge) (λ r. r ≡ Ok n → (decimal n ≡ w) × (is_natural n ≡ true))
    (λ l e. let q : value_of w ≡ n = cc in (ap decimal (sym q) ∙ spelt_back w d (omega (arith, below_of (value_of w) (2 ^ 63) l)), ap is_natural (sym q) ∙ l))
    (λ l e. absurd cc))
    (λ d e. absurd cc)

pub natural_forth : (n : ℕ) → is_natural n ≡ true → natural_of (decimal n) ≡ Ok n
unfolding natural_of
natural_forth n h =
    let l : n < 2 ^ 64 = omega (arith, below_of n (2 ^ 63) h) in
    rw (decimal_is_decimal n l, decimal_value n l, h) refl

negative_back : (ds : List ℕ) (z : ℤ) → negative_of ds ≡ Ok z → (signed_decimal z ≡ 45 ∷ ds) × (is_integer z ≡ true)
negative_back ds z =
    let v : ℕ = value_of ds in
    let P : Result ℤ NumberFault → Type 0 = λ r. r ≡ Ok z → (signed_decimal z ≡ 45 ∷ ds) × (is_integer z ≡ true) in
    cond_both (is_decimal ds && not (nat_eq v 0)) (within (2 ^ 63 + 1) v (negsuc (v - 1))) (Err NoDecimal) P
    (λ d. let p = both (is_decimal ds) (not (nat_eq v 0)) d in
    cond_both (nat_lt v (2 ^ 63 + 1)) (Ok (negsuc (v - 1))) (Err TooLarge) P
    (λ l e.
    let q : negsuc (v - 1) ≡ z = cc in
    let small : v < 2 ^ 63 + 1 = below_of v (2 ^ 63 + 1) l in
    let some : 0 < v = above v (differs v 0 p.1) in
    let next : suc (v - 1) ≡ v = omega arith in
    (ap signed_decimal (sym q) ∙ ap (λ n. 45 ∷ decimal n) next ∙ ap (λ t. 45 ∷ t) (spelt_back ds p.0 (omega arith)), ap is_integer (sym q) ∙ below_test (v - 1) (2 ^ 63) (omega arith)))
    (λ l e. absurd cc))
    (λ d e. absurd cc)

positive_back : (w : List ℕ) (z : ℤ) (r : Result ℕ NumberFault) → natural_of w ≡ r → positive_of r ≡ Ok z → (signed_decimal z ≡ w) × (is_integer z ≡ true)
positive_back w z (Ok n) e p =
    let q : pos n ≡ z = cc in
    let b = natural_back w n e in
    (ap signed_decimal (sym q) ∙ b.0, ap is_integer (sym q) ∙ b.1)
positive_back w z (Err fault) e p = absurd cc

pub integer_back : (w : List ℕ) (z : ℤ) → integer_of w ≡ Ok z → (signed_decimal z ≡ w) × (is_integer z ≡ true)
unfolding integer_of
integer_back w z =
    cond_both (starts_with nat_eq w (codes "-")) (negative_of (drop 1 w)) (positive_of (natural_of w)) (λ r. r ≡ Ok z → (signed_decimal z ≡ w) × (is_integer z ≡ true))
    (λ b e. let h = negative_back (drop 1 w) z e in (h.0 ∙ sym (begins w (codes "-") b), h.1))
    (λ b e. positive_back w z (natural_of w) refl e)

no_sign : (ds : List ℕ) → all_ascii_digits ds ≡ true → starts_with nat_eq ds (codes "-") ≡ false
no_sign [] h = refl
no_sign (a ∷ ds) h = grind (arith, nat_tests)

nonzero : (n : ℕ) → not (nat_eq (suc n) 0) ≡ true
nonzero n = grind (arith, nat_tests)

negative_forth : (n : ℕ) → n < 2 ^ 63 → negative_of (decimal (suc n)) ≡ Ok (negsuc n)
negative_forth n h =
    let ds : List ℕ = decimal (suc n) in
    let l : suc n < 2 ^ 64 = omega arith in
    let v = decimal_value (suc n) l in
    let spelt : (is_decimal ds && not (nat_eq (value_of ds) 0)) ≡ true = ap (λ b. b && not (nat_eq (value_of ds) 0)) (decimal_is_decimal (suc n) l) ∙ ap (λ m. not (nat_eq m 0)) v ∙ nonzero n in
    let small : nat_lt (value_of ds) (2 ^ 63 + 1) ≡ true = ap (λ m. nat_lt m (2 ^ 63 + 1)) v ∙ below_test (suc n) (2 ^ 63 + 1) (omega arith) in
    cond-true (is_decimal ds && not (nat_eq (value_of ds) 0)) _ _ spelt ∙ cond-true (nat_lt (value_of ds) (2 ^ 63 + 1)) _ _ small
    ∙ ap (λ m. Ok (negsuc (m - 1))) v ∙ ap (λ m. Ok (negsuc m)) (omega arith)

pub integer_forth : (z : ℤ) → is_integer z ≡ true → integer_of (signed_decimal z) ≡ Ok z
unfolding integer_of
integer_forth (pos n) h =
    let l : n < 2 ^ 64 = omega (arith, below_of n (2 ^ 63) h) in
    rw (no_sign (decimal n) (digits_decimal own n l), natural_forth n h) refl
integer_forth (negsuc n) h = negative_forth n (below_of n (2 ^ 63) h)

pub digits_of_decimal : (n : ℕ) → n < 2 ^ 64 → all_ascii_digits (decimal n) ≡ true
digits_of_decimal n l = digits_decimal own n l
