-- Forms that are not of `i64`, and those that then are not either.
use Rattle.std.proofs.Common.{◌≡◌, ◌≤◌, ◌<◌, ◌^◌, ◌-◌, Bool, true, false, ◌&&◌, refl, sym, ap, ◌∙◌, ◌⊎◌, inl, inr, arith}
use Rattle.std.specs.Prelude.{ℤ, pos, negsuc, int_lt, nat_lt, ◌+ℤ◌, ◌*ℤ◌, ◌≤ℤ◌, ◌<ℤ◌}
use Rattle.std.proofs.lemmas.Int.{ints}
use Rattle.std.proofs.lemmas.Bool.Decides.{nat_tests}
use Rattle.semantics.specs.Word.{Kind, Int, Uint, Size}
use Rattle.linear.specs.Exact.{Terms, fits_i64, fits_terms, fits, merge, multiples}
use Rattle.linear.proofs.Lists.{merge-none}
use Rattle.facts.specs.Symbols.{Fact, constant, minus}
use Rattle.facts.specs.Refusals.{IsUnfit}
use Rattle.facts.specs.declared.error.WalkError.{WalkError}
use Rattle.facts.specs.declared.error.WalkError.TheVariants as errors
use Rattle.facts.proofs.Tests.{and_left, and_right}
use Rattle.walk_trees.specs.Walks.{low_end, high_end, least, greatest}
use Rattle.walk_trees.specs.Tests.{below}

-- numbers past the ends of i64
above_unfit : (z : ℤ) → pos (2 ^ 63) ≤ℤ z → fits_i64 z ≡ false
above_unfit (pos n) h = let l : 2 ^ 63 ≤ n = omega (arith, ints) in grind (arith, nat_tests)
above_unfit (negsuc n) h = absurd (omega (arith, ints))

below_unfit : (z : ℤ) → z <ℤ negsuc (2 ^ 63 - 1) → fits_i64 z ≡ false
below_unfit (pos n) h = absurd (omega (arith, ints))
below_unfit (negsuc n) h = let l : 2 ^ 63 ≤ n = omega (arith, ints) in grind (arith, nat_tests)

past_ends : (z : ℤ) → fits_i64 z ≡ false → (pos (2 ^ 63) ≤ℤ z) ⊎ (z <ℤ negsuc (2 ^ 63 - 1))
past_ends (pos n) h = let l : 2 ^ 63 ≤ n = grind (arith, nat_tests) in inl (omega (arith, ints))
past_ends (negsuc n) h = let l : 2 ^ 63 ≤ n = grind (arith, nat_tests) in inr (omega (arith, ints))

record IsI64 (z : ℤ) : Type 0 where
  low : negsuc (2 ^ 63 - 1) ≤ℤ z
  high : z <ℤ pos (2 ^ 63)

ends_of : (z : ℤ) → fits_i64 z ≡ true → IsI64 z
ends_of (pos n) h = let l : n < 2 ^ 63 = grind (arith, nat_tests) in record { low = omega (arith, ints); high = omega (arith, ints) }
ends_of (negsuc n) h = let l : n < 2 ^ 63 = grind (arith, nat_tests) in record { low = omega (arith, ints); high = omega (arith, ints) }

inside : (z : ℤ) → negsuc (2 ^ 63 - 1) ≤ℤ z → z <ℤ pos (2 ^ 63) → fits_i64 z ≡ true
inside (pos n) l h = let k : n < 2 ^ 63 = omega (arith, ints) in grind (arith, nat_tests)
inside (negsuc n) l h = let k : n < 2 ^ 63 = omega (arith, ints) in grind (arith, nat_tests)

least_below : (k : Kind) → least k ≤ℤ pos 0
least_below Int = omega (arith, ints)
least_below Uint = omega (arith, ints)
least_below Size = omega (arith, ints)

greatest_above : (k : Kind) → pos 0 ≤ℤ greatest k
greatest_above Int = omega (arith, ints)
greatest_above Uint = omega (arith, ints)
greatest_above Size = omega (arith, ints)

-- past an end, an end of the kind's range is as well
ends_past : (k : Kind) (f : Fact) → (pos (2 ^ 63) ≤ℤ f.constant) ⊎ (f.constant <ℤ negsuc (2 ^ 63 - 1)) → (fits (low_end k f) ≡ false) ⊎ (fits (high_end k f) ≡ false)
ends_past k f (inl h) = inl (and_left _ _ (above_unfit (f.constant +ℤ negsuc 0 *ℤ least k) (omega (arith, ints, least_below k))))
ends_past k f (inr h) = inr (and_left _ _ (above_unfit (greatest k +ℤ negsuc 0 *ℤ f.constant) (omega (arith, ints, greatest_above k))))

pub ends_unfit : (k : Kind) (f : Fact) (a b : Bool) → a ≡ fits_i64 f.constant → b ≡ fits_terms f.terms → (a && b) ≡ false → (fits (low_end k f) ≡ false) ⊎ (fits (high_end k f) ≡ false)
ends_unfit k f true b d p h = inl (and_right (fits_i64 (f.constant +ℤ negsuc 0 *ℤ least k)) _ (ap fits_terms (merge-none f.terms) ∙ sym p ∙ h))
ends_unfit k f false b d p h = ends_past k f (past_ends f.constant (sym d))

and_true : (a b : Bool) → (a && b) ≡ true → (a ≡ true) × (b ≡ true)
and_true true b h = (refl, h)
and_true false b h = absurd cc

not_negative : (z : ℤ) → fits_i64 z ≡ true → (fits_i64 z && int_lt z (pos 0)) ≡ false → pos 0 ≤ℤ z
not_negative (pos n) h k = omega (arith, ints)
not_negative (negsuc n) h k = absurd (cc (ap (λ b. b && int_lt (negsuc n) (pos 0)) h, k))

negative : (z : ℤ) → (fits_i64 z && int_lt z (pos 0)) ≡ true → z <ℤ pos 0
negative (pos n) k =
    let e : nat_lt n 0 ≡ true = (and_true (fits_i64 (pos n)) (int_lt (pos n) (pos 0)) k).1 in
    let l : n < 0 = grind (arith, nat_tests) in
    absurd (omega (arith, l))
negative (negsuc n) k = omega (arith, ints)

-- y - x - 1, the 1 first
pub below_other : (x y : Fact) → minus (minus y (constant (pos 1))) x ≡ below x y
below_other x y =
    let t = ap (λ l. merge l (multiples (negsuc 0) x.terms)) (merge-none y.terms) ∙ sym (merge-none (merge y.terms (multiples (negsuc 0) x.terms))) in
    let c : (y.constant +ℤ negsuc 0 *ℤ pos 1) +ℤ negsuc 0 *ℤ x.constant ≡ (y.constant +ℤ negsuc 0 *ℤ x.constant) +ℤ negsuc 0 *ℤ pos 1 = omega (arith, ints) in
    λ i. record { terms = t i; constant = c i }

both : (a b : Bool) → a ≡ true → b ≡ true → (a && b) ≡ true
both true b p q = q
both false b p q = absurd cc

pub most_fits : (y : Fact) → fits y ≡ true → pos 0 ≤ℤ y.constant → fits (minus y (constant (pos 1))) ≡ true
most_fits y h l =
    let p = and_true (fits_i64 y.constant) (fits_terms y.terms) h in
    let e = ends_of y.constant p.0 in
    both _ _ (inside (y.constant +ℤ negsuc 0 *ℤ pos 1) (omega (arith, ints, l)) (omega (arith, ints, e.high))) (ap fits_terms (merge-none y.terms) ∙ p.1)

pub below_too : (x y : Fact) → fits x ≡ true → y.constant <ℤ pos 0 → fits (minus y x) ≡ false → fits (below x y) ≡ false
below_too x y h l u = by (fits_i64 (y.constant +ℤ negsuc 0 *ℤ x.constant)) refl
  where
    rest : Terms
    rest = merge y.terms (multiples (negsuc 0) x.terms)

    by : (a : Bool) → a ≡ fits_i64 (y.constant +ℤ negsuc 0 *ℤ x.constant) → fits (below x y) ≡ false
    by true e = and_right (fits_i64 ((y.constant +ℤ negsuc 0 *ℤ x.constant) +ℤ negsuc 0 *ℤ pos 1)) _ (ap fits_terms (merge-none (merge y.terms (multiples (negsuc 0) x.terms))) ∙ ap (λ b. b && fits_terms (merge y.terms (multiples (negsuc 0) x.terms))) e ∙ u)
    by false e = low (past_ends _ (sym e))
      where
        low : (pos (2 ^ 63) ≤ℤ (y.constant +ℤ negsuc 0 *ℤ x.constant)) ⊎ ((y.constant +ℤ negsuc 0 *ℤ x.constant) <ℤ negsuc (2 ^ 63 - 1)) → fits (below x y) ≡ false
        low (inl k) = let z = ends_of x.constant (and_true (fits_i64 x.constant) (fits_terms x.terms) h).0 in absurd (omega (arith, ints, k, l, z.low))
        low (inr k) = and_left _ _ (below_unfit ((y.constant +ℤ negsuc 0 *ℤ x.constant) +ℤ negsuc 0 *ℤ pos 1) (omega (arith, ints, k)))

-- an error of a form that fits says only that there was no memory
any_unfit : (e : WalkError) (f g : Fact) → fits f ≡ true → IsUnfit e f → IsUnfit e g
any_unfit errors.TooMany f g h u = u
any_unfit errors.TooLarge f g h u = absurd (cc (h, u))
any_unfit errors.Memory f g h u = u

pub most_error : (e : WalkError) (n : ℤ) (b : Bool) (x y : Fact) → n ≡ y.constant → b ≡ (fits_i64 n && int_lt n (pos 0)) → b ≡ false → fits y ≡ true → IsUnfit e (minus y (constant (pos 1))) → IsUnfit e (below x y)
most_error e n b x y d p q h u =
    let z = ap (λ m. fits_i64 m && int_lt m (pos 0)) (sym d) ∙ sym p ∙ q in
    any_unfit e (minus y (constant (pos 1))) (below x y) (most_fits y h (not_negative y.constant (and_true (fits_i64 y.constant) (fits_terms y.terms) h).0 z)) u

pub below_error : (e : WalkError) (n : ℤ) (b : Bool) (x y : Fact) → n ≡ y.constant → b ≡ (fits_i64 n && int_lt n (pos 0)) → b ≡ true → fits x ≡ true → IsUnfit e (minus y x) → IsUnfit e (below x y)
below_error errors.TooMany n b x y d p q h u = u
below_error errors.TooLarge n b x y d p q h u = below_too x y h (negative y.constant (ap (λ m. fits_i64 m && int_lt m (pos 0)) (sym d) ∙ sym p ∙ q)) u
below_error errors.Memory n b x y d p q h u = u
