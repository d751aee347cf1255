-- Products with numbers of 2^63 and more, and differences.
use Rattle.std.proofs.Common.{◌≡◌, ◌≢◌, ◌⊎◌, inl, inr, ℕ, zero, suc, ◌+◌, ◌*◌, ◌^◌, ◌<◌, ◌≤◌, Bool, true, false, not, ◌&&◌, List, [], ◌∷◌, arith, refl, sym, ap, subst, ◌∙◌}
use Rattle.std.specs.Prelude.{ℤ, pos, negsuc, ◌≤ℤ◌, ◌+ℤ◌, ◌*ℤ◌, unsigned_abs, nat_le}
use Rattle.std.specs.Ordering.{int_eq}
use Rattle.std.proofs.lemmas.Int.{ints, unsigned_abs-mul}
use Rattle.std.proofs.lemmas.Bool.Decides.{nat_tests}
use Rattle.linear.specs.Linear.{Weighted, Form}
use Rattle.linear.specs.Exact.{Terms, fits_i64, fits_terms, fits, is_rising, put, merge, multiples, multiple, sum}
use Rattle.linear.specs.Terms.{terms}
use Rattle.linear.specs.declared.term.Term as code
use Rattle.facts.specs.Symbols.{Fact, constant, minus}
use Rattle.facts.specs.Refusals.{IsUnfit}
use Rattle.facts.specs.declared.error.WalkError.{WalkError}
use Rattle.facts.specs.declared.error.WalkError.TheVariants as errors

small : (z : ℤ) → fits_i64 z ≡ true → unsigned_abs z ≤ 2 ^ 63
small (pos n) h = grind (arith, nat_tests)
small (negsuc n) h = grind (arith, nat_tests)

large : (z : ℤ) → fits_i64 z ≡ false → 2 ^ 63 ≤ unsigned_abs z
large (pos n) h = grind (arith, nat_tests)
large (negsuc n) h = grind (arith, nat_tests)

too_large : (z : ℤ) → 2 ^ 63 < unsigned_abs z → fits_i64 z ≡ false
too_large z l = by (fits_i64 z) refl
  where
    by : (b : Bool) → fits_i64 z ≡ b → fits_i64 z ≡ false
    by true e = absurd (omega (arith, l, small z e))
    by false e = e

-- an i64, and what is none
range : (z : ℤ) → fits_i64 z ≡ true → (negsuc 9223372036854775807 ≤ℤ z) × (z ≤ℤ pos 9223372036854775807)
range (pos n) h = let l : n < 2 ^ 63 = grind (arith, nat_tests) in (omega (arith, ints), omega (arith, ints, l))
range (negsuc n) h = let l : n < 2 ^ 63 = grind (arith, nat_tests) in (omega (arith, ints, l), omega (arith, ints))

outside : (z : ℤ) → fits_i64 z ≡ false → (z ≤ℤ negsuc 9223372036854775808) ⊎ (pos 9223372036854775808 ≤ℤ z)
outside (pos n) h = let l : 2 ^ 63 ≤ n = grind (arith, nat_tests) in inr (omega (arith, ints, l))
outside (negsuc n) h = let l : 2 ^ 63 ≤ n = grind (arith, nat_tests) in inl (omega (arith, ints, l))

positive : (c : ℤ) → c ≢ pos 0 → 1 ≤ unsigned_abs c
positive (pos zero) h = absurd (h refl)
positive (pos (suc n)) h = omega arith
positive (negsuc n) h = omega arith

no_less : (n m : ℕ) → 1 ≤ m → n ≤ n * m
no_less n m l = grind arith

product_too_large : (n : ℕ) (c : ℤ) → 2 ^ 63 < n → c ≢ pos 0 → fits_i64 (pos n *ℤ c) ≡ false
product_too_large n c l h = too_large (pos n *ℤ c) (omega (arith, unsigned_abs-mul (pos n) c, no_less n (unsigned_abs c) (positive c h), l))

double_too_large : (c : ℤ) → fits_i64 (pos (2 ^ 62) *ℤ c) ≡ false → fits_i64 (pos (2 ^ 63) *ℤ c) ≡ false
double_too_large c h = too_large (pos (2 ^ 63) *ℤ c) (omega (arith, unsigned_abs-mul (pos (2 ^ 63)) c, unsigned_abs-mul (pos (2 ^ 62)) c, large (pos (2 ^ 62) *ℤ c) h))

-- a term, or none
fits_put : (z : ℤ) (s : ℕ) (ts : Terms) → fits_terms (put z s ts) ≡ (fits_i64 z && fits_terms ts)
fits_put (pos zero) s ts = refl
fits_put (pos (suc n)) s ts = refl
fits_put (negsuc n) s ts = refl

one_of : (a b c d : Bool) → (a ≡ false → c ≡ false) → (b ≡ false → d ≡ false) → (a && b) ≡ false → (c && d) ≡ false
one_of true b c d f g h = second c (g h)
  where
    second : (x : Bool) → d ≡ false → (x && d) ≡ false
    second true e = e
    second false e = refl
one_of false b c d f g h = ap (λ x. x && d) (f refl)

unfit_terms : (ts : Terms) → fits_terms (multiples (pos (2 ^ 62)) ts) ≡ false → fits_terms (multiples (pos (2 ^ 63)) ts) ≡ false
unfit_terms [] h = h
unfit_terms (t ∷ ts) h =
    fits_put (pos (2 ^ 63) *ℤ t.coefficient) t.symbol (multiples (pos (2 ^ 63)) ts)
    ∙ one_of (fits_i64 (pos (2 ^ 62) *ℤ t.coefficient)) (fits_terms (multiples (pos (2 ^ 62)) ts)) (fits_i64 (pos (2 ^ 63) *ℤ t.coefficient)) (fits_terms (multiples (pos (2 ^ 63)) ts)) (double_too_large t.coefficient) (unfit_terms ts)
    (sym (fits_put (pos (2 ^ 62) *ℤ t.coefficient) t.symbol (multiples (pos (2 ^ 62)) ts)) ∙ h)

-- what is too large with half of the number is so with the number
pub half_unfit : (f : Form ℕ) → fits (multiple (pos (2 ^ 62)) f) ≡ false → fits (multiple (pos (2 ^ 63)) f) ≡ false
half_unfit f h = one_of (fits_i64 (pos (2 ^ 62) *ℤ f.constant)) (fits_terms (multiples (pos (2 ^ 62)) f.terms)) (fits_i64 (pos (2 ^ 63) *ℤ f.constant)) (fits_terms (multiples (pos (2 ^ 63)) f.terms)) (double_too_large f.constant) (unfit_terms f.terms) h

no_product : (k : ℤ) → k *ℤ pos 0 ≡ pos 0
no_product k = omega (arith, ints)

of_put : (k z : ℤ) (s : ℕ) (ts : Terms) → multiples k (put z s ts) ≡ put (k *ℤ z) s (multiples k ts)
of_put k (pos zero) s ts = ap (λ y. put y s (multiples k ts)) (sym (no_product k))
of_put k (pos (suc n)) s ts = refl
of_put k (negsuc n) s ts = refl

half_twice : (c : ℤ) → pos 2 *ℤ (pos (2 ^ 62) *ℤ c) ≡ pos (2 ^ 63) *ℤ c
half_twice c = omega (arith, ints)

terms_twice : (ts : Terms) → multiples (pos 2) (multiples (pos (2 ^ 62)) ts) ≡ multiples (pos (2 ^ 63)) ts
terms_twice [] = refl
terms_twice (t ∷ ts) =
    of_put (pos 2) (pos (2 ^ 62) *ℤ t.coefficient) t.symbol (multiples (pos (2 ^ 62)) ts)
    ∙ (λ i. put (half_twice t.coefficient i) t.symbol (terms_twice ts i))

pub twice_half : (f : Form ℕ) → multiple (pos 2) (multiple (pos (2 ^ 62)) f) ≡ multiple (pos (2 ^ 63)) f
twice_half f = λ i. record { terms = terms_twice f.terms i; constant = half_twice f.constant i }

-- of nothing there is nothing
pub times_nothing : (n : ℕ) (f : Form ℕ) → f.terms ≡ [] → f.constant ≡ pos 0 → constant (pos 0) ≡ multiple (pos n) f
times_nothing n f e z = λ i. record { terms = multiples (pos n) (sym e i); constant = (sym (no_product (pos n)) ∙ ap (λ c. pos n *ℤ c) (sym z)) i }

first_some : (t : Weighted ℕ) (ts : Terms) → is_rising 0 (t ∷ ts) ≡ true → t.coefficient ≢ pos 0
first_some t ts r e = by (nat_le 0 t.symbol) (is_rising (suc t.symbol) ts) (sym (ap (λ c. nat_le 0 t.symbol && (not (int_eq c (pos 0)) && is_rising (suc t.symbol) ts)) e) ∙ r)
  where
    by : (a b : Bool) → (a && (false && b)) ≡ true → ⊥
    by true b h = cc
    by false b h = cc

-- a number above 2^63 is too large for all else
pub more_unfit : (n : ℕ) (f : Form ℕ) → 2 ^ 63 < n → is_rising 0 f.terms ≡ true → (f.terms ≡ [] → f.constant ≡ pos 0 → ⊥) → fits (multiple (pos n) f) ≡ false
more_unfit n f l r some = by f.terms refl
  where
    second : (x y : Bool) → y ≡ false → (x && y) ≡ false
    second true y e = e
    second false y e = refl

    by : (ts : Terms) → f.terms ≡ ts → fits (multiple (pos n) f) ≡ false
    by [] e = ap (λ b. b && fits_terms (multiples (pos n) f.terms)) (product_too_large n f.constant l (some e))
    by (t ∷ ts) e =
        second (fits_i64 (pos n *ℤ f.constant)) (fits_terms (multiples (pos n) f.terms))
        (ap (λ us. fits_terms (multiples (pos n) us)) e
        ∙ fits_put (pos n *ℤ t.coefficient) t.symbol (multiples (pos n) ts)
        ∙ ap (λ b. b && fits_terms (multiples (pos n) ts)) (product_too_large n t.coefficient l (first_some t ts (subst (λ us. is_rising 0 us ≡ true) e r))))

pub unfit_by : (e : WalkError) (f g : Fact) → (fits f ≡ false → fits g ≡ false) → IsUnfit e f → IsUnfit e g
unfit_by errors.TooMany f g go h = h
unfit_by errors.TooLarge f g go h = go h
unfit_by errors.Memory f g go h = tt

pub no_terms : (ts : List code.Term) → terms ts ≡ [] → ts ≡ []
no_terms [] e = refl
no_terms (t ∷ ts) e = absurd cc

of_nothing : (ts : Terms) → merge ts [] ≡ ts
of_nothing [] = refl
of_nothing (t ∷ ts) = ap (λ us. t ∷ us) (of_nothing ts)

two_steps : (c : ℤ) (n : ℕ) → (c +ℤ negsuc 0 *ℤ pos n) +ℤ negsuc 9223372036854775807 ≡ c +ℤ negsuc 0 *ℤ pos (n + 9223372036854775808)
two_steps c n = omega (arith, ints)

-- a number less another one by two steps
pub less_by_two : (f : Fact) (n : ℕ) → sum (minus f (constant (pos n))) (constant (negsuc 9223372036854775807)) ≡ minus f (constant (pos (n + 9223372036854775808)))
less_by_two f n = λ i. record { terms = of_nothing (merge f.terms []) i; constant = two_steps f.constant n i }

below : (c : ℤ) (n : ℕ) → fits_i64 c ≡ true → fits_i64 (c +ℤ negsuc 0 *ℤ pos n) ≡ false → fits_i64 (c +ℤ negsuc 0 *ℤ pos (n + 9223372036854775808)) ≡ false
below c n h u = by (fits_i64 (c +ℤ negsuc 0 *ℤ pos (n + 9223372036854775808))) refl
  where
    by : (b : Bool) → fits_i64 (c +ℤ negsuc 0 *ℤ pos (n + 9223372036854775808)) ≡ b → fits_i64 (c +ℤ negsuc 0 *ℤ pos (n + 9223372036854775808)) ≡ false
    by true e = absurd (omega (arith, ints, range c h, outside (c +ℤ negsuc 0 *ℤ pos n) u, range (c +ℤ negsuc 0 *ℤ pos (n + 9223372036854775808)) e))
    by false e = e

-- what does not fit after the first step does not fit after both
pub unfit_by_two : (f : Fact) (n : ℕ) → fits_i64 f.constant ≡ true → fits (minus f (constant (pos n))) ≡ false → fits (minus f (constant (pos (n + 9223372036854775808)))) ≡ false
unfit_by_two f n c h = one_of (fits_i64 (f.constant +ℤ negsuc 0 *ℤ pos n)) (fits_terms (merge f.terms [])) (fits_i64 (f.constant +ℤ negsuc 0 *ℤ pos (n + 9223372036854775808))) (fits_terms (merge f.terms [])) (below f.constant n c) (λ e. e) h
