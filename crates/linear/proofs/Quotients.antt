-- What divided terms are worth, and that they rise.
use Rattle.std.proofs.Common.{◌≡◌, ◌≢◌, ℕ, suc, ◌+◌, ◌*◌, ◌-◌, ◌/◌, ◌%◌, ◌<◌, Bool, true, false, ◌&&◌, [], ◌∷◌, arith, refl, ap, subst, ◌∙◌}
use Rattle.std.specs.Prelude.{ℤ, pos, negsuc, ◌+ℤ◌, ◌*ℤ◌, ◌<ℤ◌, ◌≤ℤ◌}
use Rattle.std.specs.Int.{int_div_euclid, int_rem_euclid}
use Rattle.std.proofs.lemmas.Int.{ints}
use Rattle.std.proofs.lemmas.Bool.Decides.{Decides-int_eq}
use Rattle.linear.specs.Linear.{Form, terms_value, IsMet}
use Rattle.semantics.proofs.Integers.{mul-add, mul_assoc, divided}
use Rattle.linear.specs.Exact.{Terms, divides, all_divide, quotients, quotient}
use Rattle.linear.proofs.Merging.{IsRising}

both : (a b : Bool) → (a && b) ≡ true → (a ≡ true) × (b ≡ true)
both true b h = (refl, h)
both false b h = absurd cc

exact : (d : ℕ) (c : ℤ) → 0 < d → int_rem_euclid c (pos d) ≡ pos 0 → c ≡ pos d *ℤ int_div_euclid c (pos d)
exact d (pos n) hd h =
    let r : n % d ≡ 0 = omega (arith, ints, h) in
    omega (arith, ints)
exact d (negsuc n) hd h =
    let r : d - 1 - n % d ≡ 0 = omega (arith, ints, h) in
    let s : n % d < d = omega arith in
    let q : d * (n / d) + n % d ≡ n = omega arith in
    omega (arith, ints)

pub divides_exact : (d : ℕ) (c : ℤ) → 0 < d → divides (pos d) c ≡ true → c ≡ pos d *ℤ int_div_euclid c (pos d)
divides_exact d c hd h = exact d c hd ((Decides-int_eq (int_rem_euclid c (pos d)) (pos 0)).0 h)

scaled : (d q w t m c : ℤ) → c ≡ d *ℤ q → t ≡ d *ℤ m → c *ℤ w +ℤ t ≡ d *ℤ (q *ℤ w +ℤ m)
scaled d q w t m c e h = ap (λ n. n *ℤ w +ℤ t) e ∙ omega (arith, ints, h, mul_assoc d q w, mul-add d (q *ℤ w) m)

pub value-quotients : (v : ℕ → ℤ) (d : ℕ) (ts : Terms) → 0 < d → all_divide (pos d) ts ≡ true → terms_value v ts ≡ pos d *ℤ terms_value v (quotients (pos d) ts)
value-quotients v d [] hd h = omega (arith, ints)
value-quotients v d (t ∷ ts) hd h =
    let p = both (divides (pos d) t.coefficient) (all_divide (pos d) ts) h in
    scaled (pos d) (int_div_euclid t.coefficient (pos d)) (v t.symbol) (terms_value v ts) (terms_value v (quotients (pos d) ts)) t.coefficient (divides_exact d t.coefficient hd p.0) (value-quotients v d ts hd p.1)

met_divided : (v : ℕ → ℤ) (d : ℕ) (f : Form ℕ) → 0 < d → all_divide (pos d) f.terms ≡ true → IsMet v f → IsMet v (quotient (pos d) f)
met_divided v d f hd h m = divided d (terms_value v (quotients (pos d) f.terms)) f.constant hd (subst (λ z. pos 0 ≤ℤ (z +ℤ f.constant)) (value-quotients v d f.terms hd h) m)

-- a fact divided is a fact
pub met-quotient : (v : ℕ → ℤ) (d : ℤ) (f : Form ℕ) → pos 0 <ℤ d → all_divide d f.terms ≡ true → IsMet v f → IsMet v (quotient d f)
met-quotient v (pos d) f hd h m = met_divided v d f (omega (arith, ints)) h m
met-quotient v (negsuc d) f hd h m = absurd (omega (arith, ints))

not_zero : (d c q : ℤ) → c ≡ d *ℤ q → c ≢ pos 0 → q ≢ pos 0
not_zero d c q e h z = h (e ∙ ap (λ n. d *ℤ n) z ∙ omega (arith, ints))

rising_divided : (n d : ℕ) (ts : Terms) → 0 < d → all_divide (pos d) ts ≡ true → IsRising n ts → IsRising n (quotients (pos d) ts)
rising_divided n d [] hd h r = tt
rising_divided n d (t ∷ ts) hd h r =
    let p = both (divides (pos d) t.coefficient) (all_divide (pos d) ts) h in
    (r.0, not_zero (pos d) t.coefficient (int_div_euclid t.coefficient (pos d)) (divides_exact d t.coefficient hd p.0) r.1, rising_divided (suc t.symbol) d ts hd p.1 r.2)

pub rising-quotients : (n : ℕ) (d : ℤ) (ts : Terms) → pos 0 <ℤ d → all_divide d ts ≡ true → IsRising n ts → IsRising n (quotients d ts)
rising-quotients n (pos d) ts hd h r = rising_divided n d ts (omega (arith, ints)) h r
rising-quotients n (negsuc d) ts hd h r = absurd (omega (arith, ints))
