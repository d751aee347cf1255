-- What two domains say of one number.
use Rattle.std.specs.Prelude.{ℤ, ◌≡◌, true, ◌&&◌, ◌==◌, nat_lt, Bool, cond, Option, Some, None}
use Rattle.std.specs.Int.{int_min, int_max}
use Rattle.std.specs.Int.RustNames.{int_le, int_lt}
use Rattle.std.proofs.lemmas.Bool.{and_parts, and_from, cond_both}
use Rattle.std.proofs.Common.{◌⊎◌, inl, inr}
use Rattle.domain.specs.declared.Bounds.{Bounds}
use Rattle.domain.specs.declared.Residue.{Residue}
use Rattle.domain.specs.Members.{is_above, is_below, is_within, leaves}

-- the larger lower end, and the smaller upper end; an open one gives way
abbrev pub larger : Option ℤ → Option ℤ → Option ℤ
larger None b = b
larger (Some x) None = Some x
larger (Some x) (Some y) = Some (int_max x y)

abbrev pub smaller : Option ℤ → Option ℤ → Option ℤ
smaller None b = b
smaller (Some x) None = Some x
smaller (Some x) (Some y) = Some (int_min x y)

abbrev pub narrowed : Bounds → Bounds → Bounds
narrowed a b = record { low = larger a.low b.low; high = smaller a.high b.high }

-- the residue of modulus 0, else of the larger modulus, the first in a tie
abbrev pub finer : Residue → Residue → Residue
finer a b = cond (a.modulus == 0) a (cond (b.modulus == 0) b (cond (nat_lt a.modulus b.modulus) b a))

above : (a b : Option ℤ) (z : ℤ) → is_above a z ≡ true → is_above b z ≡ true → is_above (larger a b) z ≡ true
above None b z p q = q
above (Some x) None z p q = p
above (Some x) (Some y) z p q = cond_both (int_lt y x) x y (λ m. int_le m z ≡ true) (λ e. p) (λ e. q)

below : (a b : Option ℤ) (z : ℤ) → is_below a z ≡ true → is_below b z ≡ true → is_below (smaller a b) z ≡ true
below None b z p q = q
below (Some x) None z p q = p
below (Some x) (Some y) z p q = cond_both (int_lt y x) y x (λ m. int_le z m ≡ true) (λ e. q) (λ e. p)

pub within : (a b : Bounds) (z : ℤ) → is_within a z ≡ true → is_within b z ≡ true → is_within (narrowed a b) z ≡ true
within a b z p q =
    let u = and_parts (is_above a.low z) (is_below a.high z) p in
    let v = and_parts (is_above b.low z) (is_below b.high z) q in
    and_from _ _ (above a.low b.low z u.0 v.0) (below a.high b.high z u.1 v.1)

pub left : (a b : Residue) (z : ℤ) → leaves a z ≡ true → leaves b z ≡ true → leaves (finer a b) z ≡ true
left a b z p q =
    let R : Residue → Type 0 = λ r. leaves r z ≡ true in
    cond_both (a.modulus == 0) a _ R (λ e. p)
    (λ e. cond_both (b.modulus == 0) b _ R (λ f. q) (λ f. cond_both (nat_lt a.modulus b.modulus) b a R (λ g. q) (λ g. p)))

-- two tests that are passed, and what each gives
pub both : {p q r s : Bool} → (p ≡ true → r ≡ true) → (q ≡ true → s ≡ true) → (p && q) ≡ true → (r && s) ≡ true
both {p} {q} {r} {s} f g h = let u = and_parts p q h in and_from r s (f u.0) (g u.1)

pub both_two : {p q p' q' r s : Bool} → (p ≡ true → p' ≡ true → r ≡ true) → (q ≡ true → q' ≡ true → s ≡ true)
    → (p && q) ≡ true → (p' && q') ≡ true → (r && s) ≡ true
both_two {p} {q} {p'} {q'} {r} {s} f g h k = let u = and_parts p q h in let v = and_parts p' q' k in and_from r s (f u.0 v.0) (g u.1 v.1)

pub either : {p q p' q' r s : Bool} → ((p ≡ true) ⊎ (p' ≡ true) → r ≡ true) → ((q ≡ true) ⊎ (q' ≡ true) → s ≡ true)
    → ((p && q) ≡ true) ⊎ ((p' && q') ≡ true) → (r && s) ≡ true
either {p} {q} {p'} {q'} {r} {s} f g (inl h) = let u = and_parts p q h in and_from r s (f (inl u.0)) (g (inl u.1))
either {p} {q} {p'} {q'} {r} {s} f g (inr h) = let u = and_parts p' q' h in and_from r s (f (inr u.0)) (g (inr u.1))
