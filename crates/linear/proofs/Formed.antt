-- What is said of forms that products make.
use Rattle.std.proofs.Common.{◌≡◌, ℕ, arith, ap, sym, ◌∙◌}
use Rattle.std.specs.Prelude.{ℤ, pos, ◌+ℤ◌, ◌*ℤ◌, Result, Ok, Err, IfOk, Option, None, Some, MatchOption, IfSome}
use Rattle.std.proofs.lemmas.Int.{ints}
use Rattle.linear.specs.Linear as semantics
use Rattle.linear.specs.Linear.{Weighted, value_of}
use Rattle.linear.specs.declared.form.Form.{Form}
use Rattle.linear.specs.Forms.{form}
use Rattle.linear.specs.Products.{times, IsMultiplicative, single, plus_multiple, add_product, and_then, product}
use Rattle.linear.proofs.Multiplying.{value_product}

pub if_product : {E : Type 0} (r : Result (Option Form) E) (f g : semantics.Form ℕ) → IfOk r (λ o. MatchOption o (product f g ≡ None) (λ h. product f g ≡ Some (form h))) → IfOk r (λ o. IfSome o (λ h. (v : ℕ → ℤ) → IsMultiplicative v → value_of v (form h) ≡ value_of v f *ℤ value_of v g))
if_product (Ok None) f g e = tt
if_product (Ok (Some h)) f g e = λ v m. value_product v m f g (form h) e
if_product (Err x) f g e = tt

nothing_and : (z : ℤ) → pos 0 +ℤ z ≡ z
nothing_and z = omega (arith, ints)

-- the product of two terms is added as a multiple of a symbol
pub product_added : (total : semantics.Form ℕ) (t u : Weighted ℕ) (s : ℕ) (k : ℤ) (one : semantics.Form ℕ) → times t.symbol u.symbol ≡ Some s → k ≡ pos 0 +ℤ t.coefficient *ℤ u.coefficient → one ≡ single s → plus_multiple total k one ≡ add_product total t u
product_added total t u s k one e h o =
    ap (λ z. plus_multiple total z one) (h ∙ nothing_and (t.coefficient *ℤ u.coefficient)) ∙ ap (plus_multiple total (t.coefficient *ℤ u.coefficient)) o
    ∙ sym (ap (λ n. and_then n (λ m. plus_multiple total (t.coefficient *ℤ u.coefficient) (single m))) e)
