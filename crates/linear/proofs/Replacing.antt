-- What a form is worth in which forms stand for symbols.
use Rattle.std.proofs.Common.{◌≡◌, ℕ, List, [], ◌∷◌, arith, ap, sym, ◌∙◌}
use Rattle.std.specs.Prelude.{ℤ, pos, ◌+ℤ◌, ◌*ℤ◌, Some}
use Rattle.std.proofs.lemmas.Int.{ints}
use Rattle.linear.specs.Linear.{Form, terms_value, value_of}
use Rattle.semantics.proofs.Integers.{mul_assoc}
use Rattle.linear.specs.Exact.{Terms}
use Rattle.linear.specs.Products.{factors, IsMultiplicative, value_of_factors, with_products, plus_multiple, product, replaced_factors, replaced_product, replaced_from, replaced}
use Rattle.linear.proofs.Multiplying.{gives, same, value-plus, value_product}

module _ (v : ℕ → ℤ) (m : IsMultiplicative v) (by : ℕ → Form ℕ) where
  abbrev worth : ℕ → ℤ
  worth n = value_of v (by n)

  value-factors : (f : Form ℕ) (ns : List ℕ) (h : Form ℕ) → replaced_factors by f ns ≡ Some h → value_of v h ≡ value_of v f *ℤ value_of_factors worth ns
  value-factors f [] h e = ap (value_of v) (sym (same f h e)) ∙ omega (arith, ints)
  value-factors f (n ∷ ns) h e =
      let g = gives (product f (by n)) _ h e in
      value-factors g.0 ns h g.2 ∙ ap (λ z. z *ℤ value_of_factors worth ns) (value_product v m f (by n) g.0 g.1) ∙ mul_assoc (value_of v f) (worth n) (value_of_factors worth ns)

  value-product : (ns : List ℕ) (h : Form ℕ) → replaced_product by ns ≡ Some h → value_of v h ≡ value_of_factors worth ns
  value-product [] h e = ap (value_of v) (sym (same (record { terms = []; constant = pos 1 }) h e))
  value-product (n ∷ ns) h e = value-factors (by n) ns h e

  value-from : (f : Form ℕ) (ts : Terms) (h : Form ℕ) → replaced_from by f ts ≡ Some h → value_of v h ≡ value_of v f +ℤ terms_value (with_products worth) ts
  value-from f [] h e = ap (value_of v) (sym (same f h e)) ∙ omega (arith, ints)
  value-from f (t ∷ ts) h e =
      let g = gives (replaced_product by (factors t.symbol)) _ h e in
      let k = gives (plus_multiple f t.coefficient g.0) _ h g.2 in
      let one : value_of v k.0 ≡ value_of v f +ℤ t.coefficient *ℤ with_products worth t.symbol = value-plus v f t.coefficient g.0 k.0 k.1 ∙ ap (λ z. value_of v f +ℤ t.coefficient *ℤ z) (value-product (factors t.symbol) g.0 g.1) in
      omega (arith, ints, one, value-from k.0 ts h k.2)

  pub value_replaced : (f h : Form ℕ) → replaced by f ≡ Some h → value_of v h ≡ value_of (with_products worth) f
  value_replaced f h e = value-from (record { terms = []; constant = f.constant }) f.terms h e ∙ omega (arith, ints)
