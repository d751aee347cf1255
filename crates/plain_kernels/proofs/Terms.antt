-- What the interval of a form's element spans, where its symbols count from 0.
use Rattle.std.proofs.Common.{◌≡◌, ◌⊎◌, inl, inr, ℕ, zero, suc, ◌*◌, Bool, true, false, cond, [], ◌∷◌, Option, Some, None, arith, refl, sym, ap, subst, ◌∙◌}
use Rattle.std.specs.Prelude.{ℤ, pos, negsuc, ◌≤ℤ◌, ◌+ℤ◌, ◌*ℤ◌, neg_ℤ}
use Rattle.std.specs.Int.{int_max}
use Rattle.std.specs.Ordering.{int_eq}
use Rattle.std.proofs.lemmas.Bool.Decides.{Decides-int_eq}
use Rattle.std.proofs.lemmas.Int.{ints, clamps}
use Rattle.semantics.proofs.Integers.{add-mul}
use Rattle.linear.specs.Exact.{Terms, put, merge, multiples}
use Rattle.domain.specs.declared.Bounds.{Bounds}
use Rattle.domain.specs.declared.Residue.{Residue}
use Rattle.domain.specs.IntervalMembers.{yes-le}
use Rattle.domain.specs.Products.{mul-le_pos}
use Rattle.domain.specs.Both.{larger, smaller}
use Rattle.domain.specs.KnownBits.{Bits}
use Rattle.domain.specs.declared.product.Product.{Product}
use Rattle.facts.specs.Symbols.{Fact, constant}
use Rattle.facts.specs.Elements.{is_from_zero}
use Rattle.walk_trees.specs.Held.{terms_with}
use Rattle.walk_trees.specs.Walks.{one_number}
use Rattle.plain_kernels.specs.Domains.{domain}
use Rattle.plain_kernels.proofs.Ends.{EndsIn, EndIn, IsEnd, Scales, wider, adds, multiplies, one-number}

abbrev pub Both : Type 0
Both = Product (Product Bounds Residue) Bits

abbrev pub FirstIn : (low high : ℤ) → Both → Type 0
FirstIn low high x = EndsIn low high x.first.first

from_zero : (low high : ℤ) (o p : Option ℤ) → pos 0 ≤ℤ low → EndIn low high o → is_from_zero (larger (larger o p) None) ≡ true
from_zero low high None p h e = absurd e
from_zero low high (Some n) None h e = yes-le (pos 0) n (omega (arith, ints, e))
from_zero low high (Some n) (Some m) h e = yes-le (pos 0) (int_max n m) (omega (arith, ints, clamps, e))

-- what stands from 0 on is settled
pub settled : (low high : ℤ) (x : Both) → pos 0 ≤ℤ low → FirstIn low high x → is_from_zero (domain.bounds_of x).low ≡ true
settled low high x h e = from_zero low high x.first.first.low _ h e.0

-- a form of which one number between two is known
abbrev pub IsKnown : (low high : ℤ) → (form found : Fact) → Type 0
IsKnown low high f g = (g ≡ f) ⊎ ((z : ℤ) × (low ≤ℤ z) × (z ≤ℤ high) × (g ≡ constant z))

abbrev From : ℤ → Option ℤ → Type 0
From low None = Unit {0}
From low (Some n) = low ≤ℤ n

abbrev UpTo : ℤ → Option ℤ → Type 0
UpTo high None = Unit {0}
UpTo high (Some n) = n ≤ℤ high

larger-from : (low high : ℤ) (o p : Option ℤ) → EndIn low high o → From low (larger (larger o p) None)
larger-from low high None p e = absurd e
larger-from low high (Some n) None e = e.0
larger-from low high (Some n) (Some m) e = omega (arith, ints, clamps, e)

smaller-up_to : (low high : ℤ) (o p : Option ℤ) → EndIn low high o → UpTo high (smaller (smaller o p) None)
smaller-up_to low high None p e = absurd e
smaller-up_to low high (Some n) None e = e.1
smaller-up_to low high (Some n) (Some m) e = omega (arith, ints, clamps, e)

one-known : (low high : ℤ) (o p : Option ℤ) (f : Fact) → From low o → UpTo high p → IsKnown low high f (one_number o p f)
one-known low high None p f a b = inl refl
one-known low high (Some n) None f a b = inl refl
one-known low high (Some n) (Some m) f a b = by (int_eq n m) refl
  where
    by : (q : Bool) → int_eq n m ≡ q → IsKnown low high f (cond q (constant n) f)
    by true e = inr (n, a, omega (arith, ints, b, (Decides-int_eq n m).0 e), refl)
    by false e = inl refl

pub known-in : (low high : ℤ) (x : Both) (f : Fact) (w : Bool) → FirstIn low high x → IsKnown low high f (cond w (one_number (domain.bounds_of x).low (domain.bounds_of x).high f) f)
known-in low high x f true e = one-known low high (domain.bounds_of x).low (domain.bounds_of x).high f (larger-from low high x.first.first.low _ e.0) (smaller-up_to low high x.first.first.high _ e.1)
known-in low high x f false e = inl refl

pub scales_up : (a : ℤ) (k n : ℕ) → a ≡ pos k → Scales a (pos 0) (pos n) (pos 0) (pos (k * n))
scales_up a k n e z p q =
    let l = mul-le_pos k (pos 0) z p in
    let h = mul-le_pos k z (pos n) q in
    subst (λ x. (pos 0 ≤ℤ (x *ℤ z)) × ((x *ℤ z) ≤ℤ pos (k * n))) (sym e) (omega (arith, ints, l), omega (arith, ints, h))

pub scales_down : (a : ℤ) (k n : ℕ) → a ≡ neg_ℤ (pos k) → Scales a (pos 0) (pos n) (neg_ℤ (pos (k * n))) (pos 0)
scales_down a k n e z p q =
    let l = mul-le_pos k (pos 0) z p in
    let h = mul-le_pos k z (pos n) q in
    let s = add-mul a (pos k) z in
    let n : a +ℤ pos k ≡ pos 0 = omega (arith, ints, e) in
    let o : (a +ℤ pos k) *ℤ z ≡ pos 0 = ap (λ x. x *ℤ z) n ∙ omega (arith, ints) in
    (omega (arith, ints, l, h, s, o), omega (arith, ints, l, h, s, o))

-- one term more, unless its coefficient is 0
pub one_more : (e : ℕ → Both) (k : ℤ) (s n : ℕ) (ts : Terms) (x : Both) (a b low high : ℤ) → FirstIn a b x → FirstIn (pos 0) (pos n) (e s) → Scales k (pos 0) (pos n) low high → IsEnd k → IsEnd low → IsEnd high → IsEnd (a +ℤ low) → IsEnd (b +ℤ high) →
    (y : Both) × (terms_with domain e x (put k s ts) ≡ terms_with domain e y ts) × FirstIn (a +ℤ low) (b +ℤ high) y
one_more e (pos zero) s n ts x a b low high h m c i j k p q =
    let z = c (pos 0) (omega (arith, ints)) (omega (arith, ints)) in
    (x, refl, wider a b (a +ℤ low) (b +ℤ high) x.first.first h (omega (arith, ints, z)) (omega (arith, ints, z)))
one_more e (pos (suc k)) s n ts x a b low high h m c i j l p q =
    (domain.add_of x (domain.mul_of (domain.number_of (pos (suc k))) (e s)), refl, adds a b low high x.first.first _ h (multiplies (pos (suc k)) (pos 0) (pos n) low high _ _ (one-number (pos (suc k)) i) m j l c) p q)
one_more e (negsuc k) s n ts x a b low high h m c i j l p q =
    (domain.add_of x (domain.mul_of (domain.number_of (negsuc k)) (e s)), refl, adds a b low high x.first.first _ h (multiplies (negsuc k) (pos 0) (pos n) low high _ _ (one-number (negsuc k) i) m j l c) p q)

pub merge-nil : (ts : Terms) → merge ts [] ≡ ts
merge-nil [] = refl
merge-nil (t ∷ ts) = ap (λ us. t ∷ us) (merge-nil ts)

pub multiples-put : (k z : ℤ) (s : ℕ) (ts : Terms) → multiples k (put z s ts) ≡ put (k *ℤ z) s (multiples k ts)
multiples-put k (pos zero) s ts = let e : pos 0 ≡ k *ℤ pos 0 = omega (arith, ints) in ap (λ c. put c s (multiples k ts)) e
multiples-put k (pos (suc n)) s ts = refl
multiples-put k (negsuc n) s ts = refl
