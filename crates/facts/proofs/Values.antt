-- The value of sums, multiples and differences, and what denies a fact.
use Rattle.std.proofs.Common.{◌≡◌, List, [], ◌∷◌, ◌++◌, ℕ, arith}
use Rattle.std.specs.Prelude.{ℤ, pos, negsuc, ◌+ℤ◌, ◌*ℤ◌, ◌≤ℤ◌}
use Rattle.std.specs.List.{All}
use Rattle.std.proofs.lemmas.Int.{ints, by_lt_z}
use Rattle.std.proofs.lemmas.List.Elements.{All-append, All-cons, All-nil}
use Rattle.linear.specs.Linear.{terms_value, value_of, IsMet}
use Rattle.linear.specs.Products.{IsMultiplicative, IsImpossibleWithProducts}
use Rattle.semantics.proofs.Integers.{mul-add}
use Rattle.linear.specs.Exact.{sum, multiple}
use Rattle.linear.proofs.Merging.{value-merge, value-multiples}
use Rattle.facts.specs.Symbols.{Symbol, number, Fact, constant, once, minus, equals, denial}

pub value-sum : (v : ℕ → ℤ) (f g : Fact) → value_of v (sum f g) ≡ value_of v f +ℤ value_of v g
value-sum v f g = omega (arith, ints, value-merge v f.terms g.terms)

pub value-multiple : (v : ℕ → ℤ) (k : ℤ) (f : Fact) → value_of v (multiple k f) ≡ k *ℤ value_of v f
value-multiple v k f = omega (arith, ints, value-multiples v k f.terms, mul-add k (terms_value v f.terms) f.constant)

pub value-minus : (v : ℕ → ℤ) (f g : Fact) → value_of v (minus f g) +ℤ value_of v g ≡ value_of v f
value-minus v f g = omega (arith, ints, value-sum v f (multiple (negsuc 0) g), value-multiple v (negsuc 0) g)

pub value-constant : (v : ℕ → ℤ) (z : ℤ) → value_of v (constant z) ≡ z
value-constant v z = omega (arith, ints)

pub value-once : (v : ℕ → ℤ) (s : Symbol) → value_of v (once s) ≡ v (number s)
value-once v s = omega (arith, ints)

-- at least 0, where its denial is impossible
pub claimed : (v : ℕ → ℤ) → IsMultiplicative v → (launch facts : List Fact) (f : Fact) → IsImpossibleWithProducts (launch ++ (facts ++ denial f ∷ [])) → All (IsMet v) launch → All (IsMet v) facts → pos 0 ≤ℤ value_of v f
claimed v mv launch facts f h j k =
    let e = value-minus v (constant (negsuc 0)) f in
    let c = value-constant v (negsuc 0) in
    by_lt_z (value_of v f) (pos 0)
    (λ l. let d : pos 0 ≤ℤ value_of v (denial f) = omega (arith, ints, e, c, l) in absurd (h v mv (All-append (IsMet v) launch (facts ++ denial f ∷ []) j (All-append (IsMet v) facts (denial f ∷ []) k (All-cons (IsMet v) (denial f) [] d (All-nil (IsMet v)))))))
    (λ l. l)

-- both facts of an equation hold
pub met_equals : (v : ℕ → ℤ) (f g : Fact) → value_of v f ≡ value_of v g → All (IsMet v) (equals f g)
met_equals v f g e =
    All-cons (IsMet v) (minus f g) (minus g f ∷ []) (omega (arith, ints, value-minus v f g, e))
    (All-cons (IsMet v) (minus g f) [] (omega (arith, ints, value-minus v g f, e)) (All-nil (IsMet v)))
