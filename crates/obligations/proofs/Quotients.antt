-- The quotients of multiples, and the lists of new symbols with which a place's tree begins.
use Rattle.std.proofs.Common.{◌≡◌, ℕ, zero, suc, ◌+◌, ◌<◌, Bool, true, ◌&&◌, List, [], ◌∷◌, ◌++◌, length, Option, None, Some, arith, refl, sym, ap, ◌∙◌, subst}
use Rattle.std.specs.Prelude.{ℤ, pos, negsuc, ◌*ℤ◌}
use Rattle.std.specs.List.{All}
use Rattle.std.specs.Int.RustNames.{unsigned_abs}
use Rattle.std.proofs.lemmas.Int.{ints}
use Rattle.std.proofs.lemmas.Bool.{and_parts}
use Rattle.std.proofs.lemmas.List.Elements.{All-append, All-nil}
use Rattle.linear.specs.Linear.{value_of, IsMet}
use Rattle.linear.proofs.Multiplying.{gives, tested, same, value_product}
use Rattle.linear.specs.Products.{product}
use Rattle.semantics.proofs.Integers.{mul_comm, mul_assoc}
use Rattle.facts.specs.Symbols.{First, New, number, Fact, once}
use Rattle.facts.specs.Elements.{nth}
use Rattle.facts.proofs.Values.{value-once, met_equals}
use Rattle.facts.proofs.Worlds.{View, Agrees, new_at}
use Rattle.domain.specs.Multiples.{from-test, to-test, times}
use Rattle.domain.specs.Multiples as multiples
use Rattle.walk_trees.specs.Operators.{small_product}
use Rattle.obligations.specs.Notes.{Multiple}
use Rattle.obligations.specs.Telling.{tells, multiples_tell}
use Rattle.obligations.specs.Roots.{tops, multiple_fact, multiple_facts}
use Rattle.obligations.specs.Walking.{divides}
use Rattle.obligations.proofs.PlaceLines.{multiples_hold}
use Rattle.obligations.proofs.Replaced.{value_at}
use Rattle.obligations.proofs.Told.{told-value}

-- of a number that is no multiple of 0 but 0
by_size : (g q : ℤ) → multiples.Multiple (unsigned_abs g) q → (k : ℤ) × (q ≡ g *ℤ k)
by_size (pos n) q h = (h.0, h.1 ∙ mul_comm h.0 (pos n))
by_size (negsuc n) q h =
    let e : negsuc n ≡ negsuc 0 *ℤ pos (suc n) = omega (arith, ints) in
    let f : negsuc 0 *ℤ (negsuc 0 *ℤ h.0) ≡ h.0 = omega (arith, ints) in
    let g : negsuc n *ℤ (negsuc 0 *ℤ h.0) ≡ pos (suc n) *ℤ h.0 =
    ap (λ z. z *ℤ (negsuc 0 *ℤ h.0)) (e ∙ mul_comm (negsuc 0) (pos (suc n))) ∙ mul_assoc (pos (suc n)) (negsuc 0) (negsuc 0 *ℤ h.0) ∙ ap (λ z. pos (suc n) *ℤ z) f in
    (negsuc 0 *ℤ h.0, h.1 ∙ mul_comm h.0 (pos (suc n)) ∙ sym g)

pub quotient-of : (g f : ℤ) → divides (unsigned_abs g) f ≡ true → (k : ℤ) × (f ≡ g *ℤ k)
quotient-of g f h = by_size g f (from-test (unsigned_abs g) f h)

own-size : (g : ℤ) → multiples.Multiple (unsigned_abs g) g
own-size (pos n) = (pos 1, omega (arith, ints))
own-size (negsuc n) = (negsuc 0, omega (arith, ints))

pub quotient-divides : (g f k : ℤ) → f ≡ g *ℤ k → divides (unsigned_abs g) f ≡ true
quotient-divides g f k e = to-test (unsigned_abs g) f (subst (multiples.Multiple (unsigned_abs g)) (mul_comm k g ∙ sym e) (times (unsigned_abs g) g k (own-size g)))

-- a small product is one
pub small-product : (f g h : Fact) → small_product f g ≡ Some h → product f g ≡ Some h
small-product f g h e =
    let p = gives (product f g) _ h e in
    p.1 ∙ ap Some (same p.0 h (tested _ (Some p.0) h p.2).1)

-- two lists of new symbols
pub new-left : (qs rs : List ℤ) (k : ℕ) → k < length qs → new_at (qs ++ rs) k ≡ new_at qs k
new-left [] rs k h = absurd (omega (arith, h))
new-left (q ∷ qs) rs zero h = refl
new-left (q ∷ qs) rs (suc k) h = new-left qs rs k (omega (arith, h))

pub new-right : (qs rs : List ℤ) (k : ℕ) → new_at (qs ++ rs) (length qs + k) ≡ new_at rs k
new-right [] rs k = let e : 0 + k ≡ k = omega arith in ap (new_at rs) e
new-right (q ∷ qs) rs k = let e : suc (length qs) + k ≡ suc (length qs + k) = omega arith in ap (new_at (q ∷ (qs ++ rs))) e ∙ new-right qs rs k

module _ {E : Type 0} (c : View E) where
  -- nothing is known of a list's symbols
  pub nth-tops : {A : Type 0} (xs : List A) (k : ℕ) → nth c.domain (tops c.domain xs) k ≡ c.domain.top_of
  nth-tops [] k = refl
  nth-tops (x ∷ xs) zero = refl
  nth-tops (x ∷ xs) (suc k) = nth-tops xs k

  pub both-tops : {A B : Type 0} (xs : List A) (ys : List B) (k : ℕ) → nth c.domain (tops c.domain xs ++ tops c.domain ys) k ≡ c.domain.top_of
  both-tops [] ys k = nth-tops ys k
  both-tops (x ∷ xs) ys zero = refl
  both-tops (x ∷ xs) ys (suc k) = both-tops xs ys k

  pub multiple_quotients : (ms : List Multiple) → multiples_hold (value_at c c.root) ms ≡ true → List ℤ
  multiple_quotients [] h = []
  multiple_quotients (m ∷ ms) h =
      let p = and_parts (divides (unsigned_abs (value_at c c.root m.of)) (value_at c c.root m.form)) (multiples_hold (value_at c c.root) ms) h in
      (quotient-of (value_at c c.root m.of) (value_at c c.root m.form) p.0).0 ∷ multiple_quotients ms p.1

  pub multiple_quotients-length : (ms : List Multiple) (h : multiples_hold (value_at c c.root) ms ≡ true) → length (multiple_quotients ms h) ≡ length (tops c.domain ms)
  unfolding multiple_quotients
  multiple_quotients-length [] h = refl
  multiple_quotients-length (m ∷ ms) h = ap suc (multiple_quotients-length ms _)

  equals-if : (v : ℕ → ℤ) (f : Fact) (o : Option Fact) → ((h : Fact) → o ≡ Some h → value_of v f ≡ value_of v h) → All (IsMet v) (multiple_fact f o)
  equals-if v f None e = All-nil (IsMet v)
  equals-if v f (Some h) e = met_equals v f h (e h refl)

  pub multiples-met : (b : Bool) (news : List ℤ) (v : ℕ → ℤ) → Agrees c news v → (y : ℕ) (ms : List Multiple) → multiples_tell b ms ≡ true → (h : multiples_hold (value_at c c.root) ms ≡ true) →
      ((k : ℕ) → k < length (multiple_quotients ms h) → v (number (New First (y + k))) ≡ new_at (multiple_quotients ms h) k) → All (IsMet v) (multiple_facts y ms)
  unfolding multiple_quotients
  multiples-met b news v a y [] t h n = All-nil (IsMet v)
  multiples-met b news v a y (m ∷ ms) t h n =
      let p = and_parts (tells b m.form && tells b m.of) (multiples_tell b ms) t in
      let o = and_parts (tells b m.form) (tells b m.of) p.0 in
      let q = and_parts (divides (unsigned_abs (value_at c c.root m.of)) (value_at c c.root m.form)) (multiples_hold (value_at c c.root) ms) h in
      let u = quotient-of (value_at c c.root m.of) (value_at c c.root m.form) q.0 in
      let e : y + 0 ≡ y = omega arith in
      let new : v (number (New First y)) ≡ u.0 = subst (λ j. v (number (New First j)) ≡ u.0) e (n 0 (omega arith)) in
      let one = once (New First y) in
      let same' : (g : Fact) → small_product m.of one ≡ Some g → value_of v m.form ≡ value_of v g = λ g s.
      told-value c news v a b m.form o.0 ∙ u.1 ∙ sym (value_product v a.products m.of one g (small-product m.of one g s) ∙ (λ i. told-value c news v a b m.of o.1 i *ℤ (value-once v (New First y) ∙ new) i)) in
      All-append (IsMet v) (multiple_fact m.form (small_product m.of one)) (multiple_facts (suc y) ms) (equals-if v m.form (small_product m.of one) same')
      (multiples-met b news v a (suc y) ms p.1 q.1 (λ k l. let g : y + suc k ≡ suc y + k = omega arith in subst (λ j. v (number (New First j)) ≡ new_at (multiple_quotients ms q.1) k) g (n (suc k) (omega (arith, l)))))
