-- What quotients by forms promise, and what they leave.
use Rattle.std.proofs.Common.{◌≡◌, ℕ, zero, suc, ◌&&◌, ◌||◌, not, Bool, true, false, cond, List, Option, Some, None, arith, refl, ap, ◌∙◌, inl, inr}
use Rattle.std.specs.Prelude.{ℤ, pos, negsuc, ◌+ℤ◌, ◌-ℤ◌, ◌*ℤ◌, ◌≤ℤ◌, ◌<ℤ◌, int_div, int_rem}
use Rattle.std.proofs.lemmas.Int.{ints}
use Rattle.std.proofs.lemmas.Bool.{and_parts, or_cases}
use Rattle.semantics.specs.Word.{Kind, Int, Uint, Size, in_kind}
use Rattle.semantics.proofs.Integers.{mul_comm}
use Rattle.linear.specs.Products.{product as form_product}
use Rattle.linear.proofs.Multiplying.{value_product, rising_product}
use Rattle.domain.specs.Members.{is_above, is_below}
use Rattle.facts.specs.Symbols.{Fact, constant, minus}
use Rattle.facts.specs.Elements.{is_from_zero, is_above_zero}
use Rattle.facts.proofs.Integers.{le_test, lt_test}
use Rattle.facts.proofs.Worlds.{View}
use Rattle.walk_trees.specs.Trees.{Tree, Know}
use Rattle.walk_trees.specs.Shares.{Shared, shared_of}
use Rattle.walk_trees.specs.Walks.{State, with_quotient, element_of, bounds_of, newest, greatest, is_number}
use Rattle.walk_trees.specs.Quotients.{named_by}
use Rattle.walk_trees.specs.SharedQuotients.{is_shared, quotient_element, left_element, below_divisor, shared, keep, make, made, found_or_made, quotient_or_new, left_or_new}
use Rattle.walk_trees.specs.Operators.{small_product, share}
use Rattle.walk_trees.specs.Covered.{is_uint}
use Rattle.walk_trees.proofs.Products.{product_by}
use Rattle.walk_trees.proofs.KindEnds.{in_kind-ends}
use Rattle.walk_trees.proofs.Holding.{form-has, held_settles}
use Rattle.walk_trees.proofs.Shares.{keeping, IsShared, Divided, found_divided}
use Rattle.walk_trees.proofs.Standing.{walks, Stands, Comes, way_then, over_fact, past_fact, past_kept, at_once, comes_from, onward, owns}
use Rattle.walk_trees.proofs.Ranges.{IsForm, form_kept, form_constant, form-minus, newest_sound, invent_sound}
use Rattle.walk_trees.proofs.Divisions.{left-is, left-low, left-high}
use Rattle.walk_trees.proofs.QuotientSound.{DividesLawfully, named_by_sound}

-- a dividend of at least 0, and a divisor of at least 1
pub record AreFloored (x y : ℤ) : Type 0 where
  pub low : pos 0 ≤ℤ x
  pub above : pos 0 <ℤ y

above_zero : (o : Option ℤ) (z : ℤ) → is_above_zero o ≡ true → is_above o z ≡ true → pos 0 <ℤ z
above_zero None z h a = cc
above_zero (Some low) z h a = omega (arith, ints, lt_test (pos 0) low h, le_test low z a)

-- a quotient of numbers of at least 0 is one
quotient-low : (x y : ℤ) → pos 0 ≤ℤ x → pos 0 <ℤ y → pos 0 ≤ℤ int_div x y
quotient-low (pos a) (pos b) h l = omega (arith, ints)
quotient-low (pos a) (negsuc b) h l = absurd (omega (arith, ints))
quotient-low (negsuc a) y h l = absurd (omega (arith, ints))

uint_floored : (k : Kind) (x y : ℤ) → in_kind k x ≡ true → in_kind k y ≡ true → (y ≡ pos 0 → ⊥) → is_uint k ≡ true → AreFloored x y
uint_floored Int x y hx hy z e = cc
uint_floored Size x y hx hy z e = cc
uint_floored Uint x y hx hy z e =
    let low = (in_kind-ends Uint y hy).0 in
    record { low = (in_kind-ends Uint x hx).0; above = positive y low z }
  where
    positive : (y : ℤ) → pos 0 ≤ℤ y → (y ≡ pos 0 → ⊥) → pos 0 <ℤ y
    positive (pos zero) l z = absurd (z refl)
    positive (pos (suc b)) l z = omega (arith, ints)
    positive (negsuc b) l z = absurd (omega (arith, ints))

module _ {E : Type 0} (c : View E) (launch : List Fact) where
  -- the product of two forms, where it is
  pub form-product : {news : List ℤ} (f g h : Fact) (x y : ℤ) → IsForm c news f x → IsForm c news g y → small_product f g ≡ Some h → IsForm c news h (x *ℤ y)
  form-product f g h x y mf mg e =
      let p = product_by (form_product f g) h e in
      record { rising = rising_product f g h p mf.rising mg.rising; means = λ v a. value_product v a.products f g h p ∙ (λ i. mf.means v a i *ℤ mg.means v a i) }

  floored : {facts : List Fact} {n : ℕ} {tree : Tree E} {news : List ℤ} (k : Kind) (f g : Fact) (x y : ℤ) (st : State E) → in_kind k x ≡ true → in_kind k y ≡ true → (y ≡ pos 0 → ⊥) → IsForm c news f x → IsForm c news g y → Stands c launch facts n tree news (keeping st) → is_shared (walks c) st k f g ≡ true → AreFloored x y
  floored {news = news} k f g x y st hx hy z mf mg s e =
      let a = is_from_zero (bounds_of (walks c) st f).low in
      let b = is_above_zero (bounds_of (walks c) st g).low in
      let p = and_parts c.is_wide (not (is_number g) && (is_uint k || (a && b))) e in
      elim (or_cases (is_uint k) (a && b) (and_parts (not (is_number g)) (is_uint k || (a && b)) p.1).1) [
        | inl u ↦ uint_floored k x y hx hy z u
        | inr w ↦ (
            let q = and_parts a b w in
            let o = bounds_of (walks c) st g in
            record {
              low = held_settles c news st.held f x s.fit mf.means q.0;
              above = above_zero o.low y q.1 (and_parts (is_above o.low y) (is_below o.high y) (c.lawful.bounds (element_of (walks c) st g) y (form-has c news st.held g y s.fit mg.means))).0;
            }
            )
      ]

  -- what there is of a quotient
  abbrev pub IsDivided : List ℤ → Option Shared → (x y : ℤ) → Type 0
  IsDivided news None x y = Unit {0}
  IsDivided news (Some q) x y = Divided c news q x y

  -- the elements of both symbols
  quotient-has : (laws : DividesLawfully c.domain) (k : Kind) {facts : List Fact} {n : ℕ} {tree : Tree E} {news : List ℤ} (f g : Fact) (x y : ℤ) (st : State E) → AreFloored x y → in_kind k (int_div x y) ≡ true → (y ≡ pos 0 → ⊥) → IsForm c news f x → IsForm c news g y → Stands c launch facts n tree news (keeping st) → c.domain.has (quotient_element (walks c) st k f g) (int_div x y) ≡ true
  quotient-has laws k {news = news} f g x y st w i z mf mg s =
      let e = c.domain.div_of (element_of (walks c) st f) (element_of (walks c) st g) in
      let q = int_div x y in
      let h = laws.div (element_of (walks c) st f) (element_of (walks c) st g) x y (form-has c news st.held f x s.fit mf.means) (form-has c news st.held g y s.fit mg.means) z in
      c.lawful.at_most (c.domain.at_least_of e (pos 0)) (greatest k) q (c.lawful.at_least e (pos 0) q h (quotient-low x y w.low w.above)) (in_kind-ends k q i).1

  left-has : (laws : DividesLawfully c.domain) {facts : List Fact} {n : ℕ} {tree : Tree E} {news : List ℤ} (f g : Fact) (x y : ℤ) (st : State E) → AreFloored x y → (y ≡ pos 0 → ⊥) → IsForm c news f x → IsForm c news g y → Stands c launch facts n tree news (keeping st) → c.domain.has (left_element (walks c) st f g) (int_rem x y) ≡ true
  left-has laws {news = news} f g x y st w z mf mg s =
      let e = c.domain.rem_of (element_of (walks c) st f) (element_of (walks c) st g) in
      let h = laws.rem (element_of (walks c) st f) (element_of (walks c) st g) x y (form-has c news st.held f x s.fit mf.means) (form-has c news st.held g y s.fit mg.means) z in
      c.lawful.at_least e (pos 0) (int_rem x y) h (left-low x y w.low)

  left_is : (x y : ℤ) → int_rem x y +ℤ int_div x y *ℤ y ≡ x
  left_is x y = ap (λ z. int_rem x y +ℤ z) (mul_comm (int_div x y) y) ∙ left-is x y

  -- both symbols, where the product of the new one and the divisor is a form
  make_sound : (laws : DividesLawfully c.domain) (k : Kind) {facts : List Fact} {n : ℕ} {news : List ℤ} (f g h : Fact) (x y : ℤ) (st : State E) (go : Option Shared → State E → Tree E) → AreFloored x y → in_kind k (int_div x y) ≡ true → (y ≡ pos 0 → ⊥) → small_product (newest st) g ≡ Some h → IsForm c news f x → IsForm c news g y → Stands c launch facts n (make (walks c) k f g h st go) news (keeping st) →
      Comes c launch facts n (make (walks c) k f g h st go) go news (owns st) (λ more q. IsDivided more q x y)
  make_sound laws k f g h x y st go w i z e mf mg s =
      let q = int_div x y in
      let r = int_rem x y in
      let left = minus f h in
      let next : Fact → State E → Tree E = λ a st1. Know left (Know (below_divisor g left) (named_by (walks c) (left_element (walks c) st f g) left st1 (λ b st2. keep (shared f g a b) st2 go))) in
      let p = newest_sound c launch (quotient_element (walks c) st k f g) st next q (quotient-has laws k f g x y st w i z mf mg s) s in
      let pf = form_kept c p.way.kept mf in
      let pg = form_kept c p.way.kept mg in
      let is : IsForm c p.more left r = form-minus c f h x (q *ℤ y) r pf (form-product (newest st) g h q y p.right.1 pg e) (left_is x y) in
      let one : IsForm c p.more (minus g (constant (pos 1))) (y -ℤ pos 1) = form-minus c g (constant (pos 1)) y (pos 1) (y -ℤ pos 1) pg (form_constant c p.more (pos 1)) (omega (arith, ints)) in
      let under : IsForm c p.more (below_divisor g left) ((y -ℤ pos 1) -ℤ r) = form-minus c (minus g (constant (pos 1))) left (y -ℤ pos 1) r ((y -ℤ pos 1) -ℤ r) one is (omega (arith, ints)) in
      let low = left-low x y w.low in
      let high = left-high x y w.low w.above in
      let s1 = past_fact c launch (λ v a. omega (arith, ints, under.means v a, high)) (past_fact c launch (λ v a. omega (arith, ints, is.means v a, low)) p.stands) in
      let last : Fact → State E → Tree E = λ b st2. keep (shared f g p.arrived b) st2 go in
      let m = named_by_sound c launch (left_element (walks c) st f g) left r p.state last is (left-has laws f g x y st w z mf mg s) s1 in
      let kept = form_kept c m.way.kept p.right.0 in
      let o = shared f g p.arrived m.arrived in
      let d : Divided c m.more o x y = record { quotient = kept.means; left = m.right.means; quotient_rises = kept.rising; left_rises = m.right.rising } in
      let t : IsShared c m.more o = record { x = x; y = y; dividend = (form_kept c m.way.kept pf).means; divisor = (form_kept c m.way.kept pg).means; divided = d } in
      onward c launch p (comes_from c launch (way_then c launch (over_fact c launch) (over_fact c launch))
      (onward c launch m (at_once c launch go (λ more o. IsDivided more o x y) (Some o) (with_quotient o m.state) d (past_kept c launch o t m.stands))))

  made_sound : (o : Option Fact) (laws : DividesLawfully c.domain) (k : Kind) {facts : List Fact} {n : ℕ} {news : List ℤ} (f g : Fact) (x y : ℤ) (st : State E) (go : Option Shared → State E → Tree E) → AreFloored x y → in_kind k (int_div x y) ≡ true → (y ≡ pos 0 → ⊥) → small_product (newest st) g ≡ o → IsForm c news f x → IsForm c news g y → Stands c launch facts n (made (walks c) o k f g st go) news (keeping st) →
      Comes c launch facts n (made (walks c) o k f g st go) go news (owns st) (λ more q. IsDivided more q x y)
  made_sound None laws k f g x y st go w i z e mf mg s = at_once c launch go (λ more q. IsDivided more q x y) None st tt s
  made_sound (Some h) laws k f g x y st go w i z e mf mg s = make_sound laws k f g h x y st go w i z e mf mg s

  found_sound : (o : Option Shared) (laws : DividesLawfully c.domain) (k : Kind) {facts : List Fact} {n : ℕ} {news : List ℤ} (f g : Fact) (x y : ℤ) (st : State E) (go : Option Shared → State E → Tree E) → shared_of f g st.quotients ≡ o → AreFloored x y → in_kind k (int_div x y) ≡ true → (y ≡ pos 0 → ⊥) → IsForm c news f x → IsForm c news g y → Stands c launch facts n (found_or_made (walks c) o (small_product (newest st) g) k f g st go) news (keeping st) →
      Comes c launch facts n (found_or_made (walks c) o (small_product (newest st) g) k f g st go) go news (owns st) (λ more q. IsDivided more q x y)
  found_sound None laws k f g x y st go e w i z mf mg s = made_sound (small_product (newest st) g) laws k f g x y st go w i z refl mf mg s
  found_sound (Some q) laws k f g x y st go e w i z mf mg s = at_once c launch go (λ more q. IsDivided more q x y) (Some q) st (found_divided c st.quotients f g x y q s.shared e mf.means mg.means) s

  share_sound : (laws : DividesLawfully c.domain) (k : Kind) {facts : List Fact} {n : ℕ} {news : List ℤ} (f g : Fact) (x y : ℤ) (st : State E) (go : Option Shared → State E → Tree E) → in_kind k x ≡ true → in_kind k y ≡ true → in_kind k (int_div x y) ≡ true → (y ≡ pos 0 → ⊥) → IsForm c news f x → IsForm c news g y → Stands c launch facts n (share (walks c) k f g st go) news (keeping st) →
      Comes c launch facts n (share (walks c) k f g st go) go news (owns st) (λ more q. IsDivided more q x y)
  share_sound laws k {facts = facts} {n = n} {news = news} f g x y st go hx hy i z mf mg s = by (is_shared (walks c) st k f g) refl s
    where
      by : (b : Bool) → is_shared (walks c) st k f g ≡ b → Stands c launch facts n (cond b (found_or_made (walks c) (shared_of f g st.quotients) (small_product (newest st) g) k f g st go) (go None st)) news (keeping st) → Comes c launch facts n (cond b (found_or_made (walks c) (shared_of f g st.quotients) (small_product (newest st) g) k f g st go) (go None st)) go news (owns st) (λ more q. IsDivided more q x y)
      by true e t = found_sound (shared_of f g st.quotients) laws k f g x y st go refl (floored k f g x y st hx hy z mf mg s e) i z mf mg t
      by false e t = at_once c launch go (λ more q. IsDivided more q x y) None st tt t

  -- of each the form that arrives
  quotient_sound_of : (o : Option Shared) (laws : DividesLawfully c.domain) {facts : List Fact} {n : ℕ} {news : List ℤ} (f g : Fact) (x y : ℤ) (st : State E) (go : Fact → State E → Tree E) → IsDivided news o x y → (y ≡ pos 0 → ⊥) → IsForm c news f x → IsForm c news g y → Stands c launch facts n (quotient_or_new (walks c) o f g st go) news (keeping st) →
      Comes c launch facts n (quotient_or_new (walks c) o f g st go) go news (owns st) (λ more h. IsForm c more h (int_div x y))
  quotient_sound_of (Some q) laws f g x y st go d z mf mg s = at_once c launch go (λ more h. IsForm c more h (int_div x y)) q.quotient st (record { rising = d.quotient_rises; means = d.quotient }) s
  quotient_sound_of None laws {news = news} f g x y st go d z mf mg s =
      let ef = element_of (walks c) st f in
      let eg = element_of (walks c) st g in
      invent_sound c launch (c.domain.div_of ef eg) st go (int_div x y) (laws.div ef eg x y (form-has c news st.held f x s.fit mf.means) (form-has c news st.held g y s.fit mg.means) z) s

  left_sound_of : (o : Option Shared) (laws : DividesLawfully c.domain) {facts : List Fact} {n : ℕ} {news : List ℤ} (f g : Fact) (x y : ℤ) (st : State E) (go : Fact → State E → Tree E) → IsDivided news o x y → (y ≡ pos 0 → ⊥) → IsForm c news f x → IsForm c news g y → Stands c launch facts n (left_or_new (walks c) o f g st go) news (keeping st) →
      Comes c launch facts n (left_or_new (walks c) o f g st go) go news (owns st) (λ more h. IsForm c more h (int_rem x y))
  left_sound_of (Some q) laws f g x y st go d z mf mg s = at_once c launch go (λ more h. IsForm c more h (int_rem x y)) q.left st (record { rising = d.left_rises; means = d.left }) s
  left_sound_of None laws {news = news} f g x y st go d z mf mg s =
      let ef = element_of (walks c) st f in
      let eg = element_of (walks c) st g in
      invent_sound c launch (c.domain.rem_of ef eg) st go (int_rem x y) (laws.rem ef eg x y (form-has c news st.held f x s.fit mf.means) (form-has c news st.held g y s.fit mg.means) z) s

  -- a quotient by a form, and what it leaves
  pub shared_quotient_sound : (laws : DividesLawfully c.domain) (k : Kind) {facts : List Fact} {n : ℕ} {news : List ℤ} (f g : Fact) (x y : ℤ) (st : State E) (go : Fact → State E → Tree E) → in_kind k x ≡ true → in_kind k y ≡ true → in_kind k (int_div x y) ≡ true → (y ≡ pos 0 → ⊥) → IsForm c news f x → IsForm c news g y →
      Stands c launch facts n (share (walks c) k f g st (λ q st'. quotient_or_new (walks c) q f g st' go)) news (keeping st) → Comes c launch facts n (share (walks c) k f g st (λ q st'. quotient_or_new (walks c) q f g st' go)) go news (owns st) (λ more h. IsForm c more h (int_div x y))
  shared_quotient_sound laws k f g x y st go hx hy i z mf mg s =
      let p = share_sound laws k f g x y st (λ q st'. quotient_or_new (walks c) q f g st' go) hx hy i z mf mg s in
      onward c launch p (quotient_sound_of p.arrived laws f g x y p.state go p.right z (form_kept c p.way.kept mf) (form_kept c p.way.kept mg) p.stands)

  pub shared_left_sound : (laws : DividesLawfully c.domain) (k : Kind) {facts : List Fact} {n : ℕ} {news : List ℤ} (f g : Fact) (x y : ℤ) (st : State E) (go : Fact → State E → Tree E) → in_kind k x ≡ true → in_kind k y ≡ true → in_kind k (int_div x y) ≡ true → (y ≡ pos 0 → ⊥) → IsForm c news f x → IsForm c news g y →
      Stands c launch facts n (share (walks c) k f g st (λ q st'. left_or_new (walks c) q f g st' go)) news (keeping st) → Comes c launch facts n (share (walks c) k f g st (λ q st'. left_or_new (walks c) q f g st' go)) go news (owns st) (λ more h. IsForm c more h (int_rem x y))
  shared_left_sound laws k f g x y st go hx hy i z mf mg s =
      let p = share_sound laws k f g x y st (λ q st'. left_or_new (walks c) q f g st' go) hx hy i z mf mg s in
      onward c launch p (left_sound_of p.arrived laws f g x y p.state go p.right z (form_kept c p.way.kept mf) (form_kept c p.way.kept mg) p.stands)
