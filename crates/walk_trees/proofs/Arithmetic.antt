-- What the walk of an operator promises, once its operands are brought to one kind.
use Rattle.std.proofs.Common.{◌≡◌, ℕ, ◌+◌, ◌^◌, ◌&&◌, ◌||◌, not, Bool, true, false, cond, nat_lt, List, [], ◌∷◌, Option, Some, None, arith, refl, sym, ap, ◌∙◌, subst, inl, inr}
use Rattle.std.specs.Prelude.{ℤ, pos, negsuc, neg_ℤ, ◌+ℤ◌, ◌-ℤ◌, ◌*ℤ◌, ◌≤ℤ◌, ◌<ℤ◌, int_lt, int_div, int_rem, bit_and, bit_or, bit_xor, Result, Ok, Err}
use Rattle.std.specs.Ordering.{int_eq}
use Rattle.std.specs.Int.{int_div_euclid, int_rem_euclid}
use Rattle.std.proofs.lemmas.Int.{ints}
use Rattle.std.proofs.lemmas.Nat.{pow_pos}
use Rattle.std.proofs.lemmas.Bool.{and_parts, or_cases}
use Rattle.std.proofs.lemmas.Bool.Decides.{Decides-int_eq}
use Rattle.semantics.specs.Word.{Kind, Int, Uint, Size, Exact, Word, word, Fault, DivisionByZero, Overflow, Operator, Add, Subtract, Multiply, Divide, Remainder, BitAnd, BitOr, BitXor, UnaryOperator, Negate, Complement, ShiftLeft, ShiftRight, in_kind, bits_of, read_bits, as_kind, has, settle, calculate, calculate_unary}
use Rattle.semantics.proofs.Integers.{mul_comm}
use Rattle.semantics.proofs.Words.{as_kind-in_kind}
use Rattle.linear.specs.Exact.{Terms, sum, multiple}
use Rattle.domain.specs.declared.Bounds.{Bounds}
use Rattle.domain.specs.Members.{is_above, is_below, is_within}
use Rattle.facts.specs.Symbols.{Fact, constant, minus}
use Rattle.facts.specs.Elements.{is_from_zero}
use Rattle.facts.proofs.Integers.{le_test, lt_test}
use Rattle.facts.proofs.Members.{between-has}
use Rattle.facts.proofs.Worlds.{View}
use Rattle.walk_trees.specs.Trees.{OfRange, Tree}
use Rattle.walk_trees.specs.Values.{Value, value}
use Rattle.walk_trees.specs.Walks.{State, Onward, claimed_once, element_of, bounds_of, bound_facts, claim_form, least, greatest, any_of, unknown, is_number, ranged, one_number, known_form}
use Rattle.walk_trees.specs.Operators.{small_product, multiplied, product_in, product, is_over, is_under, lacks, claim_quotient, claim_divisor, is_positive, is_exact, asks_dividend, claim_dividend, divided, remaining, is_mask, are_from_zero, masked_by, masked, operate, known_operands, binary, complement, shifted, unary}
use Rattle.walk_trees.specs.Quotients.{is_power}
use Rattle.walk_trees.specs.Bits.{meet, join, differ}
use Rattle.walk_trees.specs.Covered.{is_uint, is_covered_unary}
use Rattle.walk_trees.proofs.KindEnds.{in_kind-ends, uint-is, size-is, has-is, bitwise-is}
use Rattle.walk_trees.proofs.Holding.{IsHeld, form-has, held_settles}
use Rattle.walk_trees.proofs.Shares.{keeping}
use Rattle.walk_trees.proofs.Standing.{walks, Stands, Comes, over_claim, over_facts, past_claim, past_facts, at_once, comes_from, onward, arriving, restated, told_either, Owns, owns}
use Rattle.walk_trees.proofs.Ranges.{IsForm, IsValue, form_kept, form-is, form_constant, form-sum, form-multiple, form-minus, told_by, bounds_hold, invent_sound, unknown_sound, Settles, ranged_sound}
use Rattle.walk_trees.proofs.Splits.{int_eq-not, value-known}
use Rattle.walk_trees.proofs.Divisions.{settle_in, uint-quotient, DoesNotOverflow, quotient-in, remainder-in, bits-in, and-below, or-below, xor-below, power_of, mask-left, mask-floor, and-plain, complement-bits, complement_uint-bits}
use Rattle.walk_trees.proofs.BitNumbers.{floor-is, floor-low, floor-high, floor-in}
use Rattle.walk_trees.proofs.QuotientSound.{DividesLawfully, quotient_sound, left_of, left_by_sound}
use Rattle.walk_trees.proofs.SharedSound.{form-product, shared_quotient_sound, shared_left_sound}
use Rattle.walk_trees.proofs.BitSound.{meet_sound, join_sound, differ_sound}

-- a result is a word of its kind, whose value arrives
pub record Yields {E : Type 0} (c : View E) (launch facts : List Fact) (n : ℕ) (tree : Tree E) (go : Onward E) (news : List ℤ) (variables : Owns) (r : Result Word Fault) : Type 0 where
  pub result : Word
  pub is : r ≡ Ok result
  pub right : in_kind result.kind result.value ≡ true
  pub comes : Comes c launch facts n tree go news variables (λ more x. IsValue c more result x)

-- bounds that leave out a number
over-not : (o : Option ℤ) (y z : ℤ) → is_above o y ≡ true → is_over o z ≡ true → y ≡ z → ⊥
over-not None y z h e q = cc
over-not (Some low) y z h e q = omega (arith, ints, le_test low y h, lt_test z low e, q)

under-not : (o : Option ℤ) (y z : ℤ) → is_below o y ≡ true → is_under o z ≡ true → y ≡ z → ⊥
under-not None y z h e q = cc
under-not (Some high) y z h e q = omega (arith, ints, le_test y high h, lt_test high z e, q)

pub lacks-not : (b : Bounds) (y z : ℤ) → is_within b y ≡ true → lacks b z ≡ true → y ≡ z → ⊥
lacks-not b y z h e q =
    let p = and_parts (is_above b.low y) (is_below b.high y) h in
    elim (or_cases (is_over b.low z) (is_under b.high z) e) [ inl o ↦ over-not b.low y z p.0 o q | inr o ↦ under-not b.high y z p.1 o q ]

module _ {E : Type 0} (c : View E) (launch : List Fact) where
  -- a settled result
  pub settled_yields : {facts : List Fact} {n : ℕ} {tree : Tree E} {news : List ℤ} {variables : Owns} (k : Kind) (y : ℤ) (go : Onward E) → Settles c launch facts n tree k go news variables y → Yields c launch facts n tree go news variables (settle Exact k y)
  settled_yields k y go s = record { result = word k (as_kind k y); is = s.settles; right = as_kind-in_kind k y; comes = s.comes }

  -- a number of its kind, whose form arrives
  form_yields : {facts : List Fact} {n : ℕ} {tree : Tree E} {news : List ℤ} {variables : Owns} {r : Result Word Fault} (k : Kind) (z : ℤ) (go : Onward E) → in_kind k z ≡ true → r ≡ Ok (word k z) → Comes c launch facts n tree (λ f st. go (value k f) st) news variables (λ more f. IsForm c more f z) → Yields c launch facts n tree go news variables r
  form_yields k z go h e p = record { result = word k z; is = e; right = h; comes = arriving c launch go (value k) (λ more x. IsValue c more (word k z) x) (λ more f kept m. record { kind = refl; form = m }) p }

  -- products
  by_constant : {news : List ℤ} (f g : Fact) (x y : ℤ) → f.terms ≡ [] → IsForm c news f x → IsForm c news g y → IsForm c news (multiple f.constant g) (x *ℤ y)
  by_constant f g x y e mf mg = form-is c (x *ℤ y) (ap (λ z. z *ℤ y) (value-known c launch f x mf (ap (λ ts. is_number (record { terms = ts; constant = f.constant })) e))) (form-multiple c f.constant g y mg)

  multiplied_sound : (o : Option Fact) (e : E) {facts : List Fact} {n : ℕ} {news : List ℤ} (z : ℤ) (st : State E) (go : Fact → State E → Tree E) → ((h : Fact) → o ≡ Some h → IsForm c news h z) → c.domain.has e z ≡ true → Stands c launch facts n (multiplied (walks c) o e st go) news (keeping st) → Comes c launch facts n (multiplied (walks c) o e st go) go news (owns st) (λ more h. IsForm c more h z)
  multiplied_sound None e z st go m k s = invent_sound c launch e st go z k s
  multiplied_sound (Some h) e z st go m k s =
      let b = c.domain.bounds_of e in
      let is = m h refl in
      let s1 = past_facts c launch (bound_facts h b) (λ v a. bounds_hold v h b z (is.means v a) (c.lawful.bounds e z k)) s in
      comes_from c launch (over_facts c launch (bound_facts h b)) (at_once c launch go (λ more f. IsForm c more f z) h st is s1)

  product_in_sound : (b : Bool) {facts : List Fact} {n : ℕ} {news : List ℤ} (f g : Fact) (e : E) (x y : ℤ) (st : State E) (go : Fact → State E → Tree E) → IsForm c news f x → IsForm c news g y → c.domain.has e (x *ℤ y) ≡ true → Stands c launch facts n (product_in (walks c) b f g e st go) news (keeping st) → Comes c launch facts n (product_in (walks c) b f g e st go) go news (owns st) (λ more h. IsForm c more h (x *ℤ y))
  product_in_sound true f g e x y st go mf mg k s = multiplied_sound (small_product f g) e (x *ℤ y) st go (λ h p. form-product c launch f g h x y mf mg p) k s
  product_in_sound false f g e x y st go mf mg k s = invent_sound c launch e st go (x *ℤ y) k s

  pub product_sound : (ts us : Terms) {facts : List Fact} {n : ℕ} {news : List ℤ} (f g : Fact) (x y : ℤ) (st : State E) (go : Fact → State E → Tree E) → f.terms ≡ ts → g.terms ≡ us → IsForm c news f x → IsForm c news g y → Stands c launch facts n (product (walks c) ts us f g st go) news (keeping st) → Comes c launch facts n (product (walks c) ts us f g st go) go news (owns st) (λ more h. IsForm c more h (x *ℤ y))
  product_sound ts [] f g x y st go e k mf mg s = at_once c launch go (λ more h. IsForm c more h (x *ℤ y)) (multiple g.constant f) st (form-is c (x *ℤ y) (omega (arith, ints)) (by_constant g f y x k mg mf)) s
  product_sound [] (u ∷ us) f g x y st go e k mf mg s = at_once c launch go (λ more h. IsForm c more h (x *ℤ y)) (multiple f.constant g) st (by_constant f g x y e mf mg) s
  product_sound (t ∷ ts) (u ∷ us) {news = news} f g x y st go e k mf mg s =
      let ef = element_of (walks c) st f in
      let eg = element_of (walks c) st g in
      product_in_sound c.is_wide f g (c.domain.mul_of ef eg) x y st go mf mg (c.lawful.mul ef eg x y (form-has c news st.held f x s.fit mf.means) (form-has c news st.held g y s.fit mg.means)) s

  -- what bounds leave out is no value
  lacks-value : {facts : List Fact} {n : ℕ} {tree : Tree E} {news : List ℤ} (st : State E) (f : Fact) (y z : ℤ) → IsForm c news f y → Stands c launch facts n tree news (keeping st) → lacks (bounds_of (walks c) st f) z ≡ true → y ≡ z → ⊥
  lacks-value {news = news} st f y z m s e = lacks-not (bounds_of (walks c) st f) y z (c.lawful.bounds (element_of (walks c) st f) y (form-has c news st.held f y s.fit m.means)) e

  -- the claims of a divisor
  pub record Divides (facts : List Fact) (n : ℕ) (tree : Tree E) (go : State E → Tree E) (news : List ℤ) (variables : Owns) (k : Kind) (x y : ℤ) : Type 0 where
    pub nonzero : y ≡ pos 0 → ⊥
    pub safe : DoesNotOverflow k x y
    pub comes : Comes c launch facts n tree (λ (u : Unit {0}) st. go st) news variables (λ more u. Unit {0})

  goes : {facts : List Fact} {n : ℕ} {news : List ℤ} (st : State E) (go : State E → Tree E) → Stands c launch facts n (go st) news (keeping st) → Comes c launch facts n (go st) (λ (u : Unit {0}) st'. go st') news (owns st) (λ more u. Unit {0})
  goes st go s = at_once c launch (λ (u : Unit {0}) st'. go st') (λ more u. Unit {0}) tt st tt s

  record Quotes (facts : List Fact) (n : ℕ) (tree : Tree E) (go : State E → Tree E) (news : List ℤ) (variables : Owns) (k : Kind) (x y : ℤ) : Type 0 where
    safe : DoesNotOverflow k x y
    comes : Comes c launch facts n tree (λ (u : Unit {0}) st. go st) news variables (λ more u. Unit {0})

  quotes : (k : Kind) {facts : List Fact} {n : ℕ} {news : List ℤ} (f g : Fact) (x y : ℤ) (st : State E) (go : State E → Tree E) → IsForm c news f x → IsForm c news g y → Stands c launch facts n (claim_quotient (walks c) k f g st go) news (keeping st) → Quotes facts n (claim_quotient (walks c) k f g st go) go news (owns st) k x y
  quotes Uint f g x y st go mf mg s = record { safe = tt; comes = goes st go s }
  quotes Size f g x y st go mf mg s = record { safe = tt; comes = goes st go s }
  quotes Int {news = news} f g x y st go mf mg s =
      let t = told_either c launch g (minus f (constant (negsuc 2147483646))) y (x -ℤ negsuc 2147483646) s mg.means (form-minus c f (constant (negsuc 2147483646)) x (negsuc 2147483646) (x -ℤ negsuc 2147483646) mf (form_constant c news (negsuc 2147483646)) (omega (arith, ints))).means in
      record {
        safe = elim t [
          | inl e ↦ elim (or_cases (lacks (bounds_of (walks c) st g) (negsuc 0)) (lacks (bounds_of (walks c) st f) (negsuc 2147483647)) e) [ inl o ↦ inl (lacks-value st g y (negsuc 0) mg s o) | inr o ↦ inr (lacks-value st f x (negsuc 2147483647) mf s o) ]
          | inr o ↦ elim o [ inl h ↦ inl (λ q. omega (arith, ints, h, q)) | inr h ↦ inr (λ q. omega (arith, ints, h, q)) ]
        ];
        comes = comes_from c launch (over_claim c launch) (goes (claimed_once st) go (past_claim c launch s));
      }

  pub divides : (k : Kind) {facts : List Fact} {n : ℕ} {news : List ℤ} (f g : Fact) (x y : ℤ) (st : State E) (go : State E → Tree E) → IsForm c news f x → IsForm c news g y → Stands c launch facts n (claim_divisor (walks c) k f g st go) news (keeping st) → Divides facts n (claim_divisor (walks c) k f g st go) go news (owns st) k x y
  divides k {news = news} f g x y st go mf mg s =
      let t = told_either c launch (minus g (constant (pos 1))) (minus (constant (negsuc 0)) g) (y -ℤ pos 1) (negsuc 0 -ℤ y) s (form-minus c g (constant (pos 1)) y (pos 1) (y -ℤ pos 1) mg (form_constant c news (pos 1)) (omega (arith, ints))).means (form-minus c (constant (negsuc 0)) g (negsuc 0) y (negsuc 0 -ℤ y) (form_constant c news (negsuc 0)) mg (omega (arith, ints))).means in
      let q = quotes k f g x y (claimed_once st) go mf mg (past_claim c launch s) in
      record {
        nonzero = elim t [
          | inl e ↦ lacks-value st g y (pos 0) mg s e
          | inr o ↦ elim o [ inl h ↦ (λ p. omega (arith, ints, h, p)) | inr h ↦ (λ p. omega (arith, ints, h, p)) ]
        ];
        safe = q.safe;
        comes = comes_from c launch (over_claim c launch) q.comes;
      }

  -- a dividend and a divisor of which the quotient is exact
  record Exactly (f g : Fact) (x y : ℤ) : Type 0 where
    constant : g.constant ≡ y
    low : pos 0 ≤ℤ x
    above : pos 0 <ℤ g.constant

  exactly_where : {news : List ℤ} (f g : Fact) (x y : ℤ) → IsForm c news g y → is_positive g ≡ true → pos 0 ≤ℤ x → Exactly f g x y
  exactly_where f g x y mg e low =
      let p = and_parts (is_number g) (int_lt (pos 0) g.constant) e in
      record { constant = value-known c launch g y mg p.0; low = low; above = lt_test (pos 0) g.constant p.1 }

  uint-low : (k : Kind) (x : ℤ) → in_kind k x ≡ true → is_uint k ≡ true → pos 0 ≤ℤ x
  uint-low Int x h e = cc
  uint-low Size x h e = cc
  uint-low Uint x h e = (in_kind-ends Uint x h).0

  exactly : {facts : List Fact} {n : ℕ} {tree : Tree E} {news : List ℤ} (k : Kind) (f g : Fact) (x y : ℤ) (st : State E) → in_kind k x ≡ true → IsForm c news f x → IsForm c news g y → Stands c launch facts n tree news (keeping st) → is_exact (walks c) st k f g ≡ true → Exactly f g x y
  exactly {news = news} k f g x y st hx mf mg s e =
      let p = and_parts (is_positive g) ((c.is_wide && is_uint k) || is_from_zero (bounds_of (walks c) st f).low) e in
      exactly_where f g x y mg p.0 (elim (or_cases (c.is_wide && is_uint k) (is_from_zero (bounds_of (walks c) st f).low) p.1) [
        | inl o ↦ uint-low k x hx (and_parts c.is_wide (is_uint k) o).1
        | inr o ↦ held_settles c news st.held f x s.fit mf.means o
      ])

  -- where the quotient is to be exact it is
  dividend_claimed : (b : Bool) {facts : List Fact} {n : ℕ} {news : List ℤ} (f g : Fact) (x y : ℤ) (st : State E) (go : Bool → State E → Tree E) → is_positive g ≡ true → IsForm c news f x → IsForm c news g y → Stands c launch facts n (claim_form (walks c) (OfRange Uint) b f st (λ st'. go b st')) news (keeping st) →
      Comes c launch facts n (claim_form (walks c) (OfRange Uint) b f st (λ st'. go b st')) go news (owns st) (λ more b. b ≡ true → Exactly f g x y)
  dividend_claimed true f g x y st go e mf mg s =
      let low = told_by c launch (OfRange Uint) f x st (λ st'. go true st') s mf.means in
      comes_from c launch (over_claim c launch) (at_once c launch go (λ more b. b ≡ true → Exactly f g x y) true (claimed_once st) (λ q. exactly_where f g x y mg e low) (past_claim c launch s))
  dividend_claimed false f g x y st go e mf mg s = comes_from c launch (over_claim c launch) (at_once c launch go (λ more b. b ≡ true → Exactly f g x y) false (claimed_once st) (λ q. cc) (past_claim c launch s))

  dividend_sound : (k : Kind) {facts : List Fact} {n : ℕ} {news : List ℤ} (f g : Fact) (x y : ℤ) (st : State E) (go : Bool → State E → Tree E) → in_kind k x ≡ true → IsForm c news f x → IsForm c news g y → Stands c launch facts n (claim_dividend (walks c) k f g st go) news (keeping st) →
      Comes c launch facts n (claim_dividend (walks c) k f g st go) go news (owns st) (λ more b. b ≡ true → Exactly f g x y)
  dividend_sound k {facts = facts} {n = n} {news = news} f g x y st go hx mf mg s = by (asks_dividend (walks c) st k f g) refl s
    where
      by : (b : Bool) → asks_dividend (walks c) st k f g ≡ b → Stands c launch facts n (cond b (claim_form (walks c) (OfRange Uint) (c.has_entry (st.claims + 1)) f st (λ st'. go (c.has_entry (st.claims + 1)) st')) (go (is_exact (walks c) st k f g) st)) news (keeping st) → Comes c launch facts n (cond b (claim_form (walks c) (OfRange Uint) (c.has_entry (st.claims + 1)) f st (λ st'. go (c.has_entry (st.claims + 1)) st')) (go (is_exact (walks c) st k f g) st)) go news (owns st) (λ more b. b ≡ true → Exactly f g x y)
      by true e s =
          let p = and_parts c.is_wide (is_positive g && not (is_uint k || is_from_zero (bounds_of (walks c) st f).low)) e in
          let q = and_parts (is_positive g) (not (is_uint k || is_from_zero (bounds_of (walks c) st f).low)) p.1 in
          dividend_claimed (c.has_entry (st.claims + 1)) f g x y st go q.0 mf mg s
      by false e s = at_once c launch go (λ more b. b ≡ true → Exactly f g x y) (is_exact (walks c) st k f g) st (λ q. exactly k f g x y st hx mf mg s q) s

  divided_sound : (b : Bool) (more : DividesLawfully c.domain) (k : Kind) {facts : List Fact} {n : ℕ} {news : List ℤ} (f g : Fact) (x y : ℤ) (st : State E) (go : Fact → State E → Tree E) → (b ≡ true → Exactly f g x y) → in_kind k x ≡ true → in_kind k y ≡ true → in_kind k (int_div x y) ≡ true → (y ≡ pos 0 → ⊥) → IsForm c news f x → IsForm c news g y → Stands c launch facts n (divided (walks c) b k f g st go) news (keeping st) → Comes c launch facts n (divided (walks c) b k f g st go) go news (owns st) (λ more h. IsForm c more h (int_div x y))
  divided_sound true laws k f g x y st go e hx hy h z mf mg s =
      let w = e refl in
      let p = quotient_sound c launch k f x g.constant st (λ q r st'. go q st') mf w.low w.above (ap (λ d. in_kind k (int_div x d)) w.constant ∙ h) s in
      arriving c launch go (λ (p : Fact × Fact). p.0) (λ more q. IsForm c more q (int_div x y)) (λ more q kept m. form-is c (int_div x y) (ap (int_div x) w.constant) m.0) p
  divided_sound false laws k f g x y st go e hx hy h z mf mg s = shared_quotient_sound c launch laws k f g x y st go hx hy h z mf mg s

  remaining_sound : (b : Bool) (more : DividesLawfully c.domain) (k : Kind) {facts : List Fact} {n : ℕ} {news : List ℤ} (f g : Fact) (x y : ℤ) (st : State E) (go : Fact → State E → Tree E) → (b ≡ true → Exactly f g x y) → in_kind k x ≡ true → in_kind k y ≡ true → in_kind k (int_div x y) ≡ true → (y ≡ pos 0 → ⊥) → IsForm c news f x → IsForm c news g y → Stands c launch facts n (remaining (walks c) b k f g st go) news (keeping st) → Comes c launch facts n (remaining (walks c) b k f g st go) go news (owns st) (λ more h. IsForm c more h (int_rem x y))
  remaining_sound true laws k f g x y st go e hx hy h z mf mg s =
      let w = e refl in
      let p = left_by_sound c launch k f x g.constant st go mf w.low w.above (ap (λ d. in_kind k (int_div x d)) w.constant ∙ h) s in
      restated c launch (λ more q kept m. form-is c (int_rem x y) (ap (int_rem x) w.constant) m) p
  remaining_sound false laws k f g x y st go e hx hy h z mf mg s = shared_left_sound c launch laws k f g x y st go hx hy h z mf mg s

  -- the bits of both
  masked_by_sound : (b : Bool) (laws : DividesLawfully c.domain) (k : Kind) {facts : List Fact} {n : ℕ} {news : List ℤ} (f g : Fact) (x y : ℤ) (st : State E) (go : Fact → State E → Tree E) → are_from_zero (walks c) st f g ≡ b → in_kind k x ≡ true → in_kind k y ≡ true → IsForm c news f x → IsForm c news g y → Stands c launch facts n (masked_by (walks c) b k f g st go) news (keeping st) →
      Comes c launch facts n (masked_by (walks c) b k f g st go) go news (owns st) (λ more h. IsForm c more h (read_bits k (bit_and (bits_of x) (bits_of y))))
  masked_by_sound true laws k {facts = facts} {n = n} {news = news} f g x y st go e hx hy mf mg s =
      let p = and_parts (is_from_zero (bounds_of (walks c) st f).low) (is_from_zero (bounds_of (walks c) st g).low) e in
      let ef = element_of (walks c) st f in
      let eg = element_of (walks c) st g in
      by x y hx hy (held_settles c news st.held f x s.fit mf.means p.0) (held_settles c news st.held g y s.fit mg.means p.1) (form-has c news st.held f x s.fit mf.means) (form-has c news st.held g y s.fit mg.means)
    where
      by : (x y : ℤ) → in_kind k x ≡ true → in_kind k y ≡ true → pos 0 ≤ℤ x → pos 0 ≤ℤ y → c.domain.has (element_of (walks c) st f) x ≡ true → c.domain.has (element_of (walks c) st g) y ≡ true → Comes c launch facts n (masked_by (walks c) true k f g st go) go news (owns st) (λ more h. IsForm c more h (read_bits k (bit_and (bits_of x) (bits_of y))))
      by (pos m) (pos j) hx hy lx ly ix iy = invent_sound c launch (c.domain.mask_of (element_of (walks c) st f) (element_of (walks c) st g)) st go (read_bits k (bit_and (bits_of (pos m)) (bits_of (pos j))))
          (subst (λ z. c.domain.has (c.domain.mask_of (element_of (walks c) st f) (element_of (walks c) st g)) z ≡ true) (sym (and-plain k m j hx hy)) (laws.mask (element_of (walks c) st f) (element_of (walks c) st g) m j ix iy)) s
      by (pos m) (negsuc j) hx hy lx ly ix iy = absurd (omega (arith, ints))
      by (negsuc m) y hx hy lx ly ix iy = absurd (omega (arith, ints))
  masked_by_sound false laws k f g x y st go e hx hy mf mg s =
      let z = read_bits k (bit_and (bits_of x) (bits_of y)) in
      let ends = in_kind-ends k z (bits-in k (bit_and (bits_of x) (bits_of y)) (and-below x y)) in
      invent_sound c launch (any_of c.domain k) st go z (between-has c.domain c.lawful (least k) (greatest k) z ends.0 ends.1) s

  met_sound : (b : Bool) (laws : DividesLawfully c.domain) (k : Kind) {facts : List Fact} {n : ℕ} {news : List ℤ} (f g : Fact) (x y : ℤ) (st : State E) (go : Fact → State E → Tree E) → in_kind k x ≡ true → in_kind k y ≡ true → IsForm c news f x → IsForm c news g y → Stands c launch facts n (cond b (meet (walks c) k f g st go) (masked_by (walks c) (are_from_zero (walks c) st f g) k f g st go)) news (keeping st) →
      Comes c launch facts n (cond b (meet (walks c) k f g st go) (masked_by (walks c) (are_from_zero (walks c) st f g) k f g st go)) go news (owns st) (λ more h. IsForm c more h (read_bits k (bit_and (bits_of x) (bits_of y))))
  met_sound true laws k f g x y st go hx hy mf mg s = meet_sound c launch laws k f g x y st go hx hy mf mg s
  met_sound false laws k f g x y st go hx hy mf mg s = masked_by_sound (are_from_zero (walks c) st f g) laws k f g x y st go refl hx hy mf mg s

  -- the lowest bits of both are what a quotient by a power of 2 leaves
  masked_sound : (b : Bool) (laws : DividesLawfully c.domain) (k : Kind) {facts : List Fact} {n : ℕ} {news : List ℤ} (f g : Fact) (x y : ℤ) (st : State E) (go : Fact → State E → Tree E) → is_mask c.is_wide k g ≡ b → in_kind k x ≡ true → in_kind k y ≡ true → IsForm c news f x → IsForm c news g y → Stands c launch facts n (masked (walks c) b k f g st go) news (keeping st) →
      Comes c launch facts n (masked (walks c) b k f g st go) go news (owns st) (λ more h. IsForm c more h (read_bits k (bit_and (bits_of x) (bits_of y))))
  masked_sound true laws Int f g x y st go e hx hy mf mg s =
      let p = and_parts (is_number g) (is_power 31 (g.constant +ℤ pos 1)) (and_parts c.is_wide (is_number g && is_power 31 (g.constant +ℤ pos 1)) e).1 in
      let q = power_of 31 (g.constant +ℤ pos 1) p.1 in
      let d = pos (2 ^ q.0) in
      let z = int_div_euclid x d in
      let r = int_rem_euclid x d in
      let next : y +ℤ pos 1 ≡ d = sym (ap (λ z. z +ℤ pos 1) (value-known c launch g y mg p.0)) ∙ q.2 in
      restated c launch (λ more h kept m. form-is c (read_bits Int (bit_and (bits_of x) (bits_of y))) (sym (mask-floor x y q.0 q.1 hx hy next)) m)
      (left_of c launch Int f x (g.constant +ℤ pos 1) z r st go mf (ap (λ d. r +ℤ d *ℤ z) q.2 ∙ floor-is x (2 ^ q.0) (pow_pos q.0)) (floor-low x (2 ^ q.0)) (subst (λ d. pos 0 ≤ℤ ((d -ℤ pos 1) -ℤ r)) (sym q.2) (floor-high x (2 ^ q.0) (pow_pos q.0))) (floor-in Int x (2 ^ q.0) hx) s)
  masked_sound true laws Uint f g x y st go e hx hy mf mg s =
      let p = and_parts (is_number g) (is_power 32 (g.constant +ℤ pos 1)) e in
      let q = power_of 32 (g.constant +ℤ pos 1) p.1 in
      let same : g.constant ≡ y = value-known c launch g y mg p.0 in
      let next : y +ℤ pos 1 ≡ pos (2 ^ q.0) = sym (ap (λ z. z +ℤ pos 1) same) ∙ q.2 in
      let above : pos 0 <ℤ (g.constant +ℤ pos 1) = let l = pow_pos q.0 in subst (λ d. pos 0 <ℤ d) (sym q.2) (omega (arith, ints, l)) in
      let z = read_bits Uint (bit_and (bits_of x) (bits_of y)) in
      restated c launch (λ more h kept m. form-is c z (ap (λ d. int_rem x (d +ℤ pos 1)) same ∙ sym (mask-left x y q.0 hx hy next)) m)
      (left_by_sound c launch Uint f x (g.constant +ℤ pos 1) st go mf (in_kind-ends Uint x hx).0 above (ap (λ d. in_kind Uint (int_div x d)) q.2 ∙ uint-quotient x (2 ^ q.0) hx) s)
  masked_sound true laws Size f g x y st go e hx hy mf mg s =
      let p = and_parts (is_number g) (is_power 32 (g.constant +ℤ pos 1)) e in
      let q = power_of 32 (g.constant +ℤ pos 1) p.1 in
      let same : g.constant ≡ y = value-known c launch g y mg p.0 in
      let next : y +ℤ pos 1 ≡ pos (2 ^ q.0) = sym (ap (λ z. z +ℤ pos 1) same) ∙ q.2 in
      let above : pos 0 <ℤ (g.constant +ℤ pos 1) = let l = pow_pos q.0 in subst (λ d. pos 0 <ℤ d) (sym q.2) (omega (arith, ints, l)) in
      let z = read_bits Size (bit_and (bits_of x) (bits_of y)) in
      restated c launch (λ more h kept m. form-is c z (ap (λ d. int_rem x (d +ℤ pos 1)) same ∙ sym (mask-left x y q.0 (uint-is x hx) (uint-is y hy) next)) m)
      (left_by_sound c launch Size f x (g.constant +ℤ pos 1) st go mf (in_kind-ends Size x hx).0 above (ap (λ d. in_kind Size (int_div x d)) q.2 ∙ size-is (int_div x (pos (2 ^ q.0))) (uint-quotient x (2 ^ q.0) (uint-is x hx))) s)
  masked_sound false laws k f g x y st go e hx hy mf mg s = met_sound c.is_wide laws k f g x y st go hx hy mf mg s

  -- a value of which no more is known than its kind
  unknown_yields : (k : Kind) {facts : List Fact} {n : ℕ} {news : List ℤ} {r : Result Word Fault} (z : ℤ) (st : State E) (go : Onward E) → in_kind k z ≡ true → r ≡ Ok (word k z) → Stands c launch facts n (unknown (walks c) k st go) news (keeping st) → Yields c launch facts n (unknown (walks c) k st go) go news (owns st) r
  unknown_yields k z st go h e s = record { result = word k z; is = e; right = h; comes = unknown_sound c launch k st go z h s }

  joined_yields : (b : Bool) (k : Kind) {facts : List Fact} {n : ℕ} {news : List ℤ} (f g : Fact) (x y : ℤ) (st : State E) (go : Onward E) → in_kind k x ≡ true → in_kind k y ≡ true → IsForm c news f x → IsForm c news g y → Stands c launch facts n (cond b (join (walks c) k f g st (λ h st'. go (value k h) st')) (unknown (walks c) k st go)) news (keeping st) →
      Yields c launch facts n (cond b (join (walks c) k f g st (λ h st'. go (value k h) st')) (unknown (walks c) k st go)) go news (owns st) (calculate BitOr Exact k x y)
  joined_yields true k f g x y st go hx hy mf mg s = form_yields k (read_bits k (bit_or (bits_of x) (bits_of y))) go (bits-in k (bit_or (bits_of x) (bits_of y)) (or-below x y)) (bitwise-is bit_or k x y hx hy) (join_sound c launch k f g x y st (λ h st'. go (value k h) st') hx hy mf mg s)
  joined_yields false k f g x y st go hx hy mf mg s = unknown_yields k (read_bits k (bit_or (bits_of x) (bits_of y))) st go (bits-in k (bit_or (bits_of x) (bits_of y)) (or-below x y)) (bitwise-is bit_or k x y hx hy) s

  differing_yields : (b : Bool) (k : Kind) {facts : List Fact} {n : ℕ} {news : List ℤ} (f g : Fact) (x y : ℤ) (st : State E) (go : Onward E) → in_kind k x ≡ true → in_kind k y ≡ true → IsForm c news f x → IsForm c news g y → Stands c launch facts n (cond b (differ (walks c) k f g st (λ h st'. go (value k h) st')) (unknown (walks c) k st go)) news (keeping st) →
      Yields c launch facts n (cond b (differ (walks c) k f g st (λ h st'. go (value k h) st')) (unknown (walks c) k st go)) go news (owns st) (calculate BitXor Exact k x y)
  differing_yields true k f g x y st go hx hy mf mg s = form_yields k (read_bits k (bit_xor (bits_of x) (bits_of y))) go (bits-in k (bit_xor (bits_of x) (bits_of y)) (xor-below x y)) (bitwise-is bit_xor k x y hx hy) (differ_sound c launch k f g x y st (λ h st'. go (value k h) st') hx hy mf mg s)
  differing_yields false k f g x y st go hx hy mf mg s = unknown_yields k (read_bits k (bit_xor (bits_of x) (bits_of y))) st go (bits-in k (bit_xor (bits_of x) (bits_of y)) (xor-below x y)) (bitwise-is bit_xor k x y hx hy) s

  -- an operator on two numbers of its kind
  operate_sound : (op : Operator) (laws : DividesLawfully c.domain) (k : Kind) {facts : List Fact} {n : ℕ} {news : List ℤ} (f g : Fact) (x y : ℤ) (st : State E) (go : Onward E) → in_kind k x ≡ true → in_kind k y ≡ true → IsForm c news f x → IsForm c news g y → Stands c launch facts n (operate (walks c) op k f g st go) news (keeping st) → Yields c launch facts n (operate (walks c) op k f g st go) go news (owns st) (calculate op Exact k x y)
  operate_sound Add laws k f g x y st go hx hy mf mg s = settled_yields k (x +ℤ y) go (ranged_sound c launch k (sum f g) st go (x +ℤ y) s (form-sum c f g x y mf mg))
  operate_sound Subtract laws k f g x y st go hx hy mf mg s = settled_yields k (x -ℤ y) go (ranged_sound c launch k (minus f g) st go (x -ℤ y) s (form-minus c f g x y (x -ℤ y) mf mg (omega (arith, ints))))
  operate_sound Multiply laws k f g x y st go hx hy mf mg s =
      let p = product_sound f.terms g.terms f g x y st (λ h st'. ranged (walks c) k h st' go) refl refl mf mg s in
      let t = ranged_sound c launch k p.arrived p.state go (x *ℤ y) p.stands p.right in
      settled_yields k (x *ℤ y) go (record { settles = t.settles; comes = onward c launch p t.comes })
  operate_sound Divide laws k f g x y st go hx hy mf mg s =
      let last : Fact → State E → Tree E = λ h st'. go (value k h) st' in
      let next : Bool → State E → Tree E = λ b st'. divided (walks c) b k f g st' last in
      let a = divides k f g x y st (λ st1. claim_dividend (walks c) k f g st1 next) mf mg s in
      let p = a.comes in
      let h = quotient-in k x y hx hy a.nonzero a.safe in
      let pf = form_kept c p.way.kept mf in
      let pg = form_kept c p.way.kept mg in
      let b = dividend_sound k f g x y p.state next hx pf pg p.stands in
      let d = divided_sound b.arrived laws k f g x y b.state last b.right hx hy h a.nonzero (form_kept c b.way.kept pf) (form_kept c b.way.kept pg) b.stands in
      form_yields k (int_div x y) go h (ap (λ b. cond b (Err DivisionByZero) (settle Exact k (int_div x y))) (int_eq-not y (pos 0) a.nonzero) ∙ settle_in k (int_div x y) h) (onward c launch p (onward c launch b d))
  operate_sound Remainder laws k f g x y st go hx hy mf mg s =
      let last : Fact → State E → Tree E = λ h st'. go (value k h) st' in
      let next : Bool → State E → Tree E = λ b st'. remaining (walks c) b k f g st' last in
      let a = divides k f g x y st (λ st1. claim_dividend (walks c) k f g st1 next) mf mg s in
      let p = a.comes in
      let h = quotient-in k x y hx hy a.nonzero a.safe in
      let pf = form_kept c p.way.kept mf in
      let pg = form_kept c p.way.kept mg in
      let b = dividend_sound k f g x y p.state next hx pf pg p.stands in
      let d = remaining_sound b.arrived laws k f g x y b.state last b.right hx hy h a.nonzero (form_kept c b.way.kept pf) (form_kept c b.way.kept pg) b.stands in
      let r = int_rem x y in
      form_yields k r go (remainder-in k x y hx)
      (ap (λ b. cond b (Err DivisionByZero) (cond (has Exact k (int_div x y)) (settle Exact k r) (Err Overflow))) (int_eq-not y (pos 0) a.nonzero) ∙ ap (λ b. cond b (settle Exact k r) (Err Overflow)) (has-is k (int_div x y) ∙ h) ∙ settle_in k r (remainder-in k x y hx))
      (onward c launch p (onward c launch b d))
  operate_sound BitAnd laws k f g x y st go hx hy mf mg s =
      form_yields k (read_bits k (bit_and (bits_of x) (bits_of y))) go (bits-in k (bit_and (bits_of x) (bits_of y)) (and-below x y)) (bitwise-is bit_and k x y hx hy)
      (masked_sound (is_mask c.is_wide k g) laws k f g x y st (λ h st'. go (value k h) st') refl hx hy mf mg s)
  operate_sound BitOr laws k f g x y st go hx hy mf mg s = joined_yields c.is_wide k f g x y st go hx hy mf mg s
  operate_sound BitXor laws k f g x y st go hx hy mf mg s = differing_yields c.is_wide k f g x y st go hx hy mf mg s

  -- a form of which one number is left has that value
  one_sound : {news : List ℤ} (low high : Option ℤ) (f : Fact) (z : ℤ) → is_above low z ≡ true → is_below high z ≡ true → IsForm c news f z → IsForm c news (one_number low high f) z
  one_sound None high f z a b m = m
  one_sound (Some low) None f z a b m = m
  one_sound {news = news} (Some low) (Some high) f z a b m = by (int_eq low high) refl
    where
      by : (q : Bool) → int_eq low high ≡ q → IsForm c news (cond q (constant low) f) z
      by true e = form-is c z (omega (arith, ints, le_test low z a, le_test z high b, (Decides-int_eq low high).0 e)) (form_constant c news low)
      by false e = m

  pub known_sound : {news : List ℤ} (f : Fact) (z : ℤ) (st : State E) → IsHeld c news st.held → IsForm c news f z → IsForm c news (known_form (walks c) st f) z
  known_sound {news = news} f z st k m =
      let b = bounds_of (walks c) st f in
      let p = and_parts (is_above b.low z) (is_below b.high z) (c.lawful.bounds (element_of (walks c) st f) z (form-has c news st.held f z k m.means)) in
      by c.is_wide (one_sound b.low b.high f z p.0 p.1 m)
    where
      by : (w : Bool) → IsForm c news (one_number (bounds_of (walks c) st f).low (bounds_of (walks c) st f).high f) z → IsForm c news (cond w (one_number (bounds_of (walks c) st f).low (bounds_of (walks c) st f).high f) f) z
      by true q = q
      by false q = m

  knowing : (op : Operator) (laws : DividesLawfully c.domain) (k : Kind) {facts : List Fact} {n : ℕ} {news : List ℤ} (f g : Fact) (x y : ℤ) (st : State E) (go : Onward E) → in_kind k x ≡ true → in_kind k y ≡ true → IsForm c news f x → IsForm c news g y → Stands c launch facts n (known_operands (walks c) op k f g st go) news (keeping st) → Yields c launch facts n (known_operands (walks c) op k f g st go) go news (owns st) (calculate op Exact k x y)
  knowing op laws k f g x y st go hx hy mf mg s = operate_sound op laws k (known_form (walks c) st f) (known_form (walks c) st g) x y st go hx hy (known_sound f x st s.fit mf) (known_sound g y st s.fit mg) s

  pub binary_sound : (op : Operator) (laws : DividesLawfully c.domain) (k : Kind) {facts : List Fact} {n : ℕ} {news : List ℤ} (f g : Fact) (x y : ℤ) (st : State E) (go : Onward E) → in_kind k x ≡ true → in_kind k y ≡ true → IsForm c news f x → IsForm c news g y → Stands c launch facts n (binary (walks c) op k f g st go) news (keeping st) → Yields c launch facts n (binary (walks c) op k f g st go) go news (owns st) (calculate op Exact k x y)
  binary_sound Add laws k f g x y st go hx hy mf mg s = operate_sound Add laws k f g x y st go hx hy mf mg s
  binary_sound Subtract laws k f g x y st go hx hy mf mg s = operate_sound Subtract laws k f g x y st go hx hy mf mg s
  binary_sound Multiply laws k f g x y st go hx hy mf mg s = knowing Multiply laws k f g x y st go hx hy mf mg s
  binary_sound Divide laws k f g x y st go hx hy mf mg s = knowing Divide laws k f g x y st go hx hy mf mg s
  binary_sound Remainder laws k f g x y st go hx hy mf mg s = knowing Remainder laws k f g x y st go hx hy mf mg s
  binary_sound BitAnd laws k f g x y st go hx hy mf mg s = knowing BitAnd laws k f g x y st go hx hy mf mg s
  binary_sound BitOr laws k f g x y st go hx hy mf mg s = knowing BitOr laws k f g x y st go hx hy mf mg s
  binary_sound BitXor laws k f g x y st go hx hy mf mg s = knowing BitXor laws k f g x y st go hx hy mf mg s

  -- an operator on one value
  complement_sound : (k : Kind) {facts : List Fact} {n : ℕ} {news : List ℤ} (w : Word) (f : Fact) (st : State E) (go : Onward E) → in_kind w.kind w.value ≡ true → IsForm c news f w.value → Stands c launch facts n (ranged (walks c) k (complement k f) st go) news (keeping st) → Yields c launch facts n (ranged (walks c) k (complement k f) st go) go news (owns st) (calculate_unary Complement Exact k w.value)
  complement_sound Int {news = news} w f st go h m s =
      let y = negsuc 0 -ℤ w.value in
      let t = ranged_sound c launch Int (minus (constant (negsuc 0)) f) st go y s (form-minus c (constant (negsuc 0)) f (negsuc 0) w.value y (form_constant c news (negsuc 0)) m (omega (arith, ints))) in
      record { result = word Int (as_kind Int y); is = ap (λ n. Ok (word Int (read_bits Int n))) (sym (complement-bits w.value)); right = as_kind-in_kind Int y; comes = t.comes }
  complement_sound Uint {news = news} w f st go h m s =
      let y = pos 4294967295 -ℤ w.value in
      let t = ranged_sound c launch Uint (minus (constant (pos 4294967295)) f) st go y s (form-minus c (constant (pos 4294967295)) f (pos 4294967295) w.value y (form_constant c news (pos 4294967295)) m (omega (arith, ints))) in
      record { result = word Uint (as_kind Uint y); is = ap (λ n. Ok (word Uint (read_bits Uint n))) (sym (complement_uint-bits w.kind w.value h)); right = as_kind-in_kind Uint y; comes = t.comes }
  complement_sound Size {news = news} w f st go h m s =
      let y = negsuc 0 -ℤ w.value in
      settled_yields Size y go (ranged_sound c launch Size (minus (constant (negsuc 0)) f) st go y s (form-minus c (constant (negsuc 0)) f (negsuc 0) w.value y (form_constant c news (negsuc 0)) m (omega (arith, ints))))

  shifted_sound : (from : Kind) {facts : List Fact} {n : ℕ} {news : List ℤ} (f : Fact) (x : ℤ) (by : ℕ) (st : State E) (go : Onward E) → in_kind from x ≡ true → IsForm c news f x → Stands c launch facts n (shifted (walks c) from Uint f by st go) news (keeping st) → Yields c launch facts n (shifted (walks c) from Uint f by st go) go news (owns st) (settle Exact Uint (int_div x (pos (2 ^ by))))
  shifted_sound Int f x by st go h m s = unknown_yields Uint (as_kind Uint (int_div x (pos (2 ^ by)))) st go (as_kind-in_kind Uint (int_div x (pos (2 ^ by)))) refl s
  shifted_sound Uint f x by st go h m s =
      let d = pos (2 ^ by) in
      let i = uint-quotient x (2 ^ by) h in
      let p = quotient_sound c launch Uint f x d st (λ q r st'. go (value Uint q) st') m (in_kind-ends Uint x h).0 (let l = pow_pos by in omega (arith, ints, l)) i s in
      form_yields Uint (int_div x d) go i (settle_in Uint (int_div x d) i) (arriving c launch (λ q st'. go (value Uint q) st') (λ (p : Fact × Fact). p.0) (λ more q. IsForm c more q (int_div x d)) (λ more q kept m. m.0) p)
  shifted_sound Size f x by st go h m s =
      let d = pos (2 ^ by) in
      let u = uint-is x h in
      let i = uint-quotient x (2 ^ by) u in
      let p = quotient_sound c launch Uint f x d st (λ q r st'. go (value Uint q) st') m (in_kind-ends Uint x u).0 (let l = pow_pos by in omega (arith, ints, l)) i s in
      form_yields Uint (int_div x d) go i (settle_in Uint (int_div x d) i) (arriving c launch (λ q st'. go (value Uint q) st') (λ (p : Fact × Fact). p.0) (λ more q. IsForm c more q (int_div x d)) (λ more q kept m. m.0) p)

  pub unary_sound : (op : UnaryOperator) (k : Kind) → is_covered_unary op k ≡ true → {facts : List Fact} {n : ℕ} {news : List ℤ} (w : Word) (x : Value) (st : State E) (go : Onward E) → in_kind w.kind w.value ≡ true → IsValue c news w x → Stands c launch facts n (unary (walks c) op k x st go) news (keeping st) → Yields c launch facts n (unary (walks c) op k x st go) go news (owns st) (calculate_unary op Exact k w.value)
  unary_sound Negate k e w x st go h m s = settled_yields k (neg_ℤ w.value) go (ranged_sound c launch k (multiple (negsuc 0) x.form) st go (neg_ℤ w.value) s (form-is c (neg_ℤ w.value) (omega (arith, ints)) (form-multiple c (negsuc 0) x.form w.value m.form)))
  unary_sound Complement k e w x st go h m s = complement_sound k w x.form st go h m.form s
  unary_sound (ShiftLeft by) k e w x st go h m s = settled_yields k (w.value *ℤ pos (2 ^ by)) go (ranged_sound c launch k (multiple (pos (2 ^ by)) x.form) st go (w.value *ℤ pos (2 ^ by)) s (form-is c (w.value *ℤ pos (2 ^ by)) (mul_comm (pos (2 ^ by)) w.value) (form-multiple c (pos (2 ^ by)) x.form w.value m.form)))
  unary_sound (ShiftRight by) Int e w x st go h m s = let p = and_parts (nat_lt by 32) false e in cc
  unary_sound (ShiftRight by) Size e w x st go h m s = let p = and_parts (nat_lt by 32) false e in cc
  unary_sound (ShiftRight by) Uint e w x st go h m s = shifted_sound x.kind x.form w.value by st go (subst (λ j. in_kind j w.value ≡ true) (sym m.kind) h) m.form s
