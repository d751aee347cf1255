-- What the bits of two operands promise.
use Rattle.std.proofs.Common.{◌≡◌, ℕ, zero, suc, ◌-◌, ◌/◌, ◌%◌, ◌^◌, ◌≤◌, Bool, true, false, cond, ◌&&◌, ◌||◌, List, Option, Some, None, arith, refl, sym, ap, ◌∙◌, subst, inl, inr}
use Rattle.std.specs.Prelude.{ℤ, pos, negsuc, ◌+ℤ◌, ◌-ℤ◌, ◌*ℤ◌, ◌≤ℤ◌, int_div, bit_and, bit_or, bit_xor}
use Rattle.std.specs.Int.{int_div_euclid, int_rem_euclid}
use Rattle.std.specs.Int.Bits.{or_add_and, xor_add_and}
use Rattle.std.proofs.lemmas.Int.{ints}
use Rattle.std.proofs.lemmas.Nat.{pow_pos, le_or_l, le_or_r}
use Rattle.std.proofs.lemmas.Bool.{and_parts, or_cases}
use Rattle.semantics.specs.Word.{Kind, Int, Uint, Size, in_kind, bits_of, read_bits}
use Rattle.linear.specs.Exact.{sum, multiple, fits}
use Rattle.domain.specs.Members.{is_above, is_below}
use Rattle.facts.specs.Symbols.{Fact, constant, minus}
use Rattle.facts.specs.Elements.{between, is_from_zero}
use Rattle.facts.proofs.Members.{between-has}
use Rattle.facts.proofs.Worlds.{View}
use Rattle.walk_trees.specs.Trees.{Tree}
use Rattle.walk_trees.specs.Walks.{State, element_of, bounds_of, any_of, greatest, least, is_number}
use Rattle.walk_trees.specs.Quotients.{left_by}
use Rattle.walk_trees.specs.Bits.{is_natural, tell_where, bits_from, is_upper, is_run, run_of, in_run, met, meet_any, meet_by, run_in, meet, bit_of, bit_in, with_bit, upper, widest_of, joined, join_any, join_by, joins, join, differ}
use Rattle.walk_trees.proofs.KindEnds.{in_kind-ends}
use Rattle.walk_trees.proofs.Holding.{form-has, held_settles}
use Rattle.walk_trees.proofs.Shares.{keeping}
use Rattle.walk_trees.proofs.Standing.{walks, Stands, Comes, at_once, onward, arriving, owns}
use Rattle.walk_trees.proofs.Ranges.{IsForm, form_kept, form-is, form_constant, form-sum, form-multiple, form-minus, invent_sound}
use Rattle.walk_trees.proofs.Splits.{value-known}
use Rattle.walk_trees.proofs.Divisions.{bits-in, and-below, or-below, xor-below, and-plain}
use Rattle.walk_trees.proofs.QuotientSound.{DividesLawfully, quotient_of, left_of, tell_sound}
use Rattle.walk_trees.proofs.BitNumbers.{floor-is, floor-low, floor-high, floor-in, floor-one, upper-bits, met-below, met-turned, or-plain, xor-plain}
use Rattle.walk_trees.proofs.BitTests.{run_of-is, bit_of-is, upper-is, middle-is, middle-bits, or-bit, xor-bit, upper-above, upper-below, Joined, joined-below}

-- the bits of both, and those of either or of one
abbrev both : Kind → ℤ → ℤ → ℤ
both k x y = read_bits k (bit_and (bits_of x) (bits_of y))

abbrev of_bits : (is_or : Bool) → ℕ → ℕ → ℕ
of_bits true m n = bit_or m n
of_bits false m n = bit_xor m n

abbrev either : (is_or : Bool) → Kind → ℤ → ℤ → ℤ
either o k x y = read_bits k (of_bits o (bits_of x) (bits_of y))

either-plain : (o : Bool) (k : Kind) (m n : ℕ) → in_kind k (pos m) ≡ true → in_kind k (pos n) ≡ true → either o k (pos m) (pos n) ≡ pos (of_bits o m n)
either-plain true k m n h i = or-plain k m n h i
either-plain false k m n h i = xor-plain k m n h i

either-in : (o : Bool) (k : Kind) (x y : ℤ) → in_kind k (either o k x y) ≡ true
either-in true k x y = bits-in k (bit_or (bits_of x) (bits_of y)) (or-below x y)
either-in false k x y = bits-in k (bit_xor (bits_of x) (bits_of y)) (xor-below x y)

either-joined : (o : Bool) (m n : ℕ) (z : ℤ) → Joined m n z → pos (of_bits o m n) ≤ℤ z
either-joined true m n z j = j.or
either-joined false m n z j = j.xor

either-sum : (o : Bool) (m n : ℕ) → pos (of_bits o m n) ≤ℤ (pos m +ℤ pos n)
either-sum true m n = let e = or_add_and m n in omega (arith, ints, e)
either-sum false m n = let e = xor_add_and m n in omega (arith, ints, e)

or-left : (o : Bool) (m n : ℕ) → o ≡ true → pos 0 ≤ℤ (pos (of_bits o m n) -ℤ pos m)
or-left true m n e = let l = le_or_l m n in omega (arith, ints, l)
or-left false m n e = cc

or-right : (o : Bool) (m n : ℕ) → o ≡ true → pos 0 ≤ℤ (pos (of_bits o m n) -ℤ pos n)
or-right true m n e = let l = le_or_r m n in omega (arith, ints, l)
or-right false m n e = cc

module _ {E : Type 0} (c : View E) (launch : List Fact) where
  pub natural : {facts : List Fact} {n : ℕ} {tree : Tree E} {news : List ℤ} (k : Kind) (f : Fact) (x : ℤ) (st : State E) → in_kind k x ≡ true → IsForm c news f x → Stands c launch facts n tree news (keeping st) → is_natural (walks c) st k f ≡ true → pos 0 ≤ℤ x
  natural Uint f x st h m s e = (in_kind-ends Uint x h).0
  natural {news = news} Size f x st h m s e = held_settles c news st.held f x s.fit m.means e
  natural {news = news} Int f x st h m s e = held_settles c news st.held f x s.fit m.means e

  -- the bits from a place on
  pub bits_from_sound : (b : ℕ) (k : Kind) {facts : List Fact} {n : ℕ} {news : List ℤ} (f : Fact) (x : ℤ) (st : State E) (go : Fact → State E → Tree E) → in_kind k x ≡ true → IsForm c news f x → Stands c launch facts n (bits_from (walks c) k f b st go) news (keeping st) →
      Comes c launch facts n (bits_from (walks c) k f b st go) go news (owns st) (λ more h. IsForm c more h (int_div_euclid x (pos (2 ^ b))))
  bits_from_sound zero k f x st go h m s = at_once c launch go (λ more h. IsForm c more h (int_div_euclid x (pos 1))) f st (form-is c (int_div_euclid x (pos 1)) (sym (floor-one x)) m) s
  bits_from_sound (suc b) k f x st go h m s =
      let d = 2 ^ suc b in
      let z = pow_pos (suc b) in
      arriving c launch go (λ (p : Fact × Fact). p.0) (λ more q. IsForm c more q (int_div_euclid x (pos d))) (λ more q kept m. m.0)
      (quotient_of c launch k f x (pos d) (int_div_euclid x (pos d)) (int_rem_euclid x (pos d)) st (λ q r st'. go q st') m (floor-is x d z) (floor-low x d) (floor-high x d z) (floor-in k x d h) s)

  -- bits in a run
  run_sound : (u : Bool) (k : Kind) {facts : List Fact} {n : ℕ} {news : List ℤ} (b : ℕ) (x y : ℤ) (q : Fact) (st : State E) (go : Fact → State E → Tree E) → is_upper k b y ≡ u → is_run k b y ≡ true → b ≤ 31 → in_kind k x ≡ true → in_kind k y ≡ true → IsForm c news q (int_div_euclid x (pos (2 ^ b))) →
      Stands c launch facts n (cond u (go (multiple (pos (2 ^ b)) q) st) (left_by (walks c) k q (int_div (y +ℤ pos (2 ^ b)) (pos (2 ^ b))) st (λ r st2. go (multiple (pos (2 ^ b)) r) st2))) news (keeping st) →
      Comes c launch facts n (cond u (go (multiple (pos (2 ^ b)) q) st) (left_by (walks c) k q (int_div (y +ℤ pos (2 ^ b)) (pos (2 ^ b))) st (λ r st2. go (multiple (pos (2 ^ b)) r) st2))) go news (owns st) (λ more h. IsForm c more h (both k x y))
  run_sound true k b x y q st go e r l hx hy m s =
      let same : both k x y ≡ pos (2 ^ b) *ℤ int_div_euclid x (pos (2 ^ b)) = ap (λ n. read_bits k (bit_and (bits_of x) n)) (upper-is k y b hy e) ∙ upper-bits k x (31 - b) b hx (omega (arith, l)) in
      at_once c launch go (λ more h. IsForm c more h (both k x y)) (multiple (pos (2 ^ b)) q) st (form-is c (both k x y) (sym same) (form-multiple c (pos (2 ^ b)) q (int_div_euclid x (pos (2 ^ b))) m)) s
  run_sound false k b x y q st go e r l hx hy m s =
      let p = middle-is k y b r e in
      let v = int_div_euclid x (pos (2 ^ b)) in
      let w = 2 ^ p.wide in
      let d = int_div (y +ℤ pos (2 ^ b)) (pos (2 ^ b)) in
      let i : in_kind k v ≡ true = floor-in k x (2 ^ b) hx in
      let is : int_rem_euclid v (pos w) +ℤ d *ℤ int_div_euclid v (pos w) ≡ v = ap (λ z. int_rem_euclid v (pos w) +ℤ z *ℤ int_div_euclid v (pos w)) p.quotient ∙ floor-is v w (pow_pos p.wide) in
      let top : pos 0 ≤ℤ ((d -ℤ pos 1) -ℤ int_rem_euclid v (pos w)) = subst (λ z. pos 0 ≤ℤ ((z -ℤ pos 1) -ℤ int_rem_euclid v (pos w))) (sym p.quotient) (floor-high v w (pow_pos p.wide)) in
      arriving c launch go (multiple (pos (2 ^ b))) (λ more h. IsForm c more h (both k x y)) (λ more r kept m. form-is c (both k x y) (sym (middle-bits k x y b p hx)) (form-multiple c (pos (2 ^ b)) r (int_rem_euclid v (pos w)) m))
      (left_of c launch k q v d (int_div_euclid v (pos w)) (int_rem_euclid v (pos w)) st (λ r st2. go (multiple (pos (2 ^ b)) r) st2) m is (floor-low v w) top (floor-in k v w i) s)

  in_run_sound : (k : Kind) {facts : List Fact} {n : ℕ} {news : List ℤ} (b : ℕ) (f : Fact) (x y : ℤ) (st : State E) (go : Fact → State E → Tree E) → is_run k b y ≡ true → b ≤ 31 → in_kind k x ≡ true → in_kind k y ≡ true → IsForm c news f x → Stands c launch facts n (in_run (walks c) k f b y st go) news (keeping st) →
      Comes c launch facts n (in_run (walks c) k f b y st go) go news (owns st) (λ more h. IsForm c more h (both k x y))
  in_run_sound k b f x y st go r l hx hy m s =
      let p = bits_from_sound b k f x st (λ q st1. cond (is_upper k b y) (go (multiple (pos (2 ^ b)) q) st1) (left_by (walks c) k q (int_div (y +ℤ pos (2 ^ b)) (pos (2 ^ b))) st1 (λ r st2. go (multiple (pos (2 ^ b)) r) st2))) hx m s in
      onward c launch p (run_sound (is_upper k b y) k b x y p.arrived p.state go refl r l hx hy p.right p.stands)

  -- what is known of both beforehand
  mask_has : (laws : DividesLawfully c.domain) (k : Kind) (a b : E) (x y : ℤ) → in_kind k x ≡ true → in_kind k y ≡ true → pos 0 ≤ℤ x → pos 0 ≤ℤ y → c.domain.has a x ≡ true → c.domain.has b y ≡ true → c.domain.has (c.domain.mask_of a b) (both k x y) ≡ true
  mask_has laws k a b (pos m) (pos n) hx hy lx ly ix iy = subst (λ z. c.domain.has (c.domain.mask_of a b) z ≡ true) (sym (and-plain k m n hx hy)) (laws.mask a b m n ix iy)
  mask_has laws k a b (pos m) (negsuc n) hx hy lx ly ix iy = absurd (omega (arith, ints))
  mask_has laws k a b (negsuc m) y hx hy lx ly ix iy = absurd (omega (arith, ints))

  both-in : (k : Kind) (x y : ℤ) → in_kind k (both k x y) ≡ true
  both-in k x y = bits-in k (bit_and (bits_of x) (bits_of y)) (and-below x y)

  both-below : (k : Kind) (x y : ℤ) → in_kind k y ≡ true → pos 0 ≤ℤ y → (pos 0 ≤ℤ both k x y) × (both k x y ≤ℤ y)
  both-below k x y h l = subst (λ z. (pos 0 ≤ℤ z) × (z ≤ℤ y)) (met-turned k y x) (met-below k y x h l)

  pub any_has : (k : Kind) (z : ℤ) → in_kind k z ≡ true → c.domain.has (any_of c.domain k) z ≡ true
  any_has k z h = let ends = in_kind-ends k z h in between-has c.domain c.lawful (least k) (greatest k) z ends.0 ends.1

  natural_has : (b : Bool) (k : Kind) (x y : ℤ) → (b ≡ true → pos 0 ≤ℤ both k x y) → c.domain.has (cond b (between c.domain (pos 0) (greatest k)) (any_of c.domain k)) (both k x y) ≡ true
  natural_has true k x y h = between-has c.domain c.lawful (pos 0) (greatest k) (both k x y) (h refl) (in_kind-ends k (both k x y) (both-in k x y)).1
  natural_has false k x y h = any_has k (both k x y) (both-in k x y)

  met_has : (b : Bool) (laws : DividesLawfully c.domain) (k : Kind) {facts : List Fact} {n : ℕ} {tree : Tree E} {news : List ℤ} (f g : Fact) (x y : ℤ) (st : State E) → (is_from_zero (bounds_of (walks c) st f).low && is_from_zero (bounds_of (walks c) st g).low) ≡ b → in_kind k x ≡ true → in_kind k y ≡ true → IsForm c news f x → IsForm c news g y → Stands c launch facts n tree news (keeping st) →
      c.domain.has (cond b (c.domain.mask_of (element_of (walks c) st f) (element_of (walks c) st g)) (cond (is_natural (walks c) st k f || is_natural (walks c) st k g) (between c.domain (pos 0) (greatest k)) (any_of c.domain k))) (both k x y) ≡ true
  met_has true laws k {news = news} f g x y st e hx hy mf mg s =
      let p = and_parts (is_from_zero (bounds_of (walks c) st f).low) (is_from_zero (bounds_of (walks c) st g).low) e in
      mask_has laws k (element_of (walks c) st f) (element_of (walks c) st g) x y hx hy (held_settles c news st.held f x s.fit mf.means p.0) (held_settles c news st.held g y s.fit mg.means p.1) (form-has c news st.held f x s.fit mf.means) (form-has c news st.held g y s.fit mg.means)
  met_has false laws k f g x y st e hx hy mf mg s =
      natural_has (is_natural (walks c) st k f || is_natural (walks c) st k g) k x y (λ t. elim (or_cases (is_natural (walks c) st k f) (is_natural (walks c) st k g) t) [
        | inl u ↦ (met-below k x y hx (natural k f x st hx mf s u)).0
        | inr u ↦ (both-below k x y hy (natural k g y st hy mg s u)).0
      ])

  -- at most each operand that is not negative
  meet_any_sound : (laws : DividesLawfully c.domain) (k : Kind) {facts : List Fact} {n : ℕ} {news : List ℤ} (f g : Fact) (x y : ℤ) (st : State E) (go : Fact → State E → Tree E) → in_kind k x ≡ true → in_kind k y ≡ true → IsForm c news f x → IsForm c news g y → Stands c launch facts n (meet_any (walks c) k f g st go) news (keeping st) →
      Comes c launch facts n (meet_any (walks c) k f g st go) go news (owns st) (λ more h. IsForm c more h (both k x y))
  meet_any_sound laws k f g x y st go hx hy mf mg s =
      let z = both k x y in
      let a = is_natural (walks c) st k f in
      let b = is_natural (walks c) st k g in
      let e = met_has (is_from_zero (bounds_of (walks c) st f).low && is_from_zero (bounds_of (walks c) st g).low) laws k f g x y st refl hx hy mf mg s in
      let p = invent_sound c launch (met (walks c) st k f g) st (λ r st1. tell_where (walks c) a (minus f r) st1 (λ st2. tell_where (walks c) b (minus g r) st2 (λ st3. go r st3))) z e s in
      let r = p.arrived in
      let t = tell_sound c launch a (minus f r) (x -ℤ z) p.state (λ st2. tell_where (walks c) b (minus g r) st2 (λ st3. go r st3)) (form-minus c f r x z (x -ℤ z) (form_kept c p.way.kept mf) p.right (omega (arith, ints))) (λ i. let l = (met-below k x y hx (natural k f x st hx mf s i)).1 in omega (arith, ints, l)) p.stands in
      let is = form_kept c t.way.kept p.right in
      let u = tell_sound c launch b (minus g r) (y -ℤ z) t.state (λ st3. go r st3) (form-minus c g r y z (y -ℤ z) (form_kept c t.way.kept (form_kept c p.way.kept mg)) is (omega (arith, ints))) (λ i. let l = (both-below k x y hy (natural k g y st hy mg s i)).1 in omega (arith, ints, l)) t.stands in
      onward c launch p (onward c launch t (onward c launch u (at_once c launch go (λ more h. IsForm c more h z) r u.state (form_kept c u.way.kept is) u.stands)))

  run_of_number : (t : Bool) (k : Kind) (g : Fact) (b : ℕ) → is_number g ≡ t → cond t (run_of 31 k g.constant) None ≡ Some b → (is_number g ≡ true) × (is_run k b g.constant ≡ true) × (b ≤ 31)
  run_of_number true k g b e h = let p = run_of-is 31 k g.constant b h in (e, p.0, p.1)
  run_of_number false k g b e h = cc

  meet_by_sound : (o : Option ℕ) (laws : DividesLawfully c.domain) (k : Kind) {facts : List Fact} {n : ℕ} {news : List ℤ} (f g : Fact) (x y : ℤ) (st : State E) (go : Fact → State E → Tree E) → run_in k g ≡ o → in_kind k x ≡ true → in_kind k y ≡ true → IsForm c news f x → IsForm c news g y → Stands c launch facts n (meet_by (walks c) o k f g st go) news (keeping st) →
      Comes c launch facts n (meet_by (walks c) o k f g st go) go news (owns st) (λ more h. IsForm c more h (both k x y))
  meet_by_sound None laws k f g x y st go e hx hy mf mg s = meet_any_sound laws k f g x y st go hx hy mf mg s
  meet_by_sound (Some b) laws k {facts = facts} {n = n} {news = news} f g x y st go e hx hy mf mg s =
      let p = run_of_number (is_number g) k g b refl e in
      let same : g.constant ≡ y = value-known c launch g y mg p.0 in
      subst (λ z. Comes c launch facts n (in_run (walks c) k f b g.constant st go) go news (owns st) (λ more h. IsForm c more h (both k x z))) same
      (in_run_sound k b f x g.constant st go p.1 p.2 hx (subst (λ z. in_kind k z ≡ true) (sym same) hy) mf s)

  -- `x & y`
  pub meet_sound : (laws : DividesLawfully c.domain) (k : Kind) {facts : List Fact} {n : ℕ} {news : List ℤ} (f g : Fact) (x y : ℤ) (st : State E) (go : Fact → State E → Tree E) → in_kind k x ≡ true → in_kind k y ≡ true → IsForm c news f x → IsForm c news g y → Stands c launch facts n (meet (walks c) k f g st go) news (keeping st) →
      Comes c launch facts n (meet (walks c) k f g st go) go news (owns st) (λ more h. IsForm c more h (read_bits k (bit_and (bits_of x) (bits_of y))))
  meet_sound laws k f g x y st go hx hy mf mg s = meet_by_sound (run_in k g) laws k f g x y st go refl hx hy mf mg s

  -- with one bit more, or without it
  with_bit_sound : (k : Kind) {facts : List Fact} {n : ℕ} {news : List ℤ} (b : ℕ) (f : Fact) (x t z : ℤ) (st : State E) (go : Fact → State E → Tree E) → z +ℤ t *ℤ int_rem_euclid (int_div_euclid x (pos (2 ^ b))) (pos 2) ≡ x +ℤ pos (2 ^ b) → pos 0 ≤ℤ z → in_kind k x ≡ true → IsForm c news f x → Stands c launch facts n (with_bit (walks c) k f b t st go) news (keeping st) →
      Comes c launch facts n (with_bit (walks c) k f b t st go) go news (owns st) (λ more h. IsForm c more h z)
  with_bit_sound k b f x t z st go e l hx m s =
      let v = int_div_euclid x (pos (2 ^ b)) in
      let w = int_rem_euclid v (pos 2) in
      let more : Fact → Fact = λ r. minus (sum f (constant (pos (2 ^ b)))) (multiple t r) in
      let then : Fact → State E → Tree E = λ r st2. tell_where (walks c) true (more r) st2 (λ st3. go (more r) st3) in
      let p = bits_from_sound b k f x st (λ q st1. left_by (walks c) k q (pos 2) st1 then) hx m s in
      let i : in_kind k v ≡ true = floor-in k x (2 ^ b) hx in
      let q = left_of c launch k p.arrived v (pos 2) (int_div_euclid v (pos 2)) w p.state then p.right (floor-is v 2 (omega arith)) (floor-low v 2) (floor-high v 2 (omega arith)) (floor-in k v 2 i) p.stands in
      let r = q.arrived in
      let y = x +ℤ pos (2 ^ b) in
      let is : IsForm c q.more (more r) z = form-minus c (sum f (constant (pos (2 ^ b)))) (multiple t r) y (t *ℤ w) z (form-sum c f (constant (pos (2 ^ b))) x (pos (2 ^ b)) (form_kept c q.way.kept (form_kept c p.way.kept m)) (form_constant c q.more (pos (2 ^ b)))) (form-multiple c t r w q.right) e in
      let u = tell_sound c launch true (more r) z q.state (λ st3. go (more r) st3) is (λ j. l) q.stands in
      onward c launch p (onward c launch q (onward c launch u (at_once c launch go (λ more h. IsForm c more h z) (more r) u.state (form_kept c u.way.kept is) u.stands)))

  -- each bit is one of an operand's
  joined_has : (o : Bool) (k : Kind) {facts : List Fact} {n : ℕ} {tree : Tree E} {news : List ℤ} (f g : Fact) (x y : ℕ) (st : State E) → in_kind k (pos x) ≡ true → in_kind k (pos y) ≡ true → IsForm c news f (pos x) → IsForm c news g (pos y) → Stands c launch facts n tree news (keeping st) → c.domain.has (joined (walks c) st k f g) (pos (of_bits o x y)) ≡ true
  joined_has o k {news = news} f g x y st hx hy mf mg s =
      let a = bounds_of (walks c) st f in
      let b = bounds_of (walks c) st g in
      let i = (and_parts (is_above a.low (pos x)) (is_below a.high (pos x)) (c.lawful.bounds (element_of (walks c) st f) (pos x) (form-has c news st.held f (pos x) s.fit mf.means))).1 in
      let j = (and_parts (is_above b.low (pos y)) (is_below b.high (pos y)) (c.lawful.bounds (element_of (walks c) st g) (pos y) (form-has c news st.held g (pos y) s.fit mg.means))).1 in
      let z = widest_of (walks c) st k f g in
      let m = joined-below x y (upper k a.high) (upper k b.high) (upper-above k a.high (pos x) i (in_kind-ends k (pos x) hx).1) (upper-above k b.high (pos y) j (in_kind-ends k (pos y) hy).1) (upper-below k a.high) (upper-below k b.high) in
      between-has c.domain c.lawful (pos 0) z (pos (of_bits o x y)) (omega (arith, ints)) (either-joined o x y z m)

  join_any_sound : (o : Bool) (k : Kind) {facts : List Fact} {n : ℕ} {news : List ℤ} (f g : Fact) (x y : ℕ) (st : State E) (go : Fact → State E → Tree E) → in_kind k (pos x) ≡ true → in_kind k (pos y) ≡ true → IsForm c news f (pos x) → IsForm c news g (pos y) → Stands c launch facts n (join_any (walks c) o k f g st go) news (keeping st) →
      Comes c launch facts n (join_any (walks c) o k f g st go) go news (owns st) (λ more h. IsForm c more h (pos (of_bits o x y)))
  join_any_sound o k f g x y st go hx hy mf mg s =
      let z = pos (of_bits o x y) in
      let d = fits (sum f g) in
      let last : Fact → State E → Tree E = λ r st3. tell_where (walks c) d (minus (sum f g) r) st3 (λ st4. go r st4) in
      let second : Fact → State E → Tree E = λ r st2. tell_where (walks c) o (minus r g) st2 (λ st3. last r st3) in
      let p = invent_sound c launch (joined (walks c) st k f g) st (λ r st1. tell_where (walks c) o (minus r f) st1 (λ st2. second r st2)) z (joined_has o k f g x y st hx hy mf mg s) s in
      let r = p.arrived in
      let pf = form_kept c p.way.kept mf in
      let pg = form_kept c p.way.kept mg in
      let t = tell_sound c launch o (minus r f) (z -ℤ pos x) p.state (λ st2. second r st2) (form-minus c r f z (pos x) (z -ℤ pos x) p.right pf (omega (arith, ints))) (or-left o x y) p.stands in
      let tr = form_kept c t.way.kept p.right in
      let tf = form_kept c t.way.kept pf in
      let tg = form_kept c t.way.kept pg in
      let u = tell_sound c launch o (minus r g) (z -ℤ pos y) t.state (λ st3. last r st3) (form-minus c r g z (pos y) (z -ℤ pos y) tr tg (omega (arith, ints))) (or-right o x y) t.stands in
      let ur = form_kept c u.way.kept tr in
      let most = pos x +ℤ pos y in
      let l = either-sum o x y in
      let w = tell_sound c launch d (minus (sum f g) r) (most -ℤ z) u.state (λ st4. go r st4) (form-minus c (sum f g) r most z (most -ℤ z) (form-sum c f g (pos x) (pos y) (form_kept c u.way.kept tf) (form_kept c u.way.kept tg)) ur (omega (arith, ints))) (λ e. omega (arith, ints, l)) u.stands in
      onward c launch p (onward c launch t (onward c launch u (onward c launch w (at_once c launch go (λ more h. IsForm c more h z) r w.state (form_kept c w.way.kept ur) w.stands))))

  bit_of_number : (t : Bool) (g : Fact) (b : ℕ) → is_number g ≡ t → cond t (bit_of 30 g.constant) None ≡ Some b → (is_number g ≡ true) × (g.constant ≡ pos (2 ^ b))
  bit_of_number true g b e h = (e, bit_of-is 30 g.constant b h)
  bit_of_number false g b e h = cc

  bit_sound : (o : Bool) (k : Kind) {facts : List Fact} {n : ℕ} {news : List ℤ} (b : ℕ) (f g : Fact) (x y : ℕ) (st : State E) (go : Fact → State E → Tree E) → y ≡ 2 ^ b → in_kind k (pos x) ≡ true → IsForm c news f (pos x) → Stands c launch facts n (join_by (walks c) (Some b) o k f g st go) news (keeping st) →
      Comes c launch facts n (join_by (walks c) (Some b) o k f g st go) go news (owns st) (λ more h. IsForm c more h (pos (of_bits o x y)))
  bit_sound true k b f g x y st go e hx mf s = with_bit_sound k b f (pos x) (pos (2 ^ b)) (pos (bit_or x y)) st go (ap (λ z. pos (bit_or x z) +ℤ pos (2 ^ b) *ℤ pos (x / 2 ^ b % 2)) e ∙ or-bit x b) (omega (arith, ints)) hx mf s
  bit_sound false k b f g x y st go e hx mf s = with_bit_sound k b f (pos x) (pos (2 ^ suc b)) (pos (bit_xor x y)) st go (ap (λ z. pos (bit_xor x z) +ℤ pos (2 ^ suc b) *ℤ pos (x / 2 ^ b % 2)) e ∙ xor-bit x b) (omega (arith, ints)) hx mf s

  join_by_sound : (i : Option ℕ) (o : Bool) (k : Kind) {facts : List Fact} {n : ℕ} {news : List ℤ} (f g : Fact) (x y : ℕ) (st : State E) (go : Fact → State E → Tree E) → bit_in g ≡ i → in_kind k (pos x) ≡ true → in_kind k (pos y) ≡ true → IsForm c news f (pos x) → IsForm c news g (pos y) → Stands c launch facts n (join_by (walks c) i o k f g st go) news (keeping st) →
      Comes c launch facts n (join_by (walks c) i o k f g st go) go news (owns st) (λ more h. IsForm c more h (pos (of_bits o x y)))
  join_by_sound None o k f g x y st go e hx hy mf mg s = join_any_sound o k f g x y st go hx hy mf mg s
  join_by_sound (Some b) o k f g x y st go e hx hy mf mg s =
      let p = bit_of_number (is_number g) g b refl e in
      let same : g.constant ≡ pos y = value-known c launch g (pos y) mg p.0 in
      bit_sound o k b f g x y st go (omega (arith, ints, sym same ∙ p.1)) hx mf s

  natural_sound : (o : Bool) (k : Kind) {facts : List Fact} {n : ℕ} {news : List ℤ} (f g : Fact) (x y : ℤ) (st : State E) (go : Fact → State E → Tree E) → pos 0 ≤ℤ x → pos 0 ≤ℤ y → in_kind k x ≡ true → in_kind k y ≡ true → IsForm c news f x → IsForm c news g y → Stands c launch facts n (join_by (walks c) (bit_in g) o k f g st go) news (keeping st) →
      Comes c launch facts n (join_by (walks c) (bit_in g) o k f g st go) go news (owns st) (λ more h. IsForm c more h (either o k x y))
  natural_sound o k {facts = facts} {n = n} {news = news} f g (pos x) (pos y) st go lx ly hx hy mf mg s =
      subst (λ z. Comes c launch facts n (join_by (walks c) (bit_in g) o k f g st go) go news (owns st) (λ more h. IsForm c more h z)) (sym (either-plain o k x y hx hy)) (join_by_sound (bit_in g) o k f g x y st go refl hx hy mf mg s)
  natural_sound o k f g (pos x) (negsuc y) st go lx ly hx hy mf mg s = absurd (omega (arith, ints))
  natural_sound o k f g (negsuc x) y st go lx ly hx hy mf mg s = absurd (omega (arith, ints))

  joins_sound : (b o : Bool) (k : Kind) {facts : List Fact} {n : ℕ} {news : List ℤ} (f g : Fact) (x y : ℤ) (st : State E) (go : Fact → State E → Tree E) → (is_natural (walks c) st k f && is_natural (walks c) st k g) ≡ b → in_kind k x ≡ true → in_kind k y ≡ true → IsForm c news f x → IsForm c news g y → Stands c launch facts n (joins (walks c) b o k f g st go) news (keeping st) →
      Comes c launch facts n (joins (walks c) b o k f g st go) go news (owns st) (λ more h. IsForm c more h (either o k x y))
  joins_sound true o k f g x y st go e hx hy mf mg s =
      let p = and_parts (is_natural (walks c) st k f) (is_natural (walks c) st k g) e in
      natural_sound o k f g x y st go (natural k f x st hx mf s p.0) (natural k g y st hy mg s p.1) hx hy mf mg s
  joins_sound false o k f g x y st go e hx hy mf mg s = invent_sound c launch (any_of c.domain k) st go (either o k x y) (any_has k (either o k x y) (either-in o k x y)) s

  -- `x | y`
  pub join_sound : (k : Kind) {facts : List Fact} {n : ℕ} {news : List ℤ} (f g : Fact) (x y : ℤ) (st : State E) (go : Fact → State E → Tree E) → in_kind k x ≡ true → in_kind k y ≡ true → IsForm c news f x → IsForm c news g y → Stands c launch facts n (join (walks c) k f g st go) news (keeping st) →
      Comes c launch facts n (join (walks c) k f g st go) go news (owns st) (λ more h. IsForm c more h (read_bits k (bit_or (bits_of x) (bits_of y))))
  join_sound k f g x y st go hx hy mf mg s = joins_sound (is_natural (walks c) st k f && is_natural (walks c) st k g) true k f g x y st go refl hx hy mf mg s

  -- `x ^ y`
  pub differ_sound : (k : Kind) {facts : List Fact} {n : ℕ} {news : List ℤ} (f g : Fact) (x y : ℤ) (st : State E) (go : Fact → State E → Tree E) → in_kind k x ≡ true → in_kind k y ≡ true → IsForm c news f x → IsForm c news g y → Stands c launch facts n (differ (walks c) k f g st go) news (keeping st) →
      Comes c launch facts n (differ (walks c) k f g st go) go news (owns st) (λ more h. IsForm c more h (read_bits k (bit_xor (bits_of x) (bits_of y))))
  differ_sound k f g x y st go hx hy mf mg s = joins_sound (is_natural (walks c) st k f && is_natural (walks c) st k g) false k f g x y st go refl hx hy mf mg s
