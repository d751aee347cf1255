-- What quotients promise, what they leave, and facts that narrow.
use Rattle.std.proofs.Common.{◌≡◌, ℕ, Bool, true, false, cond, List, arith, refl}
use Rattle.std.specs.Prelude.{ℤ, pos, ◌+ℤ◌, ◌-ℤ◌, ◌*ℤ◌, ◌≤ℤ◌, ◌<ℤ◌, int_div, int_rem, bit_and}
use Rattle.std.proofs.lemmas.Int.{ints}
use Rattle.semantics.specs.Word.{Kind, in_kind}
use Rattle.linear.specs.Linear.{value_of}
use Rattle.linear.specs.Exact.{multiple}
use Rattle.domain.specs.declared.Domain.{Ghosts}
use Rattle.facts.specs.Symbols.{Fact, constant, minus}
use Rattle.facts.specs.Elements.{between}
use Rattle.facts.proofs.Members.{between-has}
use Rattle.facts.proofs.Worlds.{View, Agrees}
use Rattle.walk_trees.specs.Held.{narrow}
use Rattle.walk_trees.specs.Trees.{Tree, Know}
use Rattle.walk_trees.specs.Walks.{State, holding, least, greatest, any_of}
use Rattle.walk_trees.specs.Quotients.{left_over, quotient, named_by, named, left_by}
use Rattle.walk_trees.specs.Bits.{tell_where}
use Rattle.walk_trees.proofs.KindEnds.{in_kind-ends}
use Rattle.walk_trees.proofs.Holding.{known_of}
use Rattle.walk_trees.proofs.Shares.{keeping}
use Rattle.walk_trees.proofs.Standing.{walks, Stands, Comes, way_then, over_fact, past_fact, narrowed, at_once, comes_from, onward, owns}
use Rattle.walk_trees.proofs.Ranges.{IsForm, form_kept, form_constant, form-multiple, form-minus, invent_sound}
use Rattle.walk_trees.proofs.Divisions.{left-is, left-low, left-high}

-- what the walk of operators asks of a domain besides
pub record DividesLawfully {E : Type 0} (g : Ghosts E) : Type 0 where
  pub div : (a b : E) (x y : ℤ) → g.has a x ≡ true → g.has b y ≡ true → (y ≡ pos 0 → ⊥) → g.has (g.div_of a b) (int_div x y) ≡ true
  pub rem : (a b : E) (x y : ℤ) → g.has a x ≡ true → g.has b y ≡ true → (y ≡ pos 0 → ⊥) → g.has (g.rem_of a b) (int_rem x y) ≡ true
  pub mask : (a b : E) (m n : ℕ) → g.has a (pos m) ≡ true → g.has b (pos n) ≡ true → g.has (g.mask_of a b) (pos (bit_and m n)) ≡ true

module _ {E : Type 0} (c : View E) (launch : List Fact) where
  -- a quotient and what it leaves, which is from 0 up to below the divisor
  pub quotient_of : (k : Kind) {facts : List Fact} {n : ℕ} {news : List ℤ} (f : Fact) (x d z r : ℤ) (st : State E) (go : Fact → Fact → State E → Tree E) → IsForm c news f x → r +ℤ d *ℤ z ≡ x → pos 0 ≤ℤ r → pos 0 ≤ℤ ((d -ℤ pos 1) -ℤ r) → in_kind k z ≡ true → Stands c launch facts n (quotient (walks c) k f d st go) news (keeping st) →
      Comes c launch facts n (quotient (walks c) k f d st go) (λ (p : Fact × Fact) st'. go p.0 p.1 st') news (owns st) (λ more p. IsForm c more p.0 z × IsForm c more p.1 r)
  quotient_of k f x d z r st go m e low top h s =
      let ends = in_kind-ends k z h in
      let next : Fact → State E → Tree E = λ q st'. Know (left_over f d q) (Know (minus (constant (d -ℤ pos 1)) (left_over f d q)) (go q (left_over f d q) st')) in
      let p = invent_sound c launch (any_of c.domain k) st next z (between-has c.domain c.lawful (least k) (greatest k) z ends.0 ends.1) s in
      let left : IsForm c p.more (left_over f d p.arrived) r = form-minus c f (multiple d p.arrived) x (d *ℤ z) r (form_kept c p.way.kept m) (form-multiple c d p.arrived z p.right) e in
      let high : IsForm c p.more (minus (constant (d -ℤ pos 1)) (left_over f d p.arrived)) ((d -ℤ pos 1) -ℤ r) = form-minus c (constant (d -ℤ pos 1)) (left_over f d p.arrived) (d -ℤ pos 1) r ((d -ℤ pos 1) -ℤ r) (form_constant c p.more (d -ℤ pos 1)) left (omega (arith, ints)) in
      onward c launch p (comes_from c launch (way_then c launch (over_fact c launch) (over_fact c launch))
      (at_once c launch (λ (p : Fact × Fact) st'. go p.0 p.1 st') (λ more q. IsForm c more q.0 z × IsForm c more q.1 r) (p.arrived, left_over f d p.arrived) p.state (p.right, left)
      (past_fact c launch (λ v a. omega (arith, ints, high.means v a, top)) (past_fact c launch (λ v a. omega (arith, ints, left.means v a, low)) p.stands))))

  pub quotient_sound : (k : Kind) {facts : List Fact} {n : ℕ} {news : List ℤ} (f : Fact) (x d : ℤ) (st : State E) (go : Fact → Fact → State E → Tree E) → IsForm c news f x → pos 0 ≤ℤ x → pos 0 <ℤ d → in_kind k (int_div x d) ≡ true → Stands c launch facts n (quotient (walks c) k f d st go) news (keeping st) →
      Comes c launch facts n (quotient (walks c) k f d st go) (λ (p : Fact × Fact) st'. go p.0 p.1 st') news (owns st) (λ more p. IsForm c more p.0 (int_div x d) × IsForm c more p.1 (int_rem x d))
  quotient_sound k f x d st go m hx hd h s = quotient_of k f x d (int_div x d) (int_rem x d) st go m (left-is x d) (left-low x d hx) (left-high x d hx hd) h s

  -- what it leaves as a new symbol
  pub named_by_sound : {facts : List Fact} {n : ℕ} {news : List ℤ} (e : E) (f : Fact) (z : ℤ) (st : State E) (go : Fact → State E → Tree E) → IsForm c news f z → c.domain.has e z ≡ true → Stands c launch facts n (named_by (walks c) e f st go) news (keeping st) →
      Comes c launch facts n (named_by (walks c) e f st go) go news (owns st) (λ more h. IsForm c more h z)
  named_by_sound e f z st go m h s =
      let next : Fact → State E → Tree E = λ r st'. Know (minus f r) (Know (minus r f) (go r st')) in
      let p = invent_sound c launch e st next z h s in
      let kept = form_kept c p.way.kept m in
      let above : IsForm c p.more (minus f p.arrived) (pos 0) = form-minus c f p.arrived z z (pos 0) kept p.right (omega (arith, ints)) in
      let under : IsForm c p.more (minus p.arrived f) (pos 0) = form-minus c p.arrived f z z (pos 0) p.right kept (omega (arith, ints)) in
      onward c launch p (comes_from c launch (way_then c launch (over_fact c launch) (over_fact c launch))
      (at_once c launch go (λ more h. IsForm c more h z) p.arrived p.state p.right
      (past_fact c launch (λ v a. omega (arith, ints, under.means v a)) (past_fact c launch (λ v a. omega (arith, ints, above.means v a)) p.stands))))

  pub named_sound : {facts : List Fact} {n : ℕ} {news : List ℤ} (d : ℤ) (f : Fact) (z : ℤ) (st : State E) (go : Fact → State E → Tree E) → IsForm c news f z → pos 0 ≤ℤ z → pos 0 ≤ℤ ((d -ℤ pos 1) -ℤ z) → Stands c launch facts n (named (walks c) d f st go) news (keeping st) →
      Comes c launch facts n (named (walks c) d f st go) go news (owns st) (λ more h. IsForm c more h z)
  named_sound d f z st go m low high s = named_by_sound (between c.domain (pos 0) (d -ℤ pos 1)) f z st go m (between-has c.domain c.lawful (pos 0) (d -ℤ pos 1) z low (omega (arith, ints, high))) s

  -- what it leaves, named in the wide walk
  named_where : (b : Bool) {facts : List Fact} {n : ℕ} {news : List ℤ} (d : ℤ) (f : Fact) (z : ℤ) (st : State E) (go : Fact → State E → Tree E) → IsForm c news f z → pos 0 ≤ℤ z → pos 0 ≤ℤ ((d -ℤ pos 1) -ℤ z) → Stands c launch facts n (cond b (named (walks c) d f st go) (go f st)) news (keeping st) →
      Comes c launch facts n (cond b (named (walks c) d f st go) (go f st)) go news (owns st) (λ more h. IsForm c more h z)
  named_where true d f z st go m low high s = named_sound d f z st go m low high s
  named_where false d f z st go m low high s = at_once c launch go (λ more h. IsForm c more h z) f st m s

  pub left_of : (k : Kind) {facts : List Fact} {n : ℕ} {news : List ℤ} (f : Fact) (x d z r : ℤ) (st : State E) (go : Fact → State E → Tree E) → IsForm c news f x → r +ℤ d *ℤ z ≡ x → pos 0 ≤ℤ r → pos 0 ≤ℤ ((d -ℤ pos 1) -ℤ r) → in_kind k z ≡ true → Stands c launch facts n (left_by (walks c) k f d st go) news (keeping st) →
      Comes c launch facts n (left_by (walks c) k f d st go) go news (owns st) (λ more h. IsForm c more h r)
  left_of k f x d z r st go m e low top h s =
      let p = quotient_of k f x d z r st (λ q r' st'. cond c.is_wide (named (walks c) d r' st' go) (go r' st')) m e low top h s in
      onward c launch p (named_where c.is_wide d p.arrived.1 r p.state go p.right.1 low top p.stands)

  pub left_by_sound : (k : Kind) {facts : List Fact} {n : ℕ} {news : List ℤ} (f : Fact) (x d : ℤ) (st : State E) (go : Fact → State E → Tree E) → IsForm c news f x → pos 0 ≤ℤ x → pos 0 <ℤ d → in_kind k (int_div x d) ≡ true → Stands c launch facts n (left_by (walks c) k f d st go) news (keeping st) →
      Comes c launch facts n (left_by (walks c) k f d st go) go news (owns st) (λ more h. IsForm c more h (int_rem x d))
  left_by_sound k f x d st go m hx hd h s = left_of k f x d (int_div x d) (int_rem x d) st go m (left-is x d) (left-low x d hx) (left-high x d hx hd) h s

  -- a fact that holds where it is said
  pub tell_sound : (b : Bool) {facts : List Fact} {n : ℕ} {news : List ℤ} (f : Fact) (z : ℤ) (st : State E) (go : State E → Tree E) → IsForm c news f z → (b ≡ true → pos 0 ≤ℤ z) → Stands c launch facts n (tell_where (walks c) b f st go) news (keeping st) →
      Comes c launch facts n (tell_where (walks c) b f st go) (λ (u : Unit {0}) st'. go st') news (owns st) (λ more u. Unit {0})
  tell_sound true {news = news} f z st go m h s =
      let low = h refl in
      let met : (v : ℕ → ℤ) → Agrees c news v → pos 0 ≤ℤ value_of v f = λ v a. omega (arith, ints, m.means v a, low) in
      comes_from c launch (over_fact c launch) (at_once c launch (λ (u : Unit {0}) st'. go st') (λ more u. Unit {0}) tt (holding (narrow c.domain (known_of c) f st.held) st) tt (past_fact c launch met (narrowed c launch f m.rising met s)))
  tell_sound false f z st go m h s = at_once c launch (λ (u : Unit {0}) st'. go st') (λ more u. Unit {0}) tt st tt s
