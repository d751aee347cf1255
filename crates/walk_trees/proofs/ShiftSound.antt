-- What a shift by a term promises.
use Rattle.std.proofs.Common.{◌≡◌, ℕ, ◌*◌, ◌%◌, ◌/◌, ◌^◌, ◌≤◌, ◌<◌, Bool, true, false, cond, List, Option, Some, None, arith, refl, sym, ap, ◌∙◌, subst}
use Rattle.std.specs.Prelude.{ℤ, pos, negsuc, ◌-ℤ◌, ◌*ℤ◌, ◌≤ℤ◌}
use Rattle.std.specs.Int.{int_div_euclid}
use Rattle.std.specs.Ordering.{int_eq}
use Rattle.std.proofs.lemmas.Int.{ints}
use Rattle.std.proofs.lemmas.Nat.{pow_pos}
use Rattle.std.proofs.lemmas.Bool.{and_parts}
use Rattle.std.proofs.lemmas.Bool.Decides.{Decides-int_eq}
use Rattle.std.proofs.Math.Nat.{pow-le-pow_right, div-le_self}
use Rattle.semantics.specs.Word.{Kind, Int, Uint, Size, Word, word, Direction, Leftward, Rightward, in_kind, as_kind, count_of, shift}
use Rattle.semantics.proofs.Integers.{mul_comm}
use Rattle.semantics.proofs.Words.{as_kind-in_kind, as_kind-same}
use Rattle.linear.specs.Exact.{multiple}
use Rattle.facts.specs.Symbols.{Fact, minus}
use Rattle.facts.specs.Elements.{between}
use Rattle.facts.proofs.Members.{between-has}
use Rattle.facts.proofs.Worlds.{View}
use Rattle.walk_trees.specs.Trees.{Tree}
use Rattle.walk_trees.specs.Values.{Value, value}
use Rattle.walk_trees.specs.Walks.{State, Onward, greatest, any_of, is_number, known_form}
use Rattle.walk_trees.specs.Bits.{is_natural, tell_where, bits_from}
use Rattle.walk_trees.specs.Shifts.{count_in, is_one, left_element, right_element, right_any, by_term, left_by_number, by_number, shift_by, shifted}
use Rattle.walk_trees.proofs.KindEnds.{in_kind-between, in_kind-ends}
use Rattle.walk_trees.proofs.Shares.{keeping}
use Rattle.walk_trees.proofs.Standing.{walks, Stands, Comes, at_once, onward, arriving, Owns, owns}
use Rattle.walk_trees.proofs.Ranges.{IsForm, IsValue, form_kept, form-is, form-multiple, form-minus, invent_sound, unknown_sound, ranged_sound}
use Rattle.walk_trees.proofs.Splits.{value-known}
use Rattle.walk_trees.proofs.QuotientSound.{tell_sound}
use Rattle.walk_trees.proofs.BitNumbers.{floor-in}
use Rattle.walk_trees.proofs.BitSound.{natural, any_has, bits_from_sound}
use Rattle.walk_trees.proofs.Arithmetic.{known_sound}

-- a shifted word is of its kind
pub shift-in : (d : Direction) (k : Kind) (a : ℤ) (n : ℕ) → in_kind k a ≡ true → in_kind (shift d k a n).kind (shift d k a n).value ≡ true
shift-in Leftward k a n h = as_kind-in_kind k (a *ℤ pos (2 ^ n))
shift-in Rightward k a n h = floor-in k a (2 ^ n) h

count-below : (y : ℤ) → count_of y ≤ 31
count-below y = omega arith

-- a power of two in a `uint`
power-in : (n : ℕ) → n ≤ 31 → (1 ≤ 2 ^ n) × (2 ^ n ≤ 2147483648)
power-in n h = let m : 2 ^ n ≤ 2 ^ 31 = pow-le-pow_right {n = 2} (omega arith) h in let p = pow_pos n in (p, m)

one-shifted : (x : ℤ) (n : ℕ) → x ≡ pos 1 → n ≤ 31 → (pos 1 ≤ℤ as_kind Uint (x *ℤ pos (2 ^ n))) × (as_kind Uint (x *ℤ pos (2 ^ n)) ≤ℤ pos 2147483648)
one-shifted x n e h =
    let p = power-in n h in
    let same : x *ℤ pos (2 ^ n) ≡ pos (2 ^ n) = ap (λ z. z *ℤ pos (2 ^ n)) e ∙ omega (arith, ints) in
    let in_uint = in_kind-between Uint (pos (2 ^ n)) (omega (arith, ints)) (omega (arith, ints, p.1)) in
    subst (λ z. (pos 1 ≤ℤ z) × (z ≤ℤ pos 2147483648)) (sym (ap (as_kind Uint) same ∙ as_kind-same Uint (pos (2 ^ n)) in_uint)) (omega (arith, ints, p.0), omega (arith, ints, p.1))

-- a quotient of a number that is not negative
floor-below : (x : ℤ) (d : ℕ) → pos 0 ≤ℤ x → (pos 0 ≤ℤ int_div_euclid x (pos d)) × (int_div_euclid x (pos d) ≤ℤ x)
floor-below (pos m) d h = let l = div-le_self m d in (omega (arith, ints), omega (arith, ints, l))
floor-below (negsuc m) d h = absurd (omega (arith, ints, h))

module _ {E : Type 0} (c : View E) (launch : List Fact) where
  left_has : (k : Kind) {news : List ℤ} (f : Fact) (x : ℤ) (n : ℕ) → n ≤ 31 → IsForm c news f x → c.domain.has (left_element (walks c) k f) (as_kind k (x *ℤ pos (2 ^ n))) ≡ true
  left_has Int f x n l m = any_has c launch Int (as_kind Int (x *ℤ pos (2 ^ n))) (as_kind-in_kind Int (x *ℤ pos (2 ^ n)))
  left_has Size f x n l m = any_has c launch Size (as_kind Size (x *ℤ pos (2 ^ n))) (as_kind-in_kind Size (x *ℤ pos (2 ^ n)))
  left_has Uint {news = news} f x n l m = by (is_one f) refl
    where
      by : (b : Bool) → is_one f ≡ b → c.domain.has (cond b (between c.domain (pos 1) (pos 2147483648)) (any_of c.domain Uint)) (as_kind Uint (x *ℤ pos (2 ^ n))) ≡ true
      by true e =
          let p = and_parts (is_number f) (int_eq f.constant (pos 1)) e in
          let is : x ≡ pos 1 = sym (value-known c launch f x m p.0) ∙ (Decides-int_eq f.constant (pos 1)).0 p.1 in
          let q = one-shifted x n is l in
          between-has c.domain c.lawful (pos 1) (pos 2147483648) (as_kind Uint (x *ℤ pos (2 ^ n))) q.0 q.1
      by false e = any_has c launch Uint (as_kind Uint (x *ℤ pos (2 ^ n))) (as_kind-in_kind Uint (x *ℤ pos (2 ^ n)))

  right_any_sound : {facts : List Fact} {n : ℕ} {news : List ℤ} (k : Kind) (f : Fact) (x : ℤ) (by : ℕ) (st : State E) (go : Fact → State E → Tree E) → in_kind k x ≡ true → IsForm c news f x → Stands c launch facts n (right_any (walks c) k f st go) news (keeping st) →
      Comes c launch facts n (right_any (walks c) k f st go) go news (owns st) (λ more h. IsForm c more h (int_div_euclid x (pos (2 ^ by))))
  right_any_sound k f x by st go h mf s =
      let z = int_div_euclid x (pos (2 ^ by)) in
      let b = is_natural (walks c) st k f in
      let at = λ (e : is_natural (walks c) st k f ≡ true). floor-below x (2 ^ by) (natural c launch k f x st h mf s e) in
      let p = invent_sound c launch (right_element (walks c) st k f) st (λ r st1. tell_where (walks c) b (minus f r) st1 (λ st2. go r st2)) z (has (is_natural (walks c) st k f) at) s in
      let r = p.arrived in
      let t = tell_sound c launch b (minus f r) (x -ℤ z) p.state (λ st2. go r st2) (form-minus c f r x z (x -ℤ z) (form_kept c p.way.kept mf) p.right (omega (arith, ints))) (λ e. let l = (at e).1 in omega (arith, ints, l)) p.stands in
      onward c launch p (onward c launch t (at_once c launch go (λ more q. IsForm c more q z) r t.state (form_kept c t.way.kept p.right) t.stands))
    where
      right : in_kind k (int_div_euclid x (pos (2 ^ by))) ≡ true
      right = floor-in k x (2 ^ by) h

      has : (b : Bool) → (b ≡ true → (pos 0 ≤ℤ int_div_euclid x (pos (2 ^ by))) × (int_div_euclid x (pos (2 ^ by)) ≤ℤ x)) → c.domain.has (cond b (between c.domain (pos 0) (greatest k)) (any_of c.domain k)) (int_div_euclid x (pos (2 ^ by))) ≡ true
      has true e = between-has c.domain c.lawful (pos 0) (greatest k) (int_div_euclid x (pos (2 ^ by))) (e refl).0 (in_kind-ends k (int_div_euclid x (pos (2 ^ by))) right).1
      has false e = any_has c launch k (int_div_euclid x (pos (2 ^ by))) right

  by_term_sound : (d : Direction) {facts : List Fact} {n : ℕ} {news : List ℤ} (k : Kind) (f : Fact) (x : ℤ) (by : ℕ) (st : State E) (go : Fact → State E → Tree E) → by ≤ 31 → in_kind k x ≡ true → IsForm c news f x → Stands c launch facts n (by_term (walks c) d k f st go) news (keeping st) →
      Comes c launch facts n (by_term (walks c) d k f st go) go news (owns st) (λ more h. IsForm c more h (shift d k x by).value)
  by_term_sound Leftward k f x by st go l h m s = invent_sound c launch (left_element (walks c) k f) st go (as_kind k (x *ℤ pos (2 ^ by))) (left_has k f x by l m) s
  by_term_sound Rightward k f x by st go l h m s = right_any_sound k f x by st go h m s

  -- a form of the kind's number as a value
  as_value : {facts : List Fact} {n : ℕ} {tree : Tree E} {news : List ℤ} {variables : Owns} (k : Kind) (z : ℤ) (go : Onward E) → Comes c launch facts n tree (λ r st'. go (value k r) st') news variables (λ more r. IsForm c more r z) → Comes c launch facts n tree go news variables (λ more v. IsValue c more (word k z) v)
  as_value k z go p = arriving c launch go (value k) (λ more v. IsValue c more (word k z) v) (λ more r kept m. record { kind = refl; form = m }) p

  shift_kind : (d : Direction) (k : Kind) (x : ℤ) (n : ℕ) → word k (shift d k x n).value ≡ shift d k x n
  shift_kind Leftward k x n = refl
  shift_kind Rightward k x n = refl

  left_by_number_sound : (k : Kind) {facts : List Fact} {n : ℕ} {news : List ℤ} (f : Fact) (x : ℤ) (by : ℕ) (st : State E) (go : Onward E) → IsForm c news f x → Stands c launch facts n (left_by_number (walks c) k by f st go) news (keeping st) →
      Comes c launch facts n (left_by_number (walks c) k by f st go) go news (owns st) (λ more v. IsValue c more (word k (as_kind k (x *ℤ pos (2 ^ by)))) v)
  left_by_number_sound Int f x by st go m s = unknown_sound c launch Int st go (as_kind Int (x *ℤ pos (2 ^ by))) (as_kind-in_kind Int (x *ℤ pos (2 ^ by))) s
  left_by_number_sound Size f x by st go m s = unknown_sound c launch Size st go (as_kind Size (x *ℤ pos (2 ^ by))) (as_kind-in_kind Size (x *ℤ pos (2 ^ by))) s
  left_by_number_sound Uint f x by st go m s =
      let is = form-is c (x *ℤ pos (2 ^ by)) (mul_comm (pos (2 ^ by)) x) (form-multiple c (pos (2 ^ by)) f x m) in
      (ranged_sound c launch Uint (multiple (pos (2 ^ by)) f) st go (x *ℤ pos (2 ^ by)) s is).comes

  by_number_sound : (d : Direction) {facts : List Fact} {n : ℕ} {news : List ℤ} (k : Kind) (f : Fact) (x : ℤ) (by : ℕ) (st : State E) (go : Onward E) → in_kind k x ≡ true → IsForm c news f x → Stands c launch facts n (by_number (walks c) d k by f st go) news (keeping st) →
      Comes c launch facts n (by_number (walks c) d k by f st go) go news (owns st) (λ more v. IsValue c more (shift d k x by) v)
  by_number_sound Leftward k f x by st go h m s = left_by_number_sound k f x by st go m s
  by_number_sound Rightward k f x by st go h m s = as_value k (int_div_euclid x (pos (2 ^ by))) go (bits_from_sound c launch by k f x st (λ q st'. go (value k q) st') h m s)

  -- a count that is a number
  counted : {news : List ℤ} (g : Fact) (y : ℤ) (n : ℕ) → IsForm c news g y → count_in g ≡ Some n → n ≡ count_of y
  counted g y n m e = by (is_number g) refl e
    where
      by : (t : Bool) → is_number g ≡ t → cond t (Some (count_of g.constant)) None ≡ Some n → n ≡ count_of y
      by true q e' = let i : count_of g.constant ≡ n = cc in sym i ∙ ap count_of (value-known c launch g y m q)
      by false q e' = cc

  shift_by_sound : (o : Option ℕ) (d : Direction) {facts : List Fact} {n : ℕ} {news : List ℤ} (k : Kind) (f g : Fact) (x y : ℤ) (st : State E) (go : Onward E) → count_in g ≡ o → in_kind k x ≡ true → IsForm c news f x → IsForm c news g y → Stands c launch facts n (shift_by (walks c) o d k f st go) news (keeping st) →
      Comes c launch facts n (shift_by (walks c) o d k f st go) go news (owns st) (λ more v. IsValue c more (shift d k x (count_of y)) v)
  shift_by_sound None d {facts = facts} {n = n} {news = news} k f g x y st go e h mf mg s =
      subst (λ w. Comes c launch facts n (shift_by (walks c) None d k f st go) go news (owns st) (λ more v. IsValue c more w v)) (shift_kind d k x (count_of y))
      (as_value k (shift d k x (count_of y)).value go (by_term_sound d k f x (count_of y) st (λ r st'. go (value k r) st') (count-below y) h mf s))
  shift_by_sound (Some m) d {facts = facts} {n = n} {news = news} k f g x y st go e h mf mg s =
      subst (λ j. Comes c launch facts n (by_number (walks c) d k m f st go) go news (owns st) (λ more v. IsValue c more (shift d k x j) v)) (counted g y m mg e) (by_number_sound d k f x m st go h mf s)

  pub shifted_sound : (d : Direction) {facts : List Fact} {n : ℕ} {news : List ℤ} (k : Kind) (f g : Fact) (x y : ℤ) (st : State E) (go : Onward E) → in_kind k x ≡ true → IsForm c news f x → IsForm c news g y → Stands c launch facts n (shifted (walks c) d k f g st go) news (keeping st) →
      Comes c launch facts n (shifted (walks c) d k f g st go) go news (owns st) (λ more v. IsValue c more (shift d k x (count_of y)) v)
  shifted_sound d k f g x y st go h mf mg s = shift_by_sound (count_in (known_form (walks c) st g)) d k f (known_form (walks c) st g) x y st go refl h mf (known_sound c launch g y st s.fit mg) s
