-- What ways promise that are joined: the new symbols have the numbers that they are to have, so that their facts hold.
use Rattle.std.proofs.Common.{◌≡◌, ℕ, zero, suc, Bool, true, false, cond, List, [], ◌∷◌, Option, Some, None, arith, refl, sym, ap, subst, inl, inr}
use Rattle.std.specs.Prelude.{ℤ, pos, negsuc, ◌+ℤ◌, ◌-ℤ◌, ◌*ℤ◌, ◌≤ℤ◌, ◌⊎◌, int_lt}
use Rattle.std.specs.List.{All}
use Rattle.std.proofs.lemmas.List.Elements.{All-cons, All-nil}
use Rattle.std.proofs.lemmas.Int.{ints, by_lt_z}
use Rattle.std.proofs.lemmas.Bool.{and_parts}
use Rattle.semantics.specs.Word.{Kind, Int, Uint, Size, word}
use Rattle.linear.specs.Linear.{IsMet}
use Rattle.linear.specs.Exact.{sum}
use Rattle.domain.specs.Members.{is_above, is_below}
use Rattle.facts.specs.Symbols.{Fact, constant, minus, equals}
use Rattle.facts.proofs.Integers.{le_test, lt_true}
use Rattle.facts.proofs.Values.{value-minus}
use Rattle.facts.proofs.Worlds.{View, Agrees}
use Rattle.walk_trees.specs.Trees.{Tree}
use Rattle.walk_trees.specs.Values.{value}
use Rattle.walk_trees.specs.Walks.{State, Onward, element_of, bounds_of, know_all, invent}
use Rattle.walk_trees.specs.Operators.{small_product}
use Rattle.walk_trees.specs.Joined.{excess, know_product, invent_excesses, apart_facts, told_apart, under_end, over_end, picked_element, picked_facts, pick_joined, same_kind}
use Rattle.walk_trees.proofs.Holding.{IsHeld, form-has}
use Rattle.walk_trees.proofs.Shares.{keeping}
use Rattle.walk_trees.proofs.Standing.{walks, Stands, Comes, over_fact, past_fact, over_facts, past_facts, at_once, comes_from, onward, owns}
use Rattle.walk_trees.proofs.Ranges.{IsForm, IsValue, form_kept, form_constant, form-is, form-sum, form-multiple, form-minus, invent_sound}
use Rattle.walk_trees.proofs.SharedSound.{form-product}

-- a difference where it is above 0, else 0
pub over : ℤ → ℤ
over (pos n) = pos n
over (negsuc n) = pos 0

over-low : (d : ℤ) → pos 0 ≤ℤ over d
unfolding over
over-low (pos n) = omega (arith, ints)
over-low (negsuc n) = omega (arith, ints)

-- one of a number and its negation is at most 0
over-none : (d e : ℤ) → d +ℤ e ≡ pos 0 → over d *ℤ over e ≡ pos 0
unfolding over
over-none (pos zero) e h = omega (arith, ints)
over-none (pos (suc a)) (pos b) h = absurd (omega (arith, ints, h))
over-none (pos (suc a)) (negsuc b) h = omega (arith, ints)
over-none (negsuc a) e h = omega (arith, ints)

over-difference : (d e : ℤ) → d +ℤ e ≡ pos 0 → over d -ℤ over e ≡ d
unfolding over
over-difference (pos a) (pos b) h = omega (arith, ints, h)
over-difference (pos a) (negsuc b) h = omega (arith, ints)
over-difference (negsuc a) (pos b) h = omega (arith, ints, h)
over-difference (negsuc a) (negsuc b) h = absurd (omega (arith, ints, h))

over-some : (d e : ℤ) → d +ℤ e ≡ pos 0 → (d ≡ pos 0 → ⊥) → pos 0 ≤ℤ ((over d +ℤ over e) -ℤ pos 1)
unfolding over
over-some (pos zero) e h k = absurd (k refl)
over-some (pos (suc a)) e h k = let l = over-low e in omega (arith, ints, l)
over-some (negsuc a) (pos zero) h k = absurd (omega (arith, ints, h))
over-some (negsuc a) (pos (suc b)) h k = omega (arith, ints)
over-some (negsuc a) (negsuc b) h k = absurd (omega (arith, ints, h))

over-up : (d : ℤ) → pos 0 ≤ℤ d → over d ≡ d
unfolding over
over-up (pos n) h = refl
over-up (negsuc n) h = absurd (omega (arith, ints, h))

over-down : (d : ℤ) → d ≤ℤ pos 0 → over d ≡ pos 0
unfolding over
over-down (pos zero) h = refl
over-down (pos (suc n)) h = absurd (omega (arith, ints, h))
over-down (negsuc n) h = refl

-- what the facts of the less of two numbers say of it, or those of the greater one
pub record IsPicked (g : Bool) (a b m : ℤ) : Type 0 where
  pub one : (m ≡ a) ⊎ (m ≡ b)
  pub less : g ≡ false → (m +ℤ over (b -ℤ a) ≡ b) × (m +ℤ over (a -ℤ b) ≡ a)
  pub greater : g ≡ true → (m -ℤ over (b -ℤ a) ≡ a) × (m -ℤ over (a -ℤ b) ≡ b)

pub picked_number : (g : Bool) (a b : ℤ) → IsPicked g a b (cond (int_lt a b) (cond g b a) (cond g a b))
picked_number g a b = by_lt_z a b
    (λ l. subst (λ t. IsPicked g a b (cond t (cond g b a) (cond g a b))) (sym (lt_true a b l)) (at_first g (over-up (b -ℤ a) (omega (arith, ints, l))) (over-down (a -ℤ b) (omega (arith, ints, l)))))
    (λ l. subst (λ t. IsPicked g a b (cond t (cond g b a) (cond g a b))) (sym (not_less l)) (at_second g (over-down (b -ℤ a) (omega (arith, ints, l))) (over-up (a -ℤ b) (omega (arith, ints, l)))))
  where
    not_less : b ≤ℤ a → int_lt a b ≡ false
    not_less l = sym (omega (arith, ints, l))

    at_first : (g : Bool) → over (b -ℤ a) ≡ b -ℤ a → over (a -ℤ b) ≡ pos 0 → IsPicked g a b (cond g b a)
    at_first true p q = record { one = inr refl; less = λ e. cc; greater = λ e. (omega (arith, ints, p), omega (arith, ints, q)) }
    at_first false p q = record { one = inl refl; less = λ e. (omega (arith, ints, p), omega (arith, ints, q)); greater = λ e. cc }

    at_second : (g : Bool) → over (b -ℤ a) ≡ pos 0 → over (a -ℤ b) ≡ a -ℤ b → IsPicked g a b (cond g a b)
    at_second true p q = record { one = inl refl; less = λ e. cc; greater = λ e. (omega (arith, ints, p), omega (arith, ints, q)) }
    at_second false p q = record { one = inr refl; less = λ e. (omega (arith, ints, p), omega (arith, ints, q)); greater = λ e. cc }

pub kinds_same : (j k : Kind) → same_kind j k ≡ true → j ≡ k
kinds_same Int Int e = refl
kinds_same Int Uint e = cc
kinds_same Int Size e = cc
kinds_same Uint Int e = cc
kinds_same Uint Uint e = refl
kinds_same Uint Size e = cc
kinds_same Size Int e = cc
kinds_same Size Uint e = cc
kinds_same Size Size e = refl

module _ {E : Type 0} (c : View E) (launch : List Fact) where
  excess-has : {news : List ℤ} (f : Fact) (d : ℤ) (st : State E) → IsHeld c news st.held → IsForm c news f d → c.domain.has (excess (walks c) st f) (over d) ≡ true
  unfolding over
  excess-has {news = news} f d st k m =
      let e = element_of (walks c) st f in
      let z = c.domain.number_of (pos 0) in
      c.lawful.at_least (c.domain.join_of z e) (pos 0) (over d) (c.lawful.join z e (over d) (either d (form-has c news st.held f d k m.means))) (over-low d)
    where
      either : (d : ℤ) → c.domain.has (element_of (walks c) st f) d ≡ true → (c.domain.has (c.domain.number_of (pos 0)) (over d) ≡ true) ⊎ (c.domain.has (element_of (walks c) st f) (over d) ≡ true)
      either (pos n) h = inr h
      either (negsuc n) h = inl (c.lawful.number (pos 0))

  -- the product of the two symbols
  product_told : (o : Option Fact) {facts : List Fact} {n : ℕ} {news : List ℤ} (f g : Fact) (y z : ℤ) (st : State E) (go : (p q : Fact) → State E → Tree E) → small_product f g ≡ o → y *ℤ z ≡ pos 0 → IsForm c news f y → IsForm c news g z → Stands c launch facts n (know_product o (go f g st)) news (keeping st) →
      Comes c launch facts n (know_product o (go f g st)) (λ (r : Fact × Fact) st'. go r.0 r.1 st') news (owns st) (λ more r. IsForm c more r.0 y × IsForm c more r.1 z)
  product_told None f g y z st go e h mf mg s = at_once c launch (λ (r : Fact × Fact) st'. go r.0 r.1 st') (λ more r. IsForm c more r.0 y × IsForm c more r.1 z) (f, g) st (mf, mg) s
  product_told (Some h) f g y z st go e k mf mg s =
      let m = form-multiple c (negsuc 0) h (y *ℤ z) (form-product c launch f g h y z mf mg e) in
      comes_from c launch (over_fact c launch)
      (at_once c launch (λ (r : Fact × Fact) st'. go r.0 r.1 st') (λ more r. IsForm c more r.0 y × IsForm c more r.1 z) (f, g) st (mf, mg) (past_fact c launch (λ v a. let u = m.means v a in let w = ap (λ x. negsuc 0 *ℤ x) k in omega (arith, ints, u, w)) s))

  -- how much each of two numbers is more than the other one
  excesses_sound : {facts : List Fact} {n : ℕ} {news : List ℤ} (f g : Fact) (d e : ℤ) (st : State E) (go : (p q : Fact) → State E → Tree E) → d +ℤ e ≡ pos 0 → IsForm c news f d → IsForm c news g e → Stands c launch facts n (invent_excesses (walks c) f g st go) news (keeping st) →
      Comes c launch facts n (invent_excesses (walks c) f g st go) (λ (r : Fact × Fact) st'. go r.0 r.1 st') news (owns st) (λ more r. IsForm c more r.0 (over d) × IsForm c more r.1 (over e))
  excesses_sound f g d e st go h mf mg s =
      let last : Fact → Fact → State E → Tree E = λ p q st2. know_product (small_product p q) (go p q st2) in
      let p = invent_sound c launch (excess (walks c) st f) st (λ p st1. invent (walks c) (excess (walks c) st1 g) st1 (last p)) (over d) (excess-has f d st s.fit mf) s in
      let q = invent_sound c launch (excess (walks c) p.state g) p.state (last p.arrived) (over e) (excess-has g e p.state p.stands.fit (form_kept c p.way.kept mg)) p.stands in
      onward c launch p (onward c launch q (product_told (small_product p.arrived q.arrived) p.arrived q.arrived (over d) (over e) q.state go refl (over-none d e h) (form_kept c q.way.kept p.right) q.right q.stands))

  -- two forms of one value
  both_told : {news : List ℤ} (f g : Fact) (z : ℤ) (rest : List Fact) → IsForm c news f z → IsForm c news g z → ((v : ℕ → ℤ) → Agrees c news v → All (IsMet v) rest) → (v : ℕ → ℤ) → Agrees c news v → All (IsMet v) (minus f g ∷ minus g f ∷ rest)
  both_told f g z rest mf mg r v a =
      let x = mf.means v a in
      let y = mg.means v a in
      All-cons (IsMet v) (minus f g) (minus g f ∷ rest) (omega (arith, ints, value-minus v f g, x, y)) (All-cons (IsMet v) (minus g f) rest (omega (arith, ints, value-minus v g f, x, y)) (r v a))

  -- two numbers that differ
  pub apart_sound : {A : Type 0} {facts : List Fact} {n : ℕ} {news : List ℤ} (f g : Fact) (d e : ℤ) (st : State E) (x : A) (go : A → State E → Tree E) → d +ℤ e ≡ pos 0 → (d ≡ pos 0 → ⊥) → IsForm c news f d → IsForm c news g e → Stands c launch facts n (told_apart (walks c) f g st (go x)) news (keeping st) → Comes c launch facts n (told_apart (walks c) f g st (go x)) go news (owns st) (λ more y. y ≡ x)
  apart_sound f g d e st x go h k mf mg s =
      let r = excesses_sound f g d e st (λ p q st'. know_all (apart_facts f p q) (go x st')) h mf mg s in
      let p = r.arrived.0 in
      let q = r.arrived.1 in
      let difference = form-minus c p q (over d) (over e) d r.right.0 r.right.1 (let u = over-difference d e h in omega (arith, ints, u)) in
      let some = form-minus c (sum p q) (constant (pos 1)) (over d +ℤ over e) (pos 1) ((over d +ℤ over e) -ℤ pos 1) (form-sum c p q (over d) (over e) r.right.0 r.right.1) (form_constant c r.more (pos 1)) (omega (arith, ints)) in
      let last : (v : ℕ → ℤ) → Agrees c r.more v → All (IsMet v) (minus (sum p q) (constant (pos 1)) ∷ []) = λ v a. All-cons (IsMet v) (minus (sum p q) (constant (pos 1))) [] (let u = some.means v a in let w = over-some d e h k in omega (arith, ints, u, w)) (All-nil (IsMet v)) in
      let s1 = past_facts c launch (apart_facts f p q) (both_told f (minus p q) d (minus (sum p q) (constant (pos 1)) ∷ []) (form_kept c r.way.kept mf) difference last) r.stands in
      onward c launch r (comes_from c launch (over_facts c launch (apart_facts f p q)) (at_once c launch go (λ more y. y ≡ x) x r.state refl s1))

  -- the ends of an element
  under-has : (o : Option ℤ) (a : E) (x y : ℤ) → x ≤ℤ y → is_below o y ≡ true → c.domain.has a x ≡ true → c.domain.has (under_end c.domain o a) x ≡ true
  under-has None a x y l b h = h
  under-has (Some high) a x y l b h = c.lawful.at_most a high x h (let u = le_test y high b in omega (arith, ints, u, l))

  over-has : (o : Option ℤ) (a : E) (x y : ℤ) → y ≤ℤ x → is_above o y ≡ true → c.domain.has a x ≡ true → c.domain.has (over_end c.domain o a) x ≡ true
  over-has None a x y l b h = h
  over-has (Some low) a x y l b h = c.lawful.at_least a low x h (let u = le_test low y b in omega (arith, ints, u, l))

  chosen-has : (a b : E) (x y m : ℤ) → c.domain.has a x ≡ true → c.domain.has b y ≡ true → (m ≡ x) ⊎ (m ≡ y) → c.domain.has (c.domain.join_of a b) m ≡ true
  chosen-has a b x y m h k (inl e) = c.lawful.join a b m (inl (subst (λ z. c.domain.has a z ≡ true) (sym e) h))
  chosen-has a b x y m h k (inr e) = c.lawful.join a b m (inr (subst (λ z. c.domain.has b z ≡ true) (sym e) k))

  picked-has : (g : Bool) {news : List ℤ} (f h : Fact) (a b m : ℤ) (st : State E) → IsPicked g a b m → IsHeld c news st.held → IsForm c news f a → IsForm c news h b → c.domain.has (picked_element (walks c) g st f h) m ≡ true
  picked-has false {news = news} f h a b m st i k mf mh =
      let ef = element_of (walks c) st f in
      let eh = element_of (walks c) st h in
      let hf = form-has c news st.held f a k mf.means in
      let hh = form-has c news st.held h b k mh.means in
      let u = i.less refl in
      let bf = bounds_of (walks c) st f in
      let bh = bounds_of (walks c) st h in
      let p = over-low (b -ℤ a) in
      let q = over-low (a -ℤ b) in
      under-has bh.high (under_end c.domain bf.high (c.domain.join_of ef eh)) m b (omega (arith, ints, u.0, p)) (and_parts (is_above bh.low b) (is_below bh.high b) (c.lawful.bounds eh b hh)).1
      (under-has bf.high (c.domain.join_of ef eh) m a (omega (arith, ints, u.1, q)) (and_parts (is_above bf.low a) (is_below bf.high a) (c.lawful.bounds ef a hf)).1 (chosen-has ef eh a b m hf hh i.one))
  picked-has true {news = news} f h a b m st i k mf mh =
      let ef = element_of (walks c) st f in
      let eh = element_of (walks c) st h in
      let hf = form-has c news st.held f a k mf.means in
      let hh = form-has c news st.held h b k mh.means in
      let u = i.greater refl in
      let bf = bounds_of (walks c) st f in
      let bh = bounds_of (walks c) st h in
      let p = over-low (b -ℤ a) in
      let q = over-low (a -ℤ b) in
      over-has bh.low (over_end c.domain bf.low (c.domain.join_of ef eh)) m b (omega (arith, ints, u.1, q)) (and_parts (is_above bh.low b) (is_below bh.high b) (c.lawful.bounds eh b hh)).0
      (over-has bf.low (c.domain.join_of ef eh) m a (omega (arith, ints, u.0, p)) (and_parts (is_above bf.low a) (is_below bf.high a) (c.lawful.bounds ef a hf)).0 (chosen-has ef eh a b m hf hh i.one))

  picked_told : (g : Bool) {news : List ℤ} (x y f p q : Fact) (a b m : ℤ) → IsPicked g a b m → IsForm c news x a → IsForm c news y b → IsForm c news f m → IsForm c news p (over (b -ℤ a)) → IsForm c news q (over (a -ℤ b)) → (v : ℕ → ℤ) → Agrees c news v → All (IsMet v) (picked_facts g x y f p q)
  picked_told false x y f p q a b m i mx my mf mp mq =
      let u = i.less refl in
      both_told y (sum f p) b (equals x (sum f q)) my (form-is c b u.0 (form-sum c f p m (over (b -ℤ a)) mf mp))
      (both_told x (sum f q) a [] mx (form-is c a u.1 (form-sum c f q m (over (a -ℤ b)) mf mq)) (λ v a. All-nil (IsMet v)))
  picked_told true x y f p q a b m i mx my mf mp mq =
      let u = i.greater refl in
      both_told x (minus f p) a (equals y (minus f q)) mx (form-minus c f p m (over (b -ℤ a)) a mf mp (omega (arith, ints, u.0)))
      (both_told y (minus f q) b [] my (form-minus c f q m (over (a -ℤ b)) b mf mq (omega (arith, ints, u.1))) (λ v a. All-nil (IsMet v)))

  -- the less of two numbers, or the greater one
  pub pick_joined_sound : (g : Bool) (k : Kind) {facts : List Fact} {n : ℕ} {news : List ℤ} (x y : Fact) (a b m : ℤ) (st : State E) (go : Onward E) → IsPicked g a b m → IsForm c news x a → IsForm c news y b → Stands c launch facts n (pick_joined (walks c) g k x y st go) news (keeping st) → Comes c launch facts n (pick_joined (walks c) g k x y st go) go news (owns st) (λ more v. IsValue c more (word k m) v)
  pick_joined_sound g k x y a b m st go i mx my s =
      let then : Fact → State E → Tree E = λ f st1. invent_excesses (walks c) (minus y x) (minus x y) st1 (λ p q st2. know_all (picked_facts g x y f p q) (go (value k f) st2)) in
      let r = invent_sound c launch (picked_element (walks c) g st x y) st then m (picked-has g x y a b m st i s.fit mx my) s in
      let f = r.arrived in
      let kx = form_kept c r.way.kept mx in
      let ky = form_kept c r.way.kept my in
      let t = excesses_sound (minus y x) (minus x y) (b -ℤ a) (a -ℤ b) r.state (λ p q st2. know_all (picked_facts g x y f p q) (go (value k f) st2)) (omega (arith, ints)) (form-minus c y x b a (b -ℤ a) ky kx (omega (arith, ints))) (form-minus c x y a b (a -ℤ b) kx ky (omega (arith, ints))) r.stands in
      let p = t.arrived.0 in
      let q = t.arrived.1 in
      let is = form_kept c t.way.kept r.right in
      let told = picked_told g x y f p q a b m i (form_kept c t.way.kept kx) (form_kept c t.way.kept ky) is t.right.0 t.right.1 in
      onward c launch r (onward c launch t (comes_from c launch (over_facts c launch (picked_facts g x y f p q))
      (at_once c launch go (λ more v. IsValue c more (word k m) v) (value k f) t.state (record { kind = refl; form = is }) (past_facts c launch (picked_facts g x y f p q) told t.stands))))
