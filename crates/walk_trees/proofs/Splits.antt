-- Tests: the way of the outcome is gone along, its facts hold, and it is no dead one.
use Rattle.std.proofs.Common.{◌≡◌, ℕ, Bool, true, false, not, cond, ◌&&◌, Option, Some, None, inl, inr, List, [], ◌∷◌, arith, refl, sym, ap, ◌∙◌}
use Rattle.std.specs.Prelude.{ℤ, pos, negsuc, ◌+ℤ◌, ◌-ℤ◌, ◌*ℤ◌, ◌≤ℤ◌, ◌<ℤ◌, ◌⊎◌, int_lt, int_le}
use Rattle.std.specs.Ordering.{int_eq}
use Rattle.std.proofs.lemmas.Int.{ints, by_lt_z}
use Rattle.std.proofs.lemmas.Bool.{and_parts, or_cases}
use Rattle.std.proofs.lemmas.Bool.Decides.{Decides-int_eq}
use Rattle.semantics.specs.Word.{Relation, Less, AtMost, More, AtLeast, Equal, Unequal, holds, is_zero}
use Rattle.linear.specs.Linear.{Weighted, terms_value, value_of}
use Rattle.linear.specs.Exact.{multiple, fits, fits_i64}
use Rattle.domain.specs.Members.{is_above, is_below}
use Rattle.facts.specs.Symbols.{Fact, constant, minus}
use Rattle.facts.specs.Elements.{is_below_zero}
use Rattle.facts.proofs.Integers.{le_true, lt_true, le_test, lt_test}
use Rattle.facts.proofs.Members.{by_number}
use Rattle.facts.proofs.Worlds.{View, Agrees, own, agrees_itself}
use Rattle.walk_trees.specs.Held.{narrow}
use Rattle.walk_trees.specs.Trees.{Tree}
use Rattle.walk_trees.specs.Walks.{State, element_of, bounds_of, counted, holding, fork, fork_unless, is_none, is_number, is_dead, unless_dead, is_refuted, is_left_out, is_either_left_out, are_both_left_out, know_test, know_two}
use Rattle.walk_trees.specs.Joined.{are_joined, told_apart}
use Rattle.walk_trees.specs.Tests.{Outcomes, below, split_below, split_apart, split_from_zero, split_rest, split_sign, split, split_number}
use Rattle.walk_trees.proofs.Holding.{known_of, IsHeld, form-has}
use Rattle.walk_trees.proofs.Shares.{keeping}
use Rattle.walk_trees.proofs.Standing.{walks, Stands, Comes, over_fact, over_first, over_second, past_fact, narrowed, past_first, past_second, at_once, comes_from, onward, restated, owns}
use Rattle.walk_trees.proofs.Ranges.{IsForm, form_kept, form_constant, form-is, form-multiple, form-minus}
use Rattle.walk_trees.proofs.JoinedSound.{apart_sound}

pub alone : (ts : List (Weighted ℕ)) → is_none ts ≡ true → (v : ℕ → ℤ) → terms_value v ts ≡ pos 0
alone [] h v = refl
alone (t ∷ ts) h v = cc

int_lt-not : (a b : ℤ) → b ≤ℤ a → int_lt a b ≡ false
int_lt-not a b h = sym (omega (arith, ints))

int_le-not : (a b : ℤ) → b <ℤ a → int_le a b ≡ false
int_le-not a b h = sym (omega (arith, ints))

int_eq-same : (a b : ℤ) → a ≡ b → int_eq a b ≡ true
int_eq-same a b h = (Decides-int_eq a b).1 h

pub int_eq-not : (a b : ℤ) → (a ≡ b → ⊥) → int_eq a b ≡ false
int_eq-not a b h = by (int_eq a b) (Decides-int_eq a b).0
  where
    by : (t : Bool) → (t ≡ true → a ≡ b) → t ≡ false
    by true e = absurd (h (e refl))
    by false e = refl

-- how two numbers lie
data Order (a b : ℤ) : Type 0 where
  IsBelow : a <ℤ b → Order a b
  IsSame : a ≡ b → Order a b
  IsAbove : b <ℤ a → Order a b

order : (a b : ℤ) → Order a b
order a b = by_lt_z a b (λ l. IsBelow l) (λ l. by_lt_z b a (λ k. IsAbove k) (λ k. IsSame (omega (arith, ints, l, k))))

-- two tests that say the same
int_eq-alike : (a b x y : ℤ) → (a ≡ b → x ≡ y) → (x ≡ y → a ≡ b) → int_eq a b ≡ int_eq x y
int_eq-alike a b x y f g = elim (order a b) [
  | IsBelow l ↦ int_eq-not a b (λ e. omega (arith, ints, e, l)) ∙ sym (int_eq-not x y (λ e. let h = g e in omega (arith, ints, h, l)))
  | IsSame e ↦ int_eq-same a b e ∙ sym (int_eq-same x y (f e))
  | IsAbove l ↦ int_eq-not a b (λ e. omega (arith, ints, e, l)) ∙ sym (int_eq-not x y (λ e. let h = g e in omega (arith, ints, h, l)))
]

module _ {E : Type 0} (c : View E) (launch : List Fact) where
  pub value-known : {news : List ℤ} (f : Fact) (z : ℤ) → IsForm c news f z → is_number f ≡ true → f.constant ≡ z
  value-known {news = news} f z m e =
      let v = by_number (own c news) in
      omega (arith, ints, m.means v (agrees_itself c news), alone f.terms e v)

  is_alive : {news : List ℤ} (f : Fact) (z : ℤ) → IsForm c news f z → pos 0 ≤ℤ z → is_dead f ≡ true → ⊥
  is_alive f z m h e =
      let p = and_parts (is_number f) (fits_i64 f.constant && int_lt f.constant (pos 0)) e in
      let q = and_parts (fits_i64 f.constant) (int_lt f.constant (pos 0)) p.1 in
      let k = value-known f z m p.0 in
      let l = lt_test f.constant (pos 0) q.1 in
      omega (arith, ints, k, l, h)

  -- elements refute no form that is at least 0
  at_most_below : (o : Option ℤ) (z : ℤ) → is_below_zero o ≡ true → is_below o z ≡ true → pos 0 ≤ℤ z → ⊥
  at_most_below None z e b h = cc
  at_most_below (Some high) z e b h = omega (arith, ints, lt_test high (pos 0) e, le_test z high b, h)

  is_possible : {news : List ℤ} (f : Fact) (z : ℤ) (st : State E) → IsForm c news f z → pos 0 ≤ℤ z → IsHeld c news st.held → is_refuted (walks c) f st ≡ true → ⊥
  is_possible {news = news} f z st m h k e =
      let b = bounds_of (walks c) st f in
      let p = and_parts (fits f) (is_below_zero b.high) e in
      at_most_below b.high z p.1 (and_parts (is_above b.low z) (is_below b.high z) (c.lawful.bounds (element_of (walks c) st f) z (form-has c news st.held f z k m.means))).1 h

  goes_on_here : {news : List ℤ} (w : Bool) (f : Fact) (z : ℤ) (st : State E) → IsForm c news f z → pos 0 ≤ℤ z → IsHeld c news st.held → is_left_out (walks c) w f st ≡ true → ⊥
  goes_on_here w f z st m h k e = elim (or_cases (w && is_refuted (walks c) f st) (is_dead f) e) [
    | inl o ↦ is_possible f z st m h k (and_parts w (is_refuted (walks c) f st) o).1
    | inr o ↦ is_alive f z m h o
  ]

  both_go_on_here : {news : List ℤ} (w : Bool) (f g : Fact) (y z : ℤ) (st : State E) → IsForm c news f y → pos 0 ≤ℤ y → IsForm c news g z → pos 0 ≤ℤ z → IsHeld c news st.held → is_either_left_out (walks c) w f g st ≡ true → ⊥
  both_go_on_here w f g y z st mf hf mg hg k e = elim (or_cases (is_left_out (walks c) w f st) (is_left_out (walks c) w g st) e) [
    | inl o ↦ goes_on_here w f y st mf hf k o
    | inr o ↦ goes_on_here w g z st mg hg k o
  ]

  one_goes_on_here : {news : List ℤ} (w : Bool) (f g : Fact) (y z : ℤ) (st : State E) → IsForm c news f y → IsForm c news g z → (pos 0 ≤ℤ y) ⊎ (pos 0 ≤ℤ z) → IsHeld c news st.held → are_both_left_out (walks c) w f g st ≡ true → ⊥
  one_goes_on_here w f g y z st mf mg (inl h) k e = goes_on_here w f y st mf h k (and_parts (is_left_out (walks c) w f st) (is_left_out (walks c) w g st) e).0
  one_goes_on_here w f g y z st mf mg (inr h) k e = goes_on_here w g z st mg h k (and_parts (is_left_out (walks c) w f st) (is_left_out (walks c) w g st) e).1

  -- a fact of a test that holds
  pub know_sound : {A : Type 0} (w : Bool) {facts : List Fact} {n : ℕ} {news : List ℤ} (f : Fact) (z : ℤ) (st : State E) (x : A) (go : A → State E → Tree E) → IsForm c news f z → pos 0 ≤ℤ z → Stands c launch facts n (know_test (walks c) w f st (go x)) news (keeping st) → Comes c launch facts n (know_test (walks c) w f st (go x)) go news (owns st) (λ more y. y ≡ x)
  know_sound w {facts = facts} {n = n} {news = news} f z st x go m h s = by (is_left_out (walks c) w f st) refl s
    where
      next : State E
      next = holding (narrow c.domain (known_of c) f st.held) st

      by : (b : Bool) → is_left_out (walks c) w f st ≡ b → Stands c launch facts n (unless_dead b f (go x (holding (narrow c.domain (known_of c) f st.held) st))) news (keeping st) → Comes c launch facts n (unless_dead b f (go x (holding (narrow c.domain (known_of c) f st.held) st))) go news (owns st) (λ more y. y ≡ x)
      by true e s = absurd (goes_on_here w f z st m h s.fit e)
      by false e s =
          let met : (v : ℕ → ℤ) → Agrees c news v → pos 0 ≤ℤ value_of v f = λ v a. omega (arith, ints, m.means v a, h) in
          comes_from c launch (over_fact c launch) (at_once c launch go (λ more y. y ≡ x) x (holding (narrow c.domain (known_of c) f st.held) st) refl (past_fact c launch met (narrowed c launch f m.rising met s)))

  know_two_sound : {A : Type 0} (w : Bool) {facts : List Fact} {n : ℕ} {news : List ℤ} (f g : Fact) (y z : ℤ) (st : State E) (x : A) (go : A → State E → Tree E) → IsForm c news f y → pos 0 ≤ℤ y → IsForm c news g z → pos 0 ≤ℤ z → Stands c launch facts n (know_two (walks c) w f g st (go x)) news (keeping st) → Comes c launch facts n (know_two (walks c) w f g st (go x)) go news (owns st) (λ more t. t ≡ x)
  know_two_sound w f g y z st x go mf hf mg hg s =
      let p = know_sound w f y st x (λ t st'. know_test (walks c) w g st' (go t)) mf hf s in
      let q = know_sound w g z p.state p.arrived go (form_kept c p.way.kept mg) hg p.stands in
      onward c launch p (restated c launch (λ more t kept e. e ∙ p.right) q)

  -- the first way of a fork, or the second one
  fork_first : {A : Type 0} {facts : List Fact} {n : ℕ} {news : List ℤ} (st : State E) (first second : State E → Tree E) (go : A → State E → Tree E) (P : List ℤ → A → Type 0) → Stands c launch facts n (fork st first second) news (keeping st) → (Stands c launch facts n (first st) news (keeping st) → Comes c launch facts n (first st) go news (owns st) P) → Comes c launch facts n (fork st first second) go news (owns st) P
  fork_first st first second go P s later = comes_from c launch (over_first c launch) (later (past_first c launch s))

  fork_second : {A : Type 0} {facts : List Fact} {n : ℕ} {news : List ℤ} (st : State E) (first second : State E → Tree E) (go : A → State E → Tree E) (P : List ℤ → A → Type 0) → Stands c launch facts n (fork st first second) news (keeping st) → ((m : ℕ) → Stands c launch facts m (second (counted m st)) news (keeping st) → Comes c launch facts m (second (counted m st)) go news (owns st) P) → Comes c launch facts n (fork st first second) go news (owns st) P
  fork_second st first second go P s later = comes_from c launch (over_second c launch) (later _ (past_second c launch s))

  -- the same of a test that makes no fork where a way is left out
  unless_first : {A : Type 0} (p q : Bool) {facts : List Fact} {n : ℕ} {news : List ℤ} (st : State E) (first second : State E → Tree E) (go : A → State E → Tree E) (P : List ℤ → A → Type 0) → (p ≡ true → ⊥) → Stands c launch facts n (fork_unless p q st first second) news (keeping st) → (Stands c launch facts n (first st) news (keeping st) → Comes c launch facts n (first st) go news (owns st) P) → Comes c launch facts n (fork_unless p q st first second) go news (owns st) P
  unless_first true q st first second go P h s later = absurd (h refl)
  unless_first false true st first second go P h s later = later s
  unless_first false false st first second go P h s later = fork_first st first second go P s later

  unless_second : {A : Type 0} (p q : Bool) {facts : List Fact} {n : ℕ} {news : List ℤ} (st : State E) (first second : State E → Tree E) (go : A → State E → Tree E) (P : List ℤ → A → Type 0) → (q ≡ true → ⊥) → Stands c launch facts n (fork_unless p q st first second) news (keeping st) → ((k m : ℕ) → Stands c launch facts m (second (counted k st)) news (keeping st) → Comes c launch facts m (second (counted k st)) go news (owns st) P) → Comes c launch facts n (fork_unless p q st first second) go news (owns st) P
  unless_second true q {n = n} st first second go P h s later = later st.claims n s
  unless_second false true st first second go P h s later = absurd (h refl)
  unless_second false false st first second go P h s later = fork_second st first second go P s (λ m. later m m)

  -- one is below the other, or not
  split_below_first : (w : Bool) {facts : List Fact} {n : ℕ} {news : List ℤ} (first otherwise : Bool) (f g : Fact) (z : ℤ) (st : State E) (go : Outcomes E) → IsForm c news f z → pos 0 ≤ℤ z → Stands c launch facts n (split_below (walks c) w first otherwise f g st go) news (keeping st) → Comes c launch facts n (split_below (walks c) w first otherwise f g st go) go news (owns st) (λ more t. t ≡ first)
  split_below_first w first otherwise f g z st go m h s =
      unless_first (is_left_out (walks c) w f st) (is_left_out (walks c) w g st) st (λ a. know_test (walks c) w f a (go first)) (λ a. know_test (walks c) w g a (go otherwise)) go (λ more t. t ≡ first) (goes_on_here w f z st m h s.fit) s (know_sound w f z st first go m h)

  split_below_other : (w : Bool) {facts : List Fact} {n : ℕ} {news : List ℤ} (first otherwise : Bool) (f g : Fact) (z : ℤ) (st : State E) (go : Outcomes E) → IsForm c news g z → pos 0 ≤ℤ z → Stands c launch facts n (split_below (walks c) w first otherwise f g st go) news (keeping st) → Comes c launch facts n (split_below (walks c) w first otherwise f g st go) go news (owns st) (λ more t. t ≡ otherwise)
  split_below_other w first otherwise f g z st go m h s =
      unless_second (is_left_out (walks c) w f st) (is_left_out (walks c) w g st) st (λ a. know_test (walks c) w f a (go first)) (λ a. know_test (walks c) w g a (go otherwise)) go (λ more t. t ≡ otherwise) (goes_on_here w g z st m h s.fit) s (λ k j. know_sound w g z (counted k st) otherwise go m h)

  form_below : {news : List ℤ} (f g : Fact) (x y : ℤ) → IsForm c news f x → IsForm c news g y → IsForm c news (below f g) ((y -ℤ x) -ℤ pos 1)
  form_below {news = news} f g x y mf mg = form-minus c (minus g f) (constant (pos 1)) (y -ℤ x) (pos 1) _ (form-minus c g f y x (y -ℤ x) mg mf (omega (arith, ints))) (form_constant c news (pos 1)) (omega (arith, ints))

  form_from : {news : List ℤ} (f g : Fact) (x y : ℤ) → IsForm c news f x → IsForm c news g y → IsForm c news (minus f g) (x -ℤ y)
  form_from f g x y mf mg = form-minus c f g x y (x -ℤ y) mf mg (omega (arith, ints))

  -- one way, or two, on which two numbers differ
  split_apart_sound : (b : Bool) {facts : List Fact} {n : ℕ} {news : List ℤ} (f g : Fact) (x y : ℤ) (st : State E) (go : Outcomes E) → (x ≡ y → ⊥) → IsForm c news f x → IsForm c news g y → Stands c launch facts n (split_apart (walks c) b f g st go) news (keeping st) → Comes c launch facts n (split_apart (walks c) b f g st go) go news (owns st) (λ more t. t ≡ false)
  split_apart_sound true f g x y st go d mf mg s = apart_sound c launch (minus f g) (minus g f) (x -ℤ y) (y -ℤ x) st false go (omega (arith, ints)) (λ e. d (omega (arith, ints, e))) (form_from f g x y mf mg) (form_from g f y x mg mf) s
  split_apart_sound false f g x y st go d mf mg s = elim (order x y) [
    | IsBelow l ↦ split_below_first c.is_wide false false (below f g) (below g f) ((y -ℤ x) -ℤ pos 1) st go (form_below f g x y mf mg) (omega (arith, ints, l)) s
    | IsSame e ↦ absurd (d e)
    | IsAbove l ↦ split_below_other c.is_wide false false (below f g) (below g f) ((x -ℤ y) -ℤ pos 1) st go (form_below g f y x mg mf) (omega (arith, ints, l)) s
  ]

  -- not 0, or 0
  from_zero_sound : {facts : List Fact} {n : ℕ} {news : List ℤ} (f g : Fact) (d e : ℤ) (st : State E) (go : Outcomes E) → d +ℤ e ≡ pos 0 → IsForm c news f d → IsForm c news g e → Stands c launch facts n (split_from_zero (walks c) f g st go) news (keeping st) → Comes c launch facts n (split_from_zero (walks c) f g st go) go news (owns st) (λ more t. t ≡ not (int_eq d (pos 0)))
  from_zero_sound f g d e st go h mf mg s =
      let first : State E → Tree E = λ a. told_apart (walks c) f g a (go true) in
      let second : State E → Tree E = λ a. know_two (walks c) c.is_wide f g a (go false) in
      let P : List ℤ → Bool → Type 0 = λ more t. t ≡ not (int_eq d (pos 0)) in
      let apart : (d ≡ pos 0 → ⊥) → Comes c launch _ _ (split_from_zero (walks c) f g st go) go _ (owns st) P = λ k. fork_first st first second go P s (λ u. restated c launch (λ more t kept q. q ∙ ap not (sym (int_eq-not d (pos 0) k))) (apart_sound c launch f g d e st true go h k mf mg u)) in
      elim (order d (pos 0)) [
        | IsBelow l ↦ apart (λ q. omega (arith, ints, q, l))
        | IsSame q ↦ fork_second st first second go P s (λ k u. restated c launch (λ more t kept r. r ∙ ap not (sym (int_eq-same d (pos 0) q))) (know_two_sound c.is_wide f g d e (counted k st) false go mf (omega (arith, ints, q)) mg (omega (arith, ints, q, h)) u))
        | IsAbove l ↦ apart (λ q. omega (arith, ints, q, l))
      ]

  -- above, below, or 0
  sign_sound : {facts : List Fact} {n : ℕ} {news : List ℤ} (p q f g : Fact) (z y x : ℤ) (st : State E) (go : Outcomes E) → (z ≡ pos 0 → pos 0 ≤ℤ y) → (z ≡ pos 0 → pos 0 ≤ℤ x) → IsForm c news p (z -ℤ pos 1) → IsForm c news q (negsuc 0 -ℤ z) → IsForm c news f y → IsForm c news g x → Stands c launch facts n (split_sign (walks c) p q f g st go) news (keeping st) →
      Comes c launch facts n (split_sign (walks c) p q f g st go) go news (owns st) (λ more t. t ≡ not (int_eq z (pos 0)))
  sign_sound p q f g z y x st go hy hx mp mq mf mg s =
      let late : State E → Tree E = λ b. know_two (walks c) c.is_wide f g b (go false) in
      let under : State E → Tree E = λ b. know_test (walks c) c.is_wide q b (go true) in
      let first : State E → Tree E = λ a. know_test (walks c) c.is_wide p a (go true) in
      let out : Bool = is_left_out (walks c) c.is_wide q st in
      let none : Bool = is_either_left_out (walks c) c.is_wide f g st in
      let second : State E → Tree E = λ a. split_rest (walks c) out none q f g a go in
      let P : List ℤ → Bool → Type 0 = λ more t. t ≡ not (int_eq z (pos 0)) in
      let below : z <ℤ pos 0 → out ≡ true → ⊥ = λ l. goes_on_here c.is_wide q (negsuc 0 -ℤ z) st mq (omega (arith, ints, l)) s.fit in
      let zero : z ≡ pos 0 → none ≡ true → ⊥ = λ r. both_go_on_here c.is_wide f g y x st mf (hy r) mg (hx r) s.fit in
      elim (order z (pos 0)) [
        | IsBelow l ↦ unless_second (is_left_out (walks c) c.is_wide p st) (out && none) st first second go P (λ e. below l (and_parts out none e).0) s (λ k i u. unless_first out none (counted k st) under late go P (below l) u (λ w. restated c launch (λ more t kept e. e ∙ ap not (sym (int_eq-not z (pos 0) (λ r. omega (arith, ints, r, l))))) (know_sound c.is_wide q (negsuc 0 -ℤ z) (counted k st) true go mq (omega (arith, ints, l)) w)))
        | IsSame r ↦ unless_second (is_left_out (walks c) c.is_wide p st) (out && none) st first second go P (λ e. zero r (and_parts out none e).1) s (λ k i u. unless_second out none (counted k st) under late go P (zero r) u (λ j o w. restated c launch (λ more t kept e. e ∙ ap not (sym (int_eq-same z (pos 0) r))) (know_two_sound c.is_wide f g y x (counted j (counted k st)) false go mf (hy r) mg (hx r) w)))
        | IsAbove l ↦ unless_first (is_left_out (walks c) c.is_wide p st) (out && none) st first second go P (goes_on_here c.is_wide p (z -ℤ pos 1) st mp (omega (arith, ints, l)) s.fit) s (λ u. restated c launch (λ more t kept e. e ∙ ap not (sym (int_eq-not z (pos 0) (λ r. omega (arith, ints, r, l))))) (know_sound c.is_wide p (z -ℤ pos 1) st true go mp (omega (arith, ints, l)) u))
      ]

  -- a comparison
  pub split_sound : (w : Bool) (r : Relation) {facts : List Fact} {n : ℕ} {news : List ℤ} (f g : Fact) (x y : ℤ) (st : State E) (go : Outcomes E) → IsForm c news f x → IsForm c news g y → Stands c launch facts n (split (walks c) w r f g st go) news (keeping st) → Comes c launch facts n (split (walks c) w r f g st go) go news (owns st) (λ more t. t ≡ holds r x y)
  split_sound w Less f g x y st go mf mg s = by_lt_z x y
      (λ l. restated c launch (λ more t kept e. e ∙ sym (lt_true x y l)) (split_below_first w true false (below f g) (minus f g) ((y -ℤ x) -ℤ pos 1) st go (form_below f g x y mf mg) (omega (arith, ints, l)) s))
      (λ l. restated c launch (λ more t kept e. e ∙ sym (int_lt-not x y l)) (split_below_other w true false (below f g) (minus f g) (x -ℤ y) st go (form_from f g x y mf mg) (omega (arith, ints, l)) s))
  split_sound w AtMost f g x y st go mf mg s = by_lt_z y x
      (λ l. restated c launch (λ more t kept e. e ∙ sym (int_le-not x y l)) (split_below_other w true false (minus g f) (below g f) ((x -ℤ y) -ℤ pos 1) st go (form_below g f y x mg mf) (omega (arith, ints, l)) s))
      (λ l. restated c launch (λ more t kept e. e ∙ sym (le_true x y l)) (split_below_first w true false (minus g f) (below g f) (y -ℤ x) st go (form_from g f y x mg mf) (omega (arith, ints, l)) s))
  split_sound w More f g x y st go mf mg s = by_lt_z y x
      (λ l. restated c launch (λ more t kept e. e ∙ sym (lt_true y x l)) (split_below_first w true false (below g f) (minus g f) ((x -ℤ y) -ℤ pos 1) st go (form_below g f y x mg mf) (omega (arith, ints, l)) s))
      (λ l. restated c launch (λ more t kept e. e ∙ sym (int_lt-not y x l)) (split_below_other w true false (below g f) (minus g f) (y -ℤ x) st go (form_from g f y x mg mf) (omega (arith, ints, l)) s))
  split_sound w AtLeast f g x y st go mf mg s = by_lt_z x y
      (λ l. restated c launch (λ more t kept e. e ∙ sym (int_le-not y x l)) (split_below_other w true false (minus f g) (below f g) ((y -ℤ x) -ℤ pos 1) st go (form_below f g x y mf mg) (omega (arith, ints, l)) s))
      (λ l. restated c launch (λ more t kept e. e ∙ sym (le_true y x l)) (split_below_first w true false (minus f g) (below f g) (x -ℤ y) st go (form_from f g x y mf mg) (omega (arith, ints, l)) s))
  split_sound w Equal f g x y st go mf mg s =
      let joined : State E → Bool = λ a. are_joined (walks c) (pos 1) (minus f g) (minus g f) a in
      let first : State E → Tree E = λ a. know_two (walks c) c.is_wide (minus f g) (minus g f) a (go true) in
      let second : State E → Tree E = λ a. split_apart (walks c) (joined a) f g a go in
      let P : List ℤ → Bool → Type 0 = λ more t. t ≡ int_eq x y in
      let equal : Bool = is_either_left_out (walks c) c.is_wide (minus f g) (minus g f) st in
      let apart : Bool = are_both_left_out (walks c) c.is_wide (below f g) (below g f) st in
      let differs : (pos 0 ≤ℤ ((y -ℤ x) -ℤ pos 1)) ⊎ (pos 0 ≤ℤ ((x -ℤ y) -ℤ pos 1)) → apart ≡ true → ⊥ = λ h. one_goes_on_here c.is_wide (below f g) (below g f) ((y -ℤ x) -ℤ pos 1) ((x -ℤ y) -ℤ pos 1) st (form_below f g x y mf mg) (form_below g f y x mg mf) h s.fit in
      elim (order x y) [
        | IsBelow l ↦ unless_second equal apart st first second go P (differs (inl (omega (arith, ints, l)))) s (λ k i u. restated c launch (λ more t kept e. e ∙ sym (int_eq-not x y (λ q. omega (arith, ints, q, l)))) (split_apart_sound (joined (counted k st)) f g x y (counted k st) go (λ q. omega (arith, ints, q, l)) mf mg u))
        | IsSame q ↦ unless_first equal apart st first second go P (both_go_on_here c.is_wide (minus f g) (minus g f) (x -ℤ y) (y -ℤ x) st (form_from f g x y mf mg) (omega (arith, ints, q)) (form_from g f y x mg mf) (omega (arith, ints, q)) s.fit) s (λ u. restated c launch (λ more t kept e. e ∙ sym (int_eq-same x y q)) (know_two_sound c.is_wide (minus f g) (minus g f) (x -ℤ y) (y -ℤ x) st true go (form_from f g x y mf mg) (omega (arith, ints, q)) (form_from g f y x mg mf) (omega (arith, ints, q)) u))
        | IsAbove l ↦ unless_second equal apart st first second go P (differs (inr (omega (arith, ints, l)))) s (λ k i u. restated c launch (λ more t kept e. e ∙ sym (int_eq-not x y (λ q. omega (arith, ints, q, l)))) (split_apart_sound (joined (counted k st)) f g x y (counted k st) go (λ q. omega (arith, ints, q, l)) mf mg u))
      ]
  split_sound w Unequal {facts = facts} {n = n} {news = news} f g x y st go mf mg s = by (are_joined (walks c) (pos 1) (minus f g) (minus g f) st) s
    where
      by : (b : Bool) → Stands c launch facts n (cond b (split_from_zero (walks c) (minus f g) (minus g f) st go) (split_sign (walks c) (below f g) (below g f) (minus f g) (minus g f) st go)) news (keeping st) →
          Comes c launch facts n (cond b (split_from_zero (walks c) (minus f g) (minus g f) st go) (split_sign (walks c) (below f g) (below g f) (minus f g) (minus g f) st go)) go news (owns st) (λ more t. t ≡ not (int_eq x y))
      by true s = restated c launch (λ more t kept e. e ∙ ap not (int_eq-alike (x -ℤ y) (pos 0) x y (λ h. omega (arith, ints, h)) (λ h. omega (arith, ints, h)))) (from_zero_sound (minus f g) (minus g f) (x -ℤ y) (y -ℤ x) st go (omega (arith, ints)) (form_from f g x y mf mg) (form_from g f y x mg mf) s)
      by false s =
          let is = form-is c (negsuc 0 -ℤ (y -ℤ x)) (omega (arith, ints)) (form_below g f y x mg mf) in
          restated c launch (λ more t kept e. e ∙ ap not (int_eq-alike (y -ℤ x) (pos 0) x y (λ h. omega (arith, ints, h)) (λ h. omega (arith, ints, h))))
          (sign_sound (below f g) (below g f) (minus f g) (minus g f) (y -ℤ x) (x -ℤ y) (y -ℤ x) st go (λ h. omega (arith, ints, h)) (λ h. omega (arith, ints, h)) (form_below f g x y mf mg) is (form_from f g x y mf mg) (form_from g f y x mg mf) s)

  -- a number as a test
  pub split_number_sound : {facts : List Fact} {n : ℕ} {news : List ℤ} (f : Fact) (z : ℤ) (st : State E) (go : Outcomes E) → IsForm c news f z → Stands c launch facts n (split_number (walks c) f st go) news (keeping st) → Comes c launch facts n (split_number (walks c) f st go) go news (owns st) (λ more t. t ≡ not (is_zero z))
  split_number_sound {facts = facts} {n = n} {news = news} f z st go m s = by (are_joined (walks c) (pos 1) f (multiple (negsuc 0) f) st) s
    where
      by : (b : Bool) → Stands c launch facts n (cond b (split_from_zero (walks c) f (multiple (negsuc 0) f) st go) (split_sign (walks c) (minus f (constant (pos 1))) (minus (constant (negsuc 0)) f) f (multiple (negsuc 0) f) st go)) news (keeping st) →
          Comes c launch facts n (cond b (split_from_zero (walks c) f (multiple (negsuc 0) f) st go) (split_sign (walks c) (minus f (constant (pos 1))) (minus (constant (negsuc 0)) f) f (multiple (negsuc 0) f) st go)) go news (owns st) (λ more t. t ≡ not (is_zero z))
      by true s = from_zero_sound f (multiple (negsuc 0) f) z (negsuc 0 *ℤ z) st go (omega (arith, ints)) m (form-multiple c (negsuc 0) f z m) s
      by false s = sign_sound (minus f (constant (pos 1))) (minus (constant (negsuc 0)) f) f (multiple (negsuc 0) f) z z (negsuc 0 *ℤ z) st go (λ h. omega (arith, ints, h)) (λ h. omega (arith, ints, h)) (form_from f (constant (pos 1)) z (pos 1) m (form_constant c news (pos 1))) (form_from (constant (negsuc 0)) f (negsuc 0) z (form_constant c news (negsuc 0)) m) m (form-multiple c (negsuc 0) f z m) s
