-- What a new symbol, the range rule and a conversion promise.
use Rattle.std.proofs.Common.{◌≡◌, ℕ, suc, Bool, true, false, List, [], ◌∷◌, ◌++◌, length, Option, Some, None, arith, refl, sym, ap, ◌∙◌, subst}
use Rattle.std.specs.Prelude.{ℤ, pos, negsuc, ◌+ℤ◌, ◌-ℤ◌, ◌*ℤ◌, ◌≤ℤ◌, Ok}
use Rattle.std.specs.List.{All}
use Rattle.std.proofs.lemmas.Int.{ints}
use Rattle.std.proofs.lemmas.Bool.{and_parts}
use Rattle.std.proofs.lemmas.List.Elements.{All-cons, All-nil}
use Rattle.semantics.specs.Word.{Kind, Int, Uint, Size, Exact, Word, word, in_kind, as_kind, settle}
use Rattle.semantics.specs.Evaluation.{operand}
use Rattle.linear.specs.Linear.{value_of, IsMet}
use Rattle.semantics.proofs.Words.{as_kind-in_kind, as_kind-same}
use Rattle.linear.specs.Exact.{sum, multiple}
use Rattle.linear.proofs.Merging.{IsRising, rising-merge, rising-multiples}
use Rattle.domain.specs.declared.Bounds.{Bounds}
use Rattle.domain.specs.Members.{is_above, is_below, is_within}
use Rattle.facts.specs.Symbols.{First, New, Symbol, number, Fact, constant, once, minus}
use Rattle.facts.proofs.Integers.{le_test}
use Rattle.facts.proofs.Values.{value-sum, value-multiple, value-minus, value-constant, value-once}
use Rattle.facts.proofs.Members.{between-has}
use Rattle.facts.proofs.Worlds.{View, Agrees, Means, agrees_new}
use Rattle.walk_trees.specs.Held.{with_new}
use Rattle.walk_trees.specs.Trees.{Sort, OfRange, Tree}
use Rattle.walk_trees.specs.Values.{Value, value}
use Rattle.walk_trees.specs.Walks.{State, Onward, claimed_once, holding, claim_form, lower_fact, upper_fact, bound_facts, newest, invent, least, greatest, any_of, unknown, low_end, high_end, in_range, is_kept, kept_or_new, ranged, brought_from, brought, both_brought}
use Rattle.walk_trees.proofs.KindEnds.{in_kind-between, in_kind-ends, uint-is, size-is, settle-same, operand-is}
use Rattle.walk_trees.proofs.Holding.{held_settles}
use Rattle.walk_trees.proofs.Shares.{keeping}
use Rattle.walk_trees.proofs.Standing.{walks, Stands, Way, Comes, way_then, over_claim, over_new, over_facts, past_claim, past_new, past_facts, at_once, comes_from, onward, arriving, restated, told, Owns, owns}

-- the form has that value, and its symbols rise
pub record IsForm {E : Type 0} (c : View E) (news : List ℤ) (f : Fact) (z : ℤ) : Type 0 where
  pub rising : IsRising 0 f.terms
  pub means : Means c news f z

-- a value that has this word's kind, and its number
pub record IsValue {E : Type 0} (c : View E) (news : List ℤ) (w : Word) (x : Value) : Type 0 where
  pub kind : x.kind ≡ w.kind
  pub form : IsForm c news x.form w.value

module _ {E : Type 0} (c : View E) where
  pub form_kept : {news more : List ℤ} {f : Fact} {z : ℤ} → ((v : ℕ → ℤ) → Agrees c more v → Agrees c news v) → IsForm c news f z → IsForm c more f z
  form_kept k m = record { rising = m.rising; means = λ v a. m.means v (k v a) }

  pub value_kept : {news more : List ℤ} {w : Word} {x : Value} → ((v : ℕ → ℤ) → Agrees c more v → Agrees c news v) → IsValue c news w x → IsValue c more w x
  value_kept k m = record { kind = m.kind; form = form_kept k m.form }

  pub form-is : {news : List ℤ} {f : Fact} {y : ℤ} (z : ℤ) → y ≡ z → IsForm c news f y → IsForm c news f z
  form-is {news = news} {f = f} z e m = subst (λ x. IsForm c news f x) e m

  pub form_constant : (news : List ℤ) (z : ℤ) → IsForm c news (constant z) z
  form_constant news z = record { rising = tt; means = λ v a. value-constant v z }

  pub form_once : (news : List ℤ) (s : Symbol) (z : ℤ) → ((v : ℕ → ℤ) → Agrees c news v → v (number s) ≡ z) → IsForm c news (once s) z
  form_once news s z h = record { rising = (omega arith, λ e. cc, tt); means = λ v a. value-once v s ∙ h v a }

  pub form-sum : {news : List ℤ} (f g : Fact) (x y : ℤ) → IsForm c news f x → IsForm c news g y → IsForm c news (sum f g) (x +ℤ y)
  form-sum f g x y mf mg = record { rising = rising-merge 0 f.terms g.terms mf.rising mg.rising; means = λ v a. omega (arith, ints, value-sum v f g, mf.means v a, mg.means v a) }

  pub form-multiple : {news : List ℤ} (k : ℤ) (f : Fact) (x : ℤ) → IsForm c news f x → IsForm c news (multiple k f) (k *ℤ x)
  form-multiple k f x m = record { rising = rising-multiples 0 k f.terms m.rising; means = λ v a. value-multiple v k f ∙ ap (λ z. k *ℤ z) (m.means v a) }

  pub form-minus : {news : List ℤ} (f g : Fact) (x y z : ℤ) → IsForm c news f x → IsForm c news g y → z +ℤ y ≡ x → IsForm c news (minus f g) z
  form-minus f g x y z mf mg e = record { rising = rising-merge 0 f.terms (multiple (negsuc 0) g).terms mf.rising (rising-multiples 0 (negsuc 0) g.terms mg.rising); means = λ v a. omega (arith, ints, value-minus v f g, mf.means v a, mg.means v a, e) }

-- what a symbol's bounds say of it
lower_holds : (v : ℕ → ℤ) (f : Fact) (o : Option ℤ) (rest : List Fact) (z : ℤ) → value_of v f ≡ z → is_above o z ≡ true → All (IsMet v) rest → All (IsMet v) (lower_fact f o rest)
lower_holds v f None rest z e h r = r
lower_holds v f (Some low) rest z e h r = All-cons (IsMet v) (minus f (constant low)) rest (omega (arith, ints, value-minus v f (constant low), value-constant v low, e, le_test low z h)) r

upper_holds : (v : ℕ → ℤ) (f : Fact) (o : Option ℤ) (z : ℤ) → value_of v f ≡ z → is_below o z ≡ true → All (IsMet v) (upper_fact f o)
upper_holds v f None z e h = All-nil (IsMet v)
upper_holds v f (Some high) z e h = All-cons (IsMet v) (minus (constant high) f) [] (omega (arith, ints, value-minus v (constant high) f, value-constant v high, e, le_test z high h)) (All-nil (IsMet v))

pub bounds_hold : (v : ℕ → ℤ) (f : Fact) (b : Bounds) (z : ℤ) → value_of v f ≡ z → is_within b z ≡ true → All (IsMet v) (bound_facts f b)
bounds_hold v f b z e h =
    let p = and_parts (is_above b.low z) (is_below b.high z) h in
    lower_holds v f b.low (upper_fact f b.high) z e p.0 (upper_holds v f b.high z e p.1)

-- an exact result settles to the word of its bits, which is the value of what goes on
pub record Settles {E : Type 0} (c : View E) (launch facts : List Fact) (n : ℕ) (tree : Tree E) (k : Kind) (go : Onward E) (news : List ℤ) (variables : Owns) (y : ℤ) : Type 0 where
  pub settles : settle Exact k y ≡ Ok (word k (as_kind k y))
  pub comes : Comes c launch facts n tree go news variables (λ more x. IsValue c more (word k (as_kind k y)) x)

module _ {E : Type 0} (c : View E) (launch : List Fact) where
  form_new : (news : List ℤ) (n : ℕ) (z : ℤ) → length news ≡ n → IsForm c (news ++ z ∷ []) (once (New First n)) z
  form_new news n z e = form_once c (news ++ z ∷ []) (New First n) z (λ v a. ap (λ k. v (number (New First k))) (sym e) ∙ agrees_new c news z v a)

  -- what arrives is the newest symbol
  pub newest_sound : {facts : List Fact} {n : ℕ} {news : List ℤ} (e : E) (st : State E) (go : Fact → State E → Tree E) (z : ℤ) → c.domain.has e z ≡ true → Stands c launch facts n (invent (walks c) e st go) news (keeping st) → Comes c launch facts n (invent (walks c) e st go) go news (owns st) (λ more f. IsForm c more f z × IsForm c more (newest st) z)
  newest_sound {news = news} e st go z h s =
      let new = newest st in
      let b = c.domain.bounds_of e in
      let is = form_new news (length st.held.news) z s.counted in
      let s1 = past_facts c launch (bound_facts new b) (λ v a. bounds_hold v new b z (is.means v a) (c.lawful.bounds e z h)) (past_new c launch z e h s) in
      comes_from c launch (way_then c launch (over_new c launch z) (over_facts c launch (bound_facts new b)))
      (at_once c launch go (λ more f. IsForm c more f z × IsForm c more new z) new (holding (with_new e st.held) st) (is, is) s1)

  pub invent_sound : {facts : List Fact} {n : ℕ} {news : List ℤ} (e : E) (st : State E) (go : Fact → State E → Tree E) (z : ℤ) → c.domain.has e z ≡ true → Stands c launch facts n (invent (walks c) e st go) news (keeping st) → Comes c launch facts n (invent (walks c) e st go) go news (owns st) (λ more f. IsForm c more f z)
  invent_sound e st go z h s = restated c launch (λ more f kept m. m.0) (newest_sound e st go z h s)

  pub unknown_sound : {facts : List Fact} {n : ℕ} {news : List ℤ} (k : Kind) (st : State E) (go : Onward E) (z : ℤ) → in_kind k z ≡ true → Stands c launch facts n (unknown (walks c) k st go) news (keeping st) → Comes c launch facts n (unknown (walks c) k st go) go news (owns st) (λ more x. IsValue c more (word k z) x)
  unknown_sound k st go z h s =
      let ends = in_kind-ends k z h in
      arriving c launch go (value k) (λ more x. IsValue c more (word k z) x) (λ more f kept m. record { kind = refl; form = m })
      (invent_sound (any_of c.domain k) st (λ f st'. go (value k f) st') z (between-has c.domain c.lawful (least k) (greatest k) z ends.0 ends.1) s)

  pub told_by : {facts : List Fact} {n : ℕ} {news : List ℤ} (o : Sort) (f : Fact) (z : ℤ) (st : State E) (go : State E → Tree E) → Stands c launch facts n (claim_form (walks c) o true f st go) news (keeping st) → Means c news f z → pos 0 ≤ℤ z
  told_by {news = news} o f z st go s m = told c launch f z s m (held_settles c news st.held f z s.fit m)

  -- both ends of a range are shown
  pub bounded : {facts : List Fact} {n : ℕ} {news : List ℤ} (k : Kind) (f : Fact) (st : State E) (go : State E → Tree E) (y : ℤ) → Stands c launch facts n (in_range (walks c) true k f st go) news (keeping st) → IsForm c news f y → in_kind k y ≡ true
  bounded {news = news} k f st go y s m =
      let low : pos 0 ≤ℤ (y -ℤ least k) = told_by (OfRange k) (low_end k f) (y -ℤ least k) st (λ st'. claim_form (walks c) (OfRange k) true (high_end k f) st' go) s (form-minus c f (constant (least k)) y (least k) (y -ℤ least k) m (form_constant c news (least k)) (omega (arith, ints))).means in
      let high : pos 0 ≤ℤ (greatest k -ℤ y) = told_by (OfRange k) (high_end k f) (greatest k -ℤ y) (claimed_once st) go (past_claim c launch s) (form-minus c (constant (greatest k)) f (greatest k) y (greatest k -ℤ y) (form_constant c news (greatest k)) m (omega (arith, ints))).means in
      in_kind-between k y (omega (arith, ints)) (omega (arith, ints))

  pub past_range : {facts : List Fact} {n : ℕ} {news : List ℤ} (needed : Bool) (k : Kind) (f : Fact) (st : State E) (go : State E → Tree E) → Stands c launch facts n (in_range (walks c) needed k f st go) news (keeping st) → Stands c launch facts (suc (suc n)) (go (claimed_once (claimed_once st))) news (keeping st)
  past_range needed k f st go s = past_claim c launch (past_claim c launch s)

  pub over_range : {facts : List Fact} {n : ℕ} {news : List ℤ} (needed : Bool) (k : Kind) (f : Fact) (st : State E) (go : State E → Tree E) → Way c facts n (in_range (walks c) needed k f st go) news facts (suc (suc n)) (go (claimed_once (claimed_once st))) news
  over_range needed k f st go = way_then c launch (over_claim c launch) (over_claim c launch)

  kept_sound : (b : Bool) {facts : List Fact} {n : ℕ} {news : List ℤ} (f : Fact) (st : State E) (go : Onward E) (y : ℤ) → Stands c launch facts n (in_range (walks c) b Uint f st (λ st'. kept_or_new (walks c) b f st' go)) news (keeping st) → IsForm c news f y →
      Comes c launch facts n (in_range (walks c) b Uint f st (λ st'. kept_or_new (walks c) b f st' go)) go news (owns st) (λ more x. IsValue c more (word Uint (as_kind Uint y)) x)
  kept_sound true f st go y s m =
      let next : State E → Tree E = λ st'. kept_or_new (walks c) true f st' go in
      comes_from c launch (over_range true Uint f st next)
      (at_once c launch go (λ more x. IsValue c more (word Uint (as_kind Uint y)) x) (value Uint f) (claimed_once (claimed_once st))
      (record { kind = refl; form = form-is c (as_kind Uint y) (sym (as_kind-same Uint y (bounded Uint f st next y s m))) m }) (past_range true Uint f st next s))
  kept_sound false f st go y s m =
      let next : State E → Tree E = λ st'. kept_or_new (walks c) false f st' go in
      comes_from c launch (over_range false Uint f st next) (unknown_sound Uint (claimed_once (claimed_once st)) go (as_kind Uint y) (as_kind-in_kind Uint y) (past_range false Uint f st next s))

  pub ranged_sound : (k : Kind) {facts : List Fact} {n : ℕ} {news : List ℤ} (f : Fact) (st : State E) (go : Onward E) (y : ℤ) → Stands c launch facts n (ranged (walks c) k f st go) news (keeping st) → IsForm c news f y → Settles c launch facts n (ranged (walks c) k f st go) k go news (owns st) y
  ranged_sound Int f st go y s m =
      let next : State E → Tree E = λ st'. go (value Int f) st' in
      let h = bounded Int f st next y s m in
      record {
        settles = settle-same Int y h;
        comes = comes_from c launch (over_range true Int f st next)
            (at_once c launch go (λ more x. IsValue c more (word Int (as_kind Int y)) x) (value Int f) (claimed_once (claimed_once st))
            (record { kind = refl; form = form-is c (as_kind Int y) (sym (as_kind-same Int y h)) m }) (past_range true Int f st next s));
      }
  ranged_sound Size f st go y s m =
      let next : State E → Tree E = λ st'. go (value Size f) st' in
      let h = bounded Size f st next y s m in
      record {
        settles = settle-same Size y h;
        comes = comes_from c launch (over_range true Size f st next)
            (at_once c launch go (λ more x. IsValue c more (word Size (as_kind Size y)) x) (value Size f) (claimed_once (claimed_once st))
            (record { kind = refl; form = form-is c (as_kind Size y) (sym (as_kind-same Size y h)) m }) (past_range true Size f st next s));
      }
  ranged_sound Uint f st go y s m = record { settles = refl; comes = kept_sound (is_kept (walks c) f st) f st go y s m }

  -- a number of its kind goes on as it is
  pub same_kind : (k : Kind) {facts : List Fact} {n : ℕ} {news : List ℤ} (f : Fact) (st : State E) (go : Onward E) (y : ℤ) → in_kind k y ≡ true → Stands c launch facts n (go (value k f) st) news (keeping st) → IsForm c news f y → Settles c launch facts n (go (value k f) st) k go news (owns st) y
  same_kind k f st go y h s m = record { settles = settle-same k y h; comes = at_once c launch go (λ more x. IsValue c more (word k (as_kind k y)) x) (value k f) st (record { kind = refl; form = form-is c (as_kind k y) (sym (as_kind-same k y h)) m }) s }

  brought_from_sound : (to from : Kind) {facts : List Fact} {n : ℕ} {news : List ℤ} (f : Fact) (st : State E) (go : Onward E) (y : ℤ) → in_kind from y ≡ true → Stands c launch facts n (brought_from (walks c) to from f st go) news (keeping st) → IsForm c news f y → Settles c launch facts n (brought_from (walks c) to from f st go) to go news (owns st) y
  brought_from_sound Int Int f st go y h s m = same_kind Int f st go y h s m
  brought_from_sound Int Uint f st go y h s m = ranged_sound Int f st go y s m
  brought_from_sound Uint Int f st go y h s m = ranged_sound Uint f st go y s m
  brought_from_sound Uint Uint f st go y h s m = same_kind Uint f st go y h s m
  brought_from_sound Int Size f st go y h s m = ranged_sound Int f st go y s m
  brought_from_sound Uint Size f st go y h s m = same_kind Uint f st go y (uint-is y h) s m
  brought_from_sound Size Int f st go y h s m = ranged_sound Size f st go y s m
  brought_from_sound Size Uint f st go y h s m = same_kind Size f st go y (size-is y h) s m
  brought_from_sound Size Size f st go y h s m = same_kind Size f st go y h s m

  -- a value brought to a kind
  pub brought_sound : (k : Kind) {facts : List Fact} {n : ℕ} {news : List ℤ} (w : Word) (x : Value) (st : State E) (go : Onward E) → in_kind w.kind w.value ≡ true → IsValue c news w x → Stands c launch facts n (brought (walks c) k x st go) news (keeping st) → Settles c launch facts n (brought (walks c) k x st go) k go news (owns st) w.value
  brought_sound k w x st go h m s = brought_from_sound k x.kind x.form st go w.value (subst (λ j. in_kind j w.value ≡ true) (sym m.kind) h) s m.form

  -- two values
  pub both_sound : (k : Kind) {facts : List Fact} {n : ℕ} {news : List ℤ} (a b : Word) (x y : Value) (st : State E) (go : Value → Value → State E → Tree E) → in_kind a.kind a.value ≡ true → in_kind b.kind b.value ≡ true → IsValue c news a x → IsValue c news b y → Stands c launch facts n (both_brought (walks c) k x y st go) news (keeping st) →
      Comes c launch facts n (both_brought (walks c) k x y st go) (λ (p : Value × Value) st'. go p.0 p.1 st') news (owns st) (λ more p. IsValue c more (word k (as_kind k a.value)) p.0 × IsValue c more (word k (as_kind k b.value)) p.1)
  both_sound k a b x y st go ha hb mx my s =
      let u = (brought_sound k a x st (λ x' st1. brought (walks c) k y st1 (λ y' st2. go x' y' st2)) ha mx s).comes in
      let w = (brought_sound k b y u.state (λ y' st2. go u.arrived y' st2) hb (value_kept c u.way.kept my) u.stands).comes in
      onward c launch u (arriving c launch (λ (p : Value × Value) st'. go p.0 p.1 st') (λ y'. (u.arrived, y')) (λ more p. IsValue c more (word k (as_kind k a.value)) p.0 × IsValue c more (word k (as_kind k b.value)) p.1)
      (λ more y' kept m. (value_kept c kept u.right, m)) w)

  -- what an operator takes of them
  pub both_taken : (k : Kind) {facts : List Fact} {n : ℕ} {news : List ℤ} (a b : Word) (x y : Value) (st : State E) (go : Value → Value → State E → Tree E) → in_kind a.kind a.value ≡ true → in_kind b.kind b.value ≡ true → IsValue c news a x → IsValue c news b y → Stands c launch facts n (both_brought (walks c) k x y st go) news (keeping st) →
      (operand k a.value ≡ as_kind k a.value) × (operand k b.value ≡ as_kind k b.value)
  both_taken k a b x y st go ha hb mx my s =
      let u = brought_sound k a x st (λ x' st1. brought (walks c) k y st1 (λ y' st2. go x' y' st2)) ha mx s in
      let w = brought_sound k b y u.comes.state (λ y' st2. go u.comes.arrived y' st2) hb (value_kept c u.comes.way.kept my) u.comes.stands in
      (operand-is k a.value u.settles, operand-is k b.value w.settles)
