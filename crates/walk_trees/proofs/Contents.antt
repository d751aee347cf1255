-- What lines of the conditions say of a number that its buffer may hold holds, and a number of which it is shown may be held.
use Rattle.std.proofs.Common.{◌≡◌, ℕ, suc, Bool, true, false, List, [], ◌∷◌, ◌++◌, map, Option, Some, None, arith, refl, sym, subst, nat_eq}
use Rattle.std.specs.Prelude.{ℤ, pos, negsuc, ◌-ℤ◌, ◌≤ℤ◌, cond}
use Rattle.std.proofs.lemmas.Int.{ints}
use Rattle.std.proofs.lemmas.Bool.Decides.{nat_tests}
use Rattle.std.proofs.lemmas.List.Elements.{All-cons, All-nil, All-head, All-tail}
use Rattle.semantics.specs.Word.{Kind, Int, Uint, Size, Word, word, in_kind, as_kind}
use Rattle.semantics.specs.Core.{Site, Space, Global, Local, Array}
use Rattle.semantics.specs.Conditions.{Content, IsBounded, IsContent, sum_value}
use Rattle.semantics.specs.Setup.{group_of}
use Rattle.semantics.specs.Memory.{owner_of, cell, element_kind_in, element_kind, kind_in, kind_at}
use Rattle.semantics.specs.Contents.{MayHold, HoldsIn, Holds, HoldsOf}
use Rattle.semantics.proofs.Words.{as_kind-in_kind}
use Rattle.linear.specs.Linear.{value_of}
use Rattle.facts.specs.Symbols.{Fact, constant}
use Rattle.facts.specs.Launching.{BufferBound, buffer_bound, sum_form}
use Rattle.facts.proofs.Launched.{IsWorth, AreRising, rising-sum_form, sum_form-value}
use Rattle.facts.proofs.Worlds.{View, setup, Agrees}
use Rattle.walk_trees.specs.Held.{narrow}
use Rattle.walk_trees.specs.Trees.{OfContent, Tree}
use Rattle.walk_trees.specs.Values.{Value, value}
use Rattle.walk_trees.specs.Walks.{State, Onward, claimed_once, holding, at_site, is_kept, kept_or_new, ranged, brought_from}
use Rattle.walk_trees.specs.Contents.{of_buffer, contents_in, content_fact, know_contents, content_owed, claim_contents}
use Rattle.walk_trees.specs.Terms.{array_kind, element, keep_contents}
use Rattle.walk_trees.proofs.Holding.{known_of}
use Rattle.walk_trees.proofs.Shares.{keeping}
use Rattle.walk_trees.proofs.Standing.{walks, Stands, Comes, over_claim, over_fact, past_claim, past_fact, narrowed, at_once, comes_from, onward, arriving, restated, owns}
use Rattle.walk_trees.proofs.Ranges.{IsForm, IsValue, form_constant, form-minus, unknown_sound, told_by, over_range, past_range, brought_sound}

not-same : (a b : ℕ) → nat_eq a b ≡ false → a ≡ b → ⊥
not-same a b e h = grind (arith, nat_tests)

same-number : (a b : ℕ) → nat_eq a b ≡ true → a ≡ b
same-number a b e = grind (arith, nat_tests)

module _ {E : Type 0} (c : View E) where
  -- a sum's form, where it has one
  IsSumForm : List ℤ → Option Fact → ℤ → Type 0
  IsSumForm news None z = Unit {0}
  IsSumForm news (Some f) z = IsForm c news f z

  of_worth : (news : List ℤ) (o : Option Fact) (z : ℤ) → AreRising o → ((v : ℕ → ℤ) → Agrees c news v → IsWorth v o z) → IsSumForm news o z
  unfolding IsSumForm
  of_worth news None z r h = tt
  of_worth news (Some f) z r h = record { rising = r; means = h }

  sum_form-is : (news : List ℤ) (x : Content) → IsSumForm news (sum_form x.sum) (sum_value c.launch x.sum)
  sum_form-is news x = of_worth news (sum_form x.sum) (sum_value c.launch x.sum) (rising-sum_form x.sum) (λ v a. sum_form-value v c.launch a.products a.groups a.given x.sum)

  -- a fact that holds
  record Holding (news : List ℤ) (f : Fact) : Type 0 where
    number : ℤ
    form : IsForm c news f number
    holds : pos 0 ≤ℤ number

  fact_holds : (news : List ℤ) (b : ℕ) (up : Bool) (o : Option Fact) (sum : ℤ) (f : Fact) (z : ℤ) → IsSumForm news o sum → IsForm c news f z → IsBounded up sum z → Holding news (content_fact (record { buffer = b; is_upper = up; sum = o }) f)
  unfolding IsSumForm
  fact_holds news b true None sum f z w m h = record { number = pos 0; form = form_constant c news (pos 0); holds = omega (arith, ints) }
  fact_holds news b true (Some g) sum f z w m h = record { number = sum -ℤ z; form = form-minus c g f sum z (sum -ℤ z) w m (omega (arith, ints)); holds = omega (arith, ints, h) }
  fact_holds news b false None sum f z w m h = record { number = pos 0; form = form_constant c news (pos 0); holds = omega (arith, ints) }
  fact_holds news b false (Some g) sum f z w m h = record { number = z -ℤ sum; form = form-minus c f g z sum (z -ℤ sum) m w (omega (arith, ints)); holds = omega (arith, ints, h) }

  -- what is owed, and what it tells
  record Owing (news : List ℤ) (f : Fact) (P : Type 0) : Type 0 where
    number : ℤ
    form : IsForm c news f number
    tells : pos 0 ≤ℤ number → P

  owed_tells : (news : List ℤ) (up : Bool) (o : Option Fact) (sum : ℤ) (f : Fact) (z : ℤ) → IsSumForm news o sum → IsForm c news f z → Owing news (content_owed up o f) (IsBounded up sum z)
  unfolding IsSumForm
  owed_tells news up None sum f z w m = record { number = negsuc 0; form = form_constant c news (negsuc 0); tells = λ h. absurd (omega (arith, ints, h)) }
  owed_tells news true (Some g) sum f z w m = record { number = sum -ℤ z; form = form-minus c g f sum z (sum -ℤ z) w m (omega (arith, ints)); tells = λ h. omega (arith, ints, h) }
  owed_tells news false (Some g) sum f z w m = record { number = z -ℤ sum; form = form-minus c f g z sum (z -ℤ sum) m w (omega (arith, ints)); tells = λ h. omega (arith, ints, h) }

module _ {E : Type 0} (c : View E) (launch : List Fact) where
  -- what a line says of a number of a buffer
  abbrev IsLine : ℕ → ℤ → Content → Type 0
  IsLine b z x = x.buffer ≡ b → IsContent c.launch x z

  -- one line, and then the others
  know_line : (x : Content) (rest : List BufferBound) {facts : List Fact} {n : ℕ} {news : List ℤ} (f : Fact) (z : ℤ) (st : State E) (go : State E → Tree E) (t : Bool) → IsForm c news f z → (t ≡ true → IsContent c.launch x z) →
      ((path : List Fact) (st' : State E) → Stands c launch path n (know_contents (walks c) rest f st' go) news (keeping st') → Comes c launch path n (know_contents (walks c) rest f st' go) (λ (u : Unit {0}) st''. go st'') news (owns st') (λ more u. Unit {0})) →
      Stands c launch facts n (know_contents (walks c) (cond t (buffer_bound x ∷ rest) rest) f st go) news (keeping st) → Comes c launch facts n (know_contents (walks c) (cond t (buffer_bound x ∷ rest) rest) f st go) (λ (u : Unit {0}) st'. go st') news (owns st) (λ more u. Unit {0})
  know_line x rest {facts = facts} {news = news} f z st go true m h later s =
      let fact : Fact = content_fact (buffer_bound x) f in
      let p = fact_holds c news x.buffer x.is_upper (sum_form x.sum) (sum_value c.launch x.sum) f z (sum_form-is c news x) m (h refl) in
      let met : (v : ℕ → ℤ) → Agrees c news v → pos 0 ≤ℤ value_of v fact = λ v a. omega (arith, ints, p.form.means v a, p.holds) in
      comes_from c launch (over_fact c launch) (later (facts ++ fact ∷ []) (holding (narrow c.domain (known_of c) fact st.held) st) (past_fact c launch met (narrowed c launch fact p.form.rising met s)))
  know_line x rest {facts = facts} f z st go false m h later s = later facts st s

  -- what the lines say of a number that the buffer may hold
  know_contents_sound : (xs : List Content) (b : ℕ) {facts : List Fact} {n : ℕ} {news : List ℤ} (f : Fact) (z : ℤ) (st : State E) (go : State E → Tree E) → IsForm c news f z → MayHold (setup c) xs b z → Stands c launch facts n (know_contents (walks c) (of_buffer b (map buffer_bound xs)) f st go) news (keeping st) →
      Comes c launch facts n (know_contents (walks c) (of_buffer b (map buffer_bound xs)) f st go) (λ (u : Unit {0}) st'. go st') news (owns st) (λ more u. Unit {0})
  know_contents_sound [] b f z st go m h s = at_once c launch (λ (u : Unit {0}) st'. go st') (λ more u. Unit {0}) tt st tt s
  know_contents_sound (x ∷ xs) b f z st go m h s =
      know_line x (of_buffer b (map buffer_bound xs)) f z st go (nat_eq x.buffer b) m (λ e. All-head (IsLine b z) x xs h (same-number x.buffer b e))
      (λ path st' s'. know_contents_sound xs b f z st' go m (All-tail (IsLine b z) x xs h) s') s

  -- one line's claim, and then the others
  claim_line : (x : Content) (xs : List Content) (b : ℕ) (rest : List BufferBound) {facts : List Fact} {n : ℕ} {news : List ℤ} (f : Fact) (z : ℤ) (st : State E) (go : State E → Tree E) (t : Bool) → nat_eq x.buffer b ≡ t → IsForm c news f z →
      ((m : ℕ) (st' : State E) → Stands c launch facts m (claim_contents (walks c) rest f st' go) news (keeping st') → MayHold (setup c) xs b z × Comes c launch facts m (claim_contents (walks c) rest f st' go) (λ (u : Unit {0}) st''. go st'') news (owns st') (λ more u. Unit {0})) →
      Stands c launch facts n (claim_contents (walks c) (cond t (buffer_bound x ∷ rest) rest) f st go) news (keeping st) → MayHold (setup c) (x ∷ xs) b z × Comes c launch facts n (claim_contents (walks c) (cond t (buffer_bound x ∷ rest) rest) f st go) (λ (u : Unit {0}) st'. go st') news (owns st) (λ more u. Unit {0})
  claim_line x xs b rest {n = n} {news = news} f z st go true e m later s =
      let p = owed_tells c news x.is_upper (sum_form x.sum) (sum_value c.launch x.sum) f z (sum_form-is c news x) m in
      let told : IsContent c.launch x z = p.tells (told_by c launch OfContent (content_owed x.is_upper (sum_form x.sum) f) p.number st (λ st'. claim_contents (walks c) rest f st' go) s p.form.means) in
      let q = later (suc n) (claimed_once st) (past_claim c launch s) in
      (All-cons (IsLine b z) x xs (λ same. told) q.0, comes_from c launch (over_claim c launch) q.1)
  claim_line x xs b rest {n = n} f z st go false e m later s =
      let q = later n st s in
      (All-cons (IsLine b z) x xs (λ same. absurd (not-same x.buffer b e same)) q.0, q.1)

  -- where what is owed is shown, the buffer may hold the number
  claim_contents_sound : (xs : List Content) (b : ℕ) {facts : List Fact} {n : ℕ} {news : List ℤ} (f : Fact) (z : ℤ) (st : State E) (go : State E → Tree E) → IsForm c news f z → Stands c launch facts n (claim_contents (walks c) (of_buffer b (map buffer_bound xs)) f st go) news (keeping st) →
      MayHold (setup c) xs b z × Comes c launch facts n (claim_contents (walks c) (of_buffer b (map buffer_bound xs)) f st go) (λ (u : Unit {0}) st'. go st') news (owns st) (λ more u. Unit {0})
  claim_contents_sound [] b f z st go m s = (All-nil (IsLine b z), at_once c launch (λ (u : Unit {0}) st'. go st') (λ more u. Unit {0}) tt st tt s)
  claim_contents_sound (x ∷ xs) b f z st go m s = claim_line x xs b (of_buffer b (map buffer_bound xs)) f z st go (nat_eq x.buffer b) refl m (λ k st' s'. claim_contents_sound xs b f z st' go m s') s

  know_in : (sp : Space) (b : ℕ) {facts : List Fact} {n : ℕ} {news : List ℤ} (f : Fact) (z : ℤ) (st : State E) (go : State E → Tree E) → IsForm c news f z → HoldsOf (setup c) c.conditions.contents sp b z → Stands c launch facts n (know_contents (walks c) (contents_in (walks c) sp b) f st go) news (keeping st) →
      Comes c launch facts n (know_contents (walks c) (contents_in (walks c) sp b) f st go) (λ (u : Unit {0}) st'. go st') news (owns st) (λ more u. Unit {0})
  know_in Global b f z st go m h s = know_contents_sound c.conditions.contents b f z st go m h s
  know_in Local b f z st go m h s = at_once c launch (λ (u : Unit {0}) st'. go st') (λ more u. Unit {0}) tt st tt s

  -- any number that the array may hold
  pub element_sound : (a : Array) {facts : List Fact} {n : ℕ} {news : List ℤ} (st : State E) (go : Onward E) (z : ℤ) → in_kind (array_kind (walks c) a) z ≡ true → HoldsOf (setup c) c.conditions.contents a.space a.number z → Stands c launch facts n (element (walks c) a st go) news (keeping st) →
      Comes c launch facts n (element (walks c) a st go) go news (owns st) (λ more x. IsValue c more (word (array_kind (walks c) a) z) x)
  element_sound a st go z i h s =
      let k = array_kind (walks c) a in
      let p = unknown_sound c launch k st (λ v st'. know_contents (walks c) (contents_in (walks c) a.space a.number) v.form st' (λ st''. go v st'')) z i s in
      onward c launch p (arriving c launch go (λ (u : Unit {0}). p.arrived) (λ more x. IsValue c more (word k z) x) (λ more u kept t. record { kind = p.right.kind; form = record { rising = p.right.form.rising; means = λ v a. p.right.form.means v (kept v a) } })
      (know_in a.space a.number p.arrived.form z p.state (λ st''. go p.arrived st'') p.right.form h p.stands))

  -- a value that is stored is a number that the buffer may hold
  keep_by : (b : ℕ) (ys : List BufferBound) (k : Kind) (site : Site) {facts : List Fact} {n : ℕ} {news : List ℤ} (w : Word) (x : Value) (st : State E) (go : State E → Tree E) → of_buffer b (map buffer_bound c.conditions.contents) ≡ ys → in_kind w.kind w.value ≡ true → IsValue c news w x → Stands c launch facts n (keep_contents (walks c) ys k site x st go) news (keeping st) →
      MayHold (setup c) c.conditions.contents b (as_kind k w.value) × Comes c launch facts n (keep_contents (walks c) ys k site x st go) (λ (u : Unit {0}) st'. go st') news (owns st) (λ more u. Unit {0})
  keep_by b [] k site {facts = facts} {n = n} {news = news} w x st go e i m s =
      let z = as_kind k w.value in
      let s' : Stands c launch facts n (claim_contents (walks c) (of_buffer b (map buffer_bound c.conditions.contents)) (constant z) st go) news (keeping st) = subst (λ zs. Stands c launch facts n (claim_contents (walks c) zs (constant z) st go) news (keeping st)) (sym e) s in
      ((claim_contents_sound c.conditions.contents b (constant z) z st go (form_constant c news z) s').0, at_once c launch (λ (u : Unit {0}) st'. go st') (λ more u. Unit {0}) tt st tt s)
  keep_by b (y ∷ ys) k site w x st go e i m s =
      let p = (brought_sound c launch k w x (at_site site st) (λ v' st'. claim_contents (walks c) (y ∷ ys) v'.form st' go) i m s).comes in
      let q : MayHold (setup c) c.conditions.contents b (as_kind k w.value) × Comes c launch p.path p.count (claim_contents (walks c) (y ∷ ys) p.arrived.form p.state go) (λ (u : Unit {0}) st'. go st') p.more (owns p.state) (λ more u. Unit {0}) =
      subst (λ zs. Stands c launch p.path p.count (claim_contents (walks c) zs p.arrived.form p.state go) p.more (keeping p.state) → MayHold (setup c) c.conditions.contents b (as_kind k w.value) × Comes c launch p.path p.count (claim_contents (walks c) zs p.arrived.form p.state go) (λ (u : Unit {0}) st'. go st') p.more (owns p.state) (λ more u. Unit {0})) e
      (claim_contents_sound c.conditions.contents b p.arrived.form (as_kind k w.value) p.state go p.right.form) p.stands in
      (q.0, onward c launch p q.1)

  pub keep_sound : (sp : Space) (b : ℕ) (k : Kind) (site : Site) {facts : List Fact} {n : ℕ} {news : List ℤ} (w : Word) (x : Value) (st : State E) (go : State E → Tree E) → in_kind w.kind w.value ≡ true → IsValue c news w x → Stands c launch facts n (keep_contents (walks c) (contents_in (walks c) sp b) k site x st go) news (keeping st) →
      HoldsOf (setup c) c.conditions.contents sp b (as_kind k w.value) × Comes c launch facts n (keep_contents (walks c) (contents_in (walks c) sp b) k site x st go) (λ (u : Unit {0}) st'. go st') news (owns st) (λ more u. Unit {0})
  keep_sound Global b k site w x st go i m s = keep_by b (of_buffer b (map buffer_bound c.conditions.contents)) k site w x st go refl i m s
  keep_sound Local b k site w x st go i m s = (tt, at_once c launch (λ (u : Unit {0}) st'. go st') (λ more u. Unit {0}) tt st tt s)

  -- an item's element of the array
  kept_in : (sp : Space) (b : ℕ) (z : ℤ) → HoldsOf (setup c) c.conditions.contents sp b (as_kind (element_kind_in (setup c) sp b) z) → HoldsIn (setup c) c.conditions.contents (owner_of (setup c) c.item sp) b (as_kind (kind_in (setup c) (owner_of (setup c) c.item sp) b) z)
  kept_in Global b z h = h
  kept_in Local b z h = of_group (owner_of (setup c) c.item Local) (group_of (setup c) c.item) b _ (omega arith)
    where
      of_group : (o g b : ℕ) (y : ℤ) → o ≡ suc g → HoldsIn (setup c) c.conditions.contents o b y
      of_group o g b y e = subst (λ m. HoldsIn (setup c) c.conditions.contents m b y) (sym e) tt

  pub held_at : (a : Array) (k : ℕ) (z : ℤ) → HoldsOf (setup c) c.conditions.contents a.space a.number (as_kind (element_kind (setup c) a) z) → Holds (setup c) c.conditions.contents (cell (setup c) c.item a k) (as_kind (kind_at (setup c) (cell (setup c) c.item a k)) z)
  held_at a k z h = kept_in a.space a.number z h

  -- of whatever value: an item comes to what goes on
  kept_comes : (b : Bool) {facts : List Fact} {n : ℕ} {news : List ℤ} (f : Fact) (st : State E) (go : Onward E) → Stands c launch facts n (kept_or_new (walks c) b f st go) news (keeping st) → Comes c launch facts n (kept_or_new (walks c) b f st go) go news (owns st) (λ more x. Unit {0})
  kept_comes true f st go s = at_once c launch go (λ more x. Unit {0}) (value Uint f) st tt s
  kept_comes false f st go s = restated c launch (λ more x kept m. tt) (unknown_sound c launch Uint st go (as_kind Uint (pos 0)) (as_kind-in_kind Uint (pos 0)) s)

  ranged_comes : (k : Kind) {facts : List Fact} {n : ℕ} {news : List ℤ} (f : Fact) (st : State E) (go : Onward E) → Stands c launch facts n (ranged (walks c) k f st go) news (keeping st) → Comes c launch facts n (ranged (walks c) k f st go) go news (owns st) (λ more x. Unit {0})
  ranged_comes Int f st go s =
      let next : State E → Tree E = λ st'. go (value Int f) st' in
      comes_from c launch (over_range c launch true Int f st next) (at_once c launch go (λ more x. Unit {0}) (value Int f) (claimed_once (claimed_once st)) tt (past_range c launch true Int f st next s))
  ranged_comes Size f st go s =
      let next : State E → Tree E = λ st'. go (value Size f) st' in
      comes_from c launch (over_range c launch true Size f st next) (at_once c launch go (λ more x. Unit {0}) (value Size f) (claimed_once (claimed_once st)) tt (past_range c launch true Size f st next s))
  ranged_comes Uint f st go s =
      let b = is_kept (walks c) f st in
      let next : State E → Tree E = λ st'. kept_or_new (walks c) b f st' go in
      comes_from c launch (over_range c launch b Uint f st next) (kept_comes b f (claimed_once (claimed_once st)) go (past_range c launch b Uint f st next s))

  brought_comes : (to from : Kind) {facts : List Fact} {n : ℕ} {news : List ℤ} (f : Fact) (st : State E) (go : Onward E) → Stands c launch facts n (brought_from (walks c) to from f st go) news (keeping st) → Comes c launch facts n (brought_from (walks c) to from f st go) go news (owns st) (λ more x. Unit {0})
  brought_comes Int Int f st go s = at_once c launch go (λ more x. Unit {0}) (value Int f) st tt s
  brought_comes Int Uint f st go s = ranged_comes Int f st go s
  brought_comes Uint Int f st go s = ranged_comes Uint f st go s
  brought_comes Uint Uint f st go s = at_once c launch go (λ more x. Unit {0}) (value Uint f) st tt s
  brought_comes Int Size f st go s = ranged_comes Int f st go s
  brought_comes Uint Size f st go s = at_once c launch go (λ more x. Unit {0}) (value Uint f) st tt s
  brought_comes Size Int f st go s = ranged_comes Size f st go s
  brought_comes Size Uint f st go s = at_once c launch go (λ more x. Unit {0}) (value Size f) st tt s
  brought_comes Size Size f st go s = at_once c launch go (λ more x. Unit {0}) (value Size f) st tt s

  claims_come : (xs : List BufferBound) {facts : List Fact} {n : ℕ} {news : List ℤ} (f : Fact) (st : State E) (go : State E → Tree E) → Stands c launch facts n (claim_contents (walks c) xs f st go) news (keeping st) → Comes c launch facts n (claim_contents (walks c) xs f st go) (λ (u : Unit {0}) st'. go st') news (owns st) (λ more u. Unit {0})
  claims_come [] f st go s = at_once c launch (λ (u : Unit {0}) st'. go st') (λ more u. Unit {0}) tt st tt s
  claims_come (x ∷ xs) f st go s = comes_from c launch (over_claim c launch) (claims_come xs f (claimed_once st) go (past_claim c launch s))

  pub keeps_come : (xs : List BufferBound) (k : Kind) (site : Site) {facts : List Fact} {n : ℕ} {news : List ℤ} (x : Value) (st : State E) (go : State E → Tree E) → Stands c launch facts n (keep_contents (walks c) xs k site x st go) news (keeping st) → Comes c launch facts n (keep_contents (walks c) xs k site x st go) (λ (u : Unit {0}) st'. go st') news (owns st) (λ more u. Unit {0})
  keeps_come [] k site x st go s = at_once c launch (λ (u : Unit {0}) st'. go st') (λ more u. Unit {0}) tt st tt s
  keeps_come (y ∷ ys) k site x st go s =
      let p = brought_comes k x.kind x.form (at_site site st) (λ v' st'. claim_contents (walks c) (y ∷ ys) v'.form st' go) s in
      onward c launch p (claims_come (y ∷ ys) p.arrived.form p.state go p.stands)
