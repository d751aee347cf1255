-- What the walk of a term promises, as a value and as a test: no fault, each load in the tree, and a form that has the term's value.
use Rattle.std.proofs.Common.{◌≡◌, ℕ, ◌^◌, ◌<◌, ◌&&◌, Bool, true, false, not, cond, List, length, slice_index_or, arith, refl, sym, ap, ap₂, ◌∙◌, subst, lt-ltb}
use Rattle.std.specs.Prelude.{ℤ, pos, Result}
use Rattle.std.proofs.lemmas.Bool.{and_parts}
use Rattle.semantics.specs.Word.{Kind, Int, Uint, Size, Exact, Word, word, zero_word, Fault, in_kind, as_kind, truth, is_zero, smaller, larger, shift, count_of, holds, calculate, calculate_unary, convert}
use Rattle.semantics.specs.Core.{Site, Term, Literal, Variable, Id, Load, Unary, Binary, Convert, Compare, Not, And, Or, Select, Minimum, Maximum, Shift, Within, Opaque}
use Rattle.semantics.specs.Setup.{identity}
use Rattle.semantics.specs.Contents.{FirstHeld, Behind, HonestTerm}
use Rattle.semantics.specs.Evaluation as evaluation
use Rattle.semantics.specs.Evaluation.{Outcome, Gives, and_then, settled, decide, operand, operate, compare, within, inside, opaque, evaluate, load as loaded}
use Rattle.semantics.proofs.Words.{as_kind-in_kind}
use Rattle.facts.specs.Symbols.{Fact, constant}
use Rattle.facts.proofs.Worlds.{View, setup, Agrees}
use Rattle.walk_trees.specs.Trees.{Tree}
use Rattle.walk_trees.specs.Values.{Value, value}
use Rattle.walk_trees.specs.Walks.{State, Onward, at_site, unknown, brought, both_brought}
use Rattle.walk_trees.specs.Operators.{unary, binary}
use Rattle.walk_trees.specs.Shifts.{shifted}
use Rattle.walk_trees.specs.Tests.{Outcomes, split, split_number}
use Rattle.walk_trees.specs.Terms.{Walks, by_value, by_test, truth_value, no_value, variable, id_form, in_length, load, chosen, pick, walk}
use Rattle.walk_trees.specs.Covered.{is_id_kind, is_covered_unary, covers_term}
use Rattle.walk_trees.proofs.Shares.{keeping}
use Rattle.walk_trees.proofs.Standing.{walks, Stands, Comes, Goes, gives, at_once, onward, restated, goes_then, goes_further, goes_as, Owns, owns}
use Rattle.walk_trees.proofs.Ranges.{IsValue, value_kept, form_constant, unknown_sound, brought_sound, both_sound, both_taken}
use Rattle.walk_trees.proofs.Splits.{split_sound, split_number_sound}
use Rattle.walk_trees.proofs.Picks.{picked_goes}
use Rattle.walk_trees.proofs.QuotientSound.{DividesLawfully}
use Rattle.walk_trees.proofs.Arithmetic.{Yields, settled_yields, binary_sound, unary_sound}
use Rattle.walk_trees.proofs.Identities.{id-below, form_id}
use Rattle.walk_trees.proofs.KindEnds.{operand-is}
use Rattle.walk_trees.proofs.ShiftSound.{shift-in, shifted_sound}
use Rattle.walk_trees.proofs.Accesses.{within-at, lies, load_sound}

-- each slot's word is of its kind, and the slot's value is of that kind and has its number
pub record AreForms {E : Type 0} (c : View E) (news : List ℤ) (words : List Word) (values : List Value) : Type 0 where
  pub lengths : length words ≡ length values
  pub right : (x : ℕ) → in_kind (slice_index_or words x zero_word).kind (slice_index_or words x zero_word).value ≡ true
  pub each : (x : ℕ) → IsValue c news (slice_index_or words x zero_word) (slice_index_or values x no_value)

pub forms_kept : {E : Type 0} (c : View E) {news more : List ℤ} {words : List Word} {values : List Value} → ((v : ℕ → ℤ) → Agrees c more v → Agrees c news v) → AreForms c news words values → AreForms c more words values
forms_kept c k m = record { lengths = m.lengths; right = m.right; each = λ x. value_kept c k (m.each x) }

pub forms_same : {E : Type 0} (c : View E) {news : List ℤ} {words : List Word} {values others : List Value} → others ≡ values → AreForms c news words values → AreForms c news words others
forms_same c {news = news} {words = words} e m = subst (λ vs. AreForms c news words vs) (sym e) m

-- an id is a number of its kind
id-in : (k : Kind) (n : ℕ) → is_id_kind k ≡ true → n < 4294967296 → in_kind k (pos n) ≡ true
id-in Int n h l = cc
id-in Uint n h l = lt-ltb n 4294967296 l
id-in Size n h l = lt-ltb n 4294967296 l

truth-in : (b : Bool) → in_kind (truth b).kind (truth b).value ≡ true
truth-in true = lt-ltb 1 (2 ^ 31) (omega arith)
truth-in false = lt-ltb 0 (2 ^ 31) (omega arith)

not-not : (a b : Bool) → b ≡ not a → a ≡ not b
not-not true true e = cc
not-not true false e = refl
not-not false true e = refl
not-not false false e = cc

not-false : (a : Bool) → not a ≡ false → a ≡ true
not-false true e = refl
not-false false e = cc

-- a value arrives as one of its kind with its number, a test as what number it is, a truth value as itself
abbrev pub ArrivesAsValue : {E : Type 0} → View E → Word → List ℤ → Value → Type 0
ArrivesAsValue c w more x = IsValue c more w x

abbrev pub ArrivesAsTest : Word → List ℤ → Bool → Type 0
ArrivesAsTest w more b = b ≡ not (is_zero w.value)

abbrev ArrivesAsTruth : Word → List ℤ → Bool → Type 0
ArrivesAsTruth w more b = w ≡ truth b

truth-test : (w : Word) (more : List ℤ) (b : Bool) → ArrivesAsTruth w more b → ArrivesAsTest w more b
truth-test w more b e = by b ∙ ap (λ (x : Word). not (is_zero x.value)) (sym e)
  where
    by : (b : Bool) → b ≡ not (is_zero (truth b).value)
    by true = refl
    by false = refl

module _ {E : Type 0} (c : View E) (launch : List Fact) (laws : DividesLawfully c.domain) (now : List ℕ) where
  -- what is promised of a walk as a value, as a test, and of one whose value is a truth value, where the answers to its loads are numbers
  -- that buffers may hold
  abbrev pub IsValueWalk : (State E → Onward E → Tree E) → (List Word → List Word → Outcome) → (honest : List Word → List Word → Type 0) → Type 0
  IsValueWalk walk ev honest = (facts : List Fact) (n : ℕ) (news : List ℤ) (st : State E) (go : Onward E) (vars answers : List Word) → honest vars answers → AreForms c news vars st.variables → Stands c launch facts n (walk st go) news (keeping st) → Goes c launch facts n (walk st go) go news (owns st) (ArrivesAsValue c) (ev vars answers)

  abbrev pub IsTestWalk : (State E → Outcomes E → Tree E) → (List Word → List Word → Outcome) → (honest : List Word → List Word → Type 0) → Type 0
  IsTestWalk walk ev honest = (facts : List Fact) (n : ℕ) (news : List ℤ) (st : State E) (go : Outcomes E) (vars answers : List Word) → honest vars answers → AreForms c news vars st.variables → Stands c launch facts n (walk st go) news (keeping st) → Goes c launch facts n (walk st go) go news (owns st) ArrivesAsTest (ev vars answers)

  abbrev IsTruthWalk : (State E → Outcomes E → Tree E) → (List Word → List Word → Outcome) → (honest : List Word → List Word → Type 0) → Type 0
  IsTruthWalk walk ev honest = (facts : List Fact) (n : ℕ) (news : List ℤ) (st : State E) (go : Outcomes E) (vars answers : List Word) → honest vars answers → AreForms c news vars st.variables → Stands c launch facts n (walk st go) news (keeping st) → Goes c launch facts n (walk st go) go news (owns st) ArrivesAsTruth (ev vars answers)

  pub record IsSound (w : Walks E) (ev : List Word → List Word → Outcome) (honest : List Word → List Word → Type 0) : Type 0 where
    pub value : IsValueWalk w.value ev honest
    pub test : IsTestWalk w.test ev honest

  value_sound : (walk : State E → Onward E → Tree E) (ev : List Word → List Word → Outcome) (honest : List Word → List Word → Type 0) → IsValueWalk walk ev honest → IsSound (by_value (walks c) walk) ev honest
  value_sound walk ev honest h = record {
    value = h;
    test = λ facts n news st go vars answers hq m s.
        let between : Onward E = λ x st'. split_number (walks c) x.form st' go in
        goes_further c launch go ArrivesAsTest (h facts n news st between vars answers hq m s) (λ w i p. split_number_sound c launch p.arrived.form w.value p.state go p.right.form p.stands);
  }

  truth_sound : (walk : State E → Outcomes E → Tree E) (ev : List Word → List Word → Outcome) (honest : List Word → List Word → Type 0) → IsTruthWalk walk ev honest → IsSound (by_test walk) ev honest
  truth_sound walk ev honest h = record {
    value = λ facts n news st go vars answers hq m s.
        goes_as c launch go truth_value (ArrivesAsValue c) (λ w more b e. subst (λ (x : Word). IsValue c more x (truth_value b)) (sym e) (record { kind = refl; form = form_constant c more (cond b (pos 1) (pos 0)) })) (h facts n news st (λ b st'. go (truth_value b) st') vars answers hq m s);
    test = λ facts n news st go vars answers hq m s. goes_as c launch go (λ b. b) ArrivesAsTest truth-test (h facts n news st go vars answers hq m s);
  }

  -- the slots where the item came to
  forms_at : {A : Type 0} {facts : List Fact} {n : ℕ} {tree : Tree E} {go : A → State E → Tree E} {news : List ℤ} {variables : Owns} {P : List ℤ → A → Type 0} (p : Comes c launch facts n tree go news variables P) (vars : List Word) → AreForms c news vars variables.variables → AreForms c p.more vars p.state.variables
  forms_at p vars m = forms_same c (ap (λ o. o.variables) p.same) (forms_kept c p.way.kept m)

  -- what is so behind a term whose value is known
  behind : (o : Outcome) (P : Word → List Word → Type 0) (v : Word) (rest : List Word) → o ≡ Gives v rest → Behind o P → P v rest
  behind o P v rest is h = subst (λ q. Behind q P) is h

  -- two operands, one after the other
  pair_sound : (wa wb : Walks E) (ea eb : List Word → List Word → Outcome) (ha hb : List Word → List Word → Type 0) → IsSound wa ea ha → IsSound wb eb hb → {B : Type 0} (facts : List Fact) (n : ℕ) (news : List ℤ) (st : State E) (go : Value → Value → State E → Tree E) (onto : B → State E → Tree E) (Q : Word → List ℤ → B → Type 0) (op : Word → Word → List Word → Outcome) (vars answers : List Word) → ha vars answers × Behind (ea vars answers) (λ a rest. hb vars rest) → AreForms c news vars st.variables →
      ((path : List Fact) (k : ℕ) (more : List ℤ) (st2 : State E) (x y : Value) (a b : Word) (rest : List Word) → in_kind a.kind a.value ≡ true → in_kind b.kind b.value ≡ true → IsValue c more a x → IsValue c more b y → Stands c launch path k (go x y st2) more (keeping st2) → Goes c launch path k (go x y st2) onto more (owns st2) Q (op a b rest)) →
      Stands c launch facts n (wa.value st (λ x st1. wb.value st1 (λ y st2. go x y st2))) news (keeping st) →
      Goes c launch facts n (wa.value st (λ x st1. wb.value st1 (λ y st2. go x y st2))) onto news (owns st) Q (and_then (ea vars answers) (λ a r. and_then (eb vars r) (λ b r'. op a b r')))
  pair_sound wa wb ea eb ha hb sa sb facts n news st go onto Q op vars answers hp m later s =
      goes_then c launch (λ a r. and_then (eb vars r) (λ b r'. op a b r')) (sa.value facts n news st (λ x st1. wb.value st1 (λ y st2. go x y st2)) vars answers hp.0 m s) (λ a r is ia p.
      goes_then c launch (λ b r'. op a b r') (sb.value p.path p.count p.more p.state (λ y st2. go p.arrived y st2) vars r (behind (ea vars answers) (λ a rest. hb vars rest) a r is hp.1) (forms_at p vars m) p.stands) (λ b r' is' ib q.
      later q.path q.count q.more q.state p.arrived q.arrived a b r' ia ib (value_kept c q.way.kept p.right) q.right q.stands))

  -- a result is an outcome
  yields_goes : {facts : List Fact} {n : ℕ} {tree : Tree E} {go : Onward E} {news : List ℤ} {variables : Owns} {r : Result Word Fault} (site : Site) (rest : List Word) → Yields c launch facts n tree go news variables r → Goes c launch facts n tree go news variables (ArrivesAsValue c) (settled r site rest)
  yields_goes site rest y = gives y.result rest (ap (λ q. settled q site rest) y.is) y.right y.comes

  -- one of two, by a test
  chosen_goes : {A : Type 0} (z t : Bool) (st : State E) {facts : List Fact} {n : ℕ} {news : List ℤ} {go : A → State E → Tree E} {P : Word → List ℤ → A → Type 0} {u v : Outcome} (first second : Tree E) → t ≡ z → Stands c launch facts n (chosen t first second) news (keeping st) → (z ≡ true → Stands c launch facts n first news (keeping st) → Goes c launch facts n first go news (owns st) P u) → (z ≡ false → Stands c launch facts n second news (keeping st) → Goes c launch facts n second go news (owns st) P v) → Goes c launch facts n (chosen t first second) go news (owns st) P (decide z u v)
  chosen_goes true true st first second e s yes' no' = yes' refl s
  chosen_goes true false st first second e s yes' no' = cc
  chosen_goes false true st first second e s yes' no' = cc
  chosen_goes false false st first second e s yes' no' = no' refl s

  other_goes : {A : Type 0} (z t : Bool) (st : State E) {facts : List Fact} {n : ℕ} {news : List ℤ} {go : A → State E → Tree E} {P : Word → List ℤ → A → Type 0} {u v : Outcome} (first second : Tree E) → t ≡ not z → Stands c launch facts n (chosen t first second) news (keeping st) → (z ≡ false → Stands c launch facts n first news (keeping st) → Goes c launch facts n first go news (owns st) P u) → (z ≡ true → Stands c launch facts n second news (keeping st) → Goes c launch facts n second go news (owns st) P v) → Goes c launch facts n (chosen t first second) go news (owns st) P (decide z v u)
  other_goes true true st first second e s yes' no' = cc
  other_goes true false st first second e s yes' no' = no' refl s
  other_goes false true st first second e s yes' no' = yes' refl s
  other_goes false false st first second e s yes' no' = cc

  -- a truth value that is known
  truth_goes : {facts : List Fact} {n : ℕ} {news : List ℤ} (z b : Bool) (st : State E) (go : Outcomes E) (rest : List Word) → b ≡ z → Stands c launch facts n (go b st) news (keeping st) → Goes c launch facts n (go b st) go news (owns st) ArrivesAsTruth (Gives (truth z) rest)
  truth_goes z b st go rest e s = gives (truth z) rest refl (truth-in z) (at_once c launch go (ArrivesAsTruth (truth z)) b st (ap truth (sym e)) s)

  -- a test's value as a truth value
  tested_goes : (w : Walks E) (ev : List Word → List Word → Outcome) (honest : List Word → List Word → Type 0) → IsSound w ev honest → {facts : List Fact} {n : ℕ} {news : List ℤ} (st : State E) (go : Outcomes E) (vars answers : List Word) → honest vars answers → AreForms c news vars st.variables → Stands c launch facts n (w.test st go) news (keeping st) → Goes c launch facts n (w.test st go) go news (owns st) ArrivesAsTruth (and_then (ev vars answers) (λ b r. Gives (truth (not (is_zero b.value))) r))
  tested_goes w ev honest h {facts = facts} {n = n} {news = news} st go vars answers hq m s =
      goes_then c launch (λ b r. Gives (truth (not (is_zero b.value))) r) (h.test facts n news st go vars answers hq m s) (λ b r is ib p. truth_goes (not (is_zero b.value)) p.arrived p.state go r p.right p.stands)

  -- the answers to the loads of a term are numbers that buffers may hold
  abbrev pub Honest : Term → (vars answers : List Word) → Type 0
  Honest e = HonestTerm (setup c) c.conditions.contents c.item now e

  pub term_sound : (e : Term) → covers_term c.spaces e ≡ true → IsSound (walk (walks c) e) (evaluate (setup c) c.item now e) (Honest e)
  unfolding evaluate
  term_sound (Literal k z) h = value_sound _ (evaluate (setup c) c.item now (Literal k z)) (Honest (Literal k z)) (λ facts n news st go vars answers hq m s.
      gives (word k z) answers refl h (at_once c launch go (ArrivesAsValue c (word k z)) (value k (constant z)) st (record { kind = refl; form = form_constant c news z }) s))
  term_sound (Variable x) h = value_sound _ (evaluate (setup c) c.item now (Variable x)) (Honest (Variable x)) (λ facts n news st go vars answers hq m s.
      let w = slice_index_or vars x zero_word in
      gives w answers refl (m.right x) (at_once c launch go (ArrivesAsValue c w) (variable st x) st (m.each x) s))
  term_sound (Id k f d) h = value_sound _ (evaluate (setup c) c.item now (Id k f d)) (Honest (Id k f d)) (λ facts n news st go vars answers hq m s.
      let i = identity (setup c) c.item f d in
      gives (word k (pos i)) answers refl (id-in k i h (id-below c f d)) (at_once c launch go (ArrivesAsValue c (word k (pos i))) (value k (id_form (walks c) f d)) st (record { kind = refl; form = form_id c news f d }) s))
  term_sound (Load a site e) h =
      let p = and_parts (c.spaces a.space) (covers_term c.spaces e) h in
      let t = term_sound e p.1 in
      value_sound _ (evaluate (setup c) c.item now (Load a site e)) (Honest (Load a site e)) (λ facts n news st go vars answers hq m s.
      goes_then c launch (λ k r. loaded (setup c) a site k.value r) (t.value facts n news st (λ x st1. load (walks c) a site x.form st1 go) vars answers hq.0 m s) (λ k r is i p'.
      load_sound c launch r a site p'.arrived.form k.value p'.state go p.0 p'.right.form (behind (evaluate (setup c) c.item now e vars answers) (λ k' rest. FirstHeld (setup c) c.conditions.contents a rest) k r is hq.1) p'.stands))
  term_sound (Unary op k site e) h =
      let p = and_parts (is_covered_unary op k) (covers_term c.spaces e) h in
      let t = term_sound e p.1 in
      value_sound _ (evaluate (setup c) c.item now (Unary op k site e)) (Honest (Unary op k site e)) (λ facts n news st go vars answers hq m s.
      goes_then c launch (λ a r. settled (calculate_unary op Exact k a.value) site r) (t.value facts n news st (λ x st1. unary (walks c) op k x (at_site site st1) go) vars answers hq m s) (λ a r is i q.
      yields_goes site r (unary_sound c launch op k p.0 a q.arrived (at_site site q.state) go i q.right q.stands)))
  term_sound (Binary op k site a b) h =
      let p = and_parts (covers_term c.spaces a) (covers_term c.spaces b) h in
      let ta = term_sound a p.0 in
      let tb = term_sound b p.1 in
      value_sound _ (evaluate (setup c) c.item now (Binary op k site a b)) (Honest (Binary op k site a b)) (λ facts n news st go vars answers hq m s.
      pair_sound (walk (walks c) a) (walk (walks c) b) (evaluate (setup c) c.item now a) (evaluate (setup c) c.item now b) (Honest a) (Honest b) ta tb facts n news st (λ x y st2. both_brought (walks c) k x y (at_site site st2) (λ x' y' st3. binary (walks c) op k x'.form y'.form st3 go)) go (ArrivesAsValue c) (λ u v r. settled (operate op Exact k u v) site r) vars answers hq m
      (λ path j more st2 x y u v rest iu iv mx my s'.
      let q = both_sound c launch k u v x y (at_site site st2) (λ x' y' st3. binary (walks c) op k x'.form y'.form st3 go) iu iv mx my s' in
      let y' = binary_sound c launch op laws k q.arrived.0.form q.arrived.1.form (as_kind k u.value) (as_kind k v.value) q.state go (as_kind-in_kind k u.value) (as_kind-in_kind k v.value) q.right.0.form q.right.1.form q.stands in
      let t = both_taken c launch k u v x y (at_site site st2) (λ x' y' st3. binary (walks c) op k x'.form y'.form st3 go) iu iv mx my s' in
      yields_goes site rest (record { result = y'.result; is = ap₂ (calculate op Exact k) t.0 t.1 ∙ y'.is; right = y'.right; comes = onward c launch q y'.comes })) s)
  term_sound (Convert k site e) h =
      let t = term_sound e h in
      value_sound _ (evaluate (setup c) c.item now (Convert k site e)) (Honest (Convert k site e)) (λ facts n news st go vars answers hq m s.
      goes_then c launch (λ a r. settled (convert Exact k a.value) site r) (t.value facts n news st (λ x st1. brought (walks c) k x (at_site site st1) go) vars answers hq m s) (λ a r is i q.
      yields_goes site r (settled_yields c launch k a.value go (brought_sound c launch k a q.arrived (at_site site q.state) go i q.right q.stands))))
  term_sound (Compare r k a b) h =
      let p = and_parts (covers_term c.spaces a) (covers_term c.spaces b) h in
      let ta = term_sound a p.0 in
      let tb = term_sound b p.1 in
      truth_sound _ (evaluate (setup c) c.item now (Compare r k a b)) (Honest (Compare r k a b)) (λ facts n news st go vars answers hq m s.
      pair_sound (walk (walks c) a) (walk (walks c) b) (evaluate (setup c) c.item now a) (evaluate (setup c) c.item now b) (Honest a) (Honest b) ta tb facts n news st (λ x y st2. both_brought (walks c) k x y st2 (λ x' y' st3. split (walks c) false r x'.form y'.form st3 go)) go ArrivesAsTruth (λ u v rest. Gives (truth (compare r k u v)) rest) vars answers hq m
      (λ path j more st2 x y u v rest iu iv mx my s'.
      let q = both_sound c launch k u v x y st2 (λ x' y' st3. split (walks c) false r x'.form y'.form st3 go) iu iv mx my s' in
      let t = split_sound c launch false r q.arrived.0.form q.arrived.1.form (as_kind k u.value) (as_kind k v.value) q.state go q.right.0.form q.right.1.form q.stands in
      let o = both_taken c launch k u v x y st2 (λ x' y' st3. split (walks c) false r x'.form y'.form st3 go) iu iv mx my s' in
      gives (truth (compare r k u v)) rest refl (truth-in (compare r k u v)) (onward c launch q (restated c launch (λ more b kept e. ap truth (ap₂ (holds r) o.0 o.1 ∙ sym e)) t))) s)
  term_sound (Not e) h =
      let t = term_sound e h in
      truth_sound _ (evaluate (setup c) c.item now (Not e)) (Honest (Not e)) (λ facts n news st go vars answers hq m s.
      goes_then c launch (λ a r. Gives (truth (is_zero a.value)) r) (t.test facts n news st (λ b st1. go (not b) st1) vars answers hq m s) (λ a r is i q.
      truth_goes (is_zero a.value) (not q.arrived) q.state go r (sym (not-not (is_zero a.value) q.arrived q.right)) q.stands))
  term_sound (And a b) h =
      let p = and_parts (covers_term c.spaces a) (covers_term c.spaces b) h in
      let ta = term_sound a p.0 in
      let tb = term_sound b p.1 in
      truth_sound _ (evaluate (setup c) c.item now (And a b)) (Honest (And a b)) (λ facts n news st go vars answers hq m s.
      goes_then c launch (λ u r. decide (is_zero u.value) (Gives (truth false) r) (and_then (evaluate (setup c) c.item now b vars r) (λ v r'. Gives (truth (not (is_zero v.value))) r'))) (ta.test facts n news st (λ t st1. chosen t ((walk (walks c) b).test st1 go) (go false st1)) vars answers hq.0 m s) (λ u r is i q.
      other_goes (is_zero u.value) q.arrived q.state ((walk (walks c) b).test q.state go) (go false q.state) q.right q.stands
      (λ z s'. tested_goes (walk (walks c) b) (evaluate (setup c) c.item now b) (Honest b) tb q.state go vars r (behind (evaluate (setup c) c.item now a vars answers) (λ w rest. is_zero w.value ≡ false → Honest b vars rest) u r is hq.1 z) (forms_at q vars m) s')
      (λ z s'. truth_goes false false q.state go r refl s')))
  term_sound (Or a b) h =
      let p = and_parts (covers_term c.spaces a) (covers_term c.spaces b) h in
      let ta = term_sound a p.0 in
      let tb = term_sound b p.1 in
      truth_sound _ (evaluate (setup c) c.item now (Or a b)) (Honest (Or a b)) (λ facts n news st go vars answers hq m s.
      goes_then c launch (λ u r. decide (not (is_zero u.value)) (Gives (truth true) r) (and_then (evaluate (setup c) c.item now b vars r) (λ v r'. Gives (truth (not (is_zero v.value))) r'))) (ta.test facts n news st (λ t st1. chosen t (go true st1) ((walk (walks c) b).test st1 go)) vars answers hq.0 m s) (λ u r is i q.
      chosen_goes (not (is_zero u.value)) q.arrived q.state (go true q.state) ((walk (walks c) b).test q.state go) q.right q.stands
      (λ z s'. truth_goes true true q.state go r refl s')
      (λ z s'. tested_goes (walk (walks c) b) (evaluate (setup c) c.item now b) (Honest b) tb q.state go vars r (behind (evaluate (setup c) c.item now a vars answers) (λ w rest. is_zero w.value ≡ true → Honest b vars rest) u r is hq.1 (not-false (is_zero u.value) z)) (forms_at q vars m) s')))
  term_sound (Select t a b) h =
      let p = and_parts (covers_term c.spaces t) (covers_term c.spaces a && covers_term c.spaces b) h in
      let p' = and_parts (covers_term c.spaces a) (covers_term c.spaces b) p.1 in
      let tt' = term_sound t p.0 in
      let ta = term_sound a p'.0 in
      let tb = term_sound b p'.1 in
      value_sound _ (evaluate (setup c) c.item now (Select t a b)) (Honest (Select t a b)) (λ facts n news st go vars answers hq m s.
      goes_then c launch (λ u r. decide (is_zero u.value) (evaluate (setup c) c.item now b vars r) (evaluate (setup c) c.item now a vars r)) (tt'.test facts n news st (λ b' st1. chosen b' ((walk (walks c) a).value st1 go) ((walk (walks c) b).value st1 go)) vars answers hq.0 m s) (λ u r is i q.
      other_goes (is_zero u.value) q.arrived q.state ((walk (walks c) a).value q.state go) ((walk (walks c) b).value q.state go) q.right q.stands
      (λ z s'. ta.value q.path q.count q.more q.state go vars r ((behind (evaluate (setup c) c.item now t vars answers) (λ w rest. (is_zero w.value ≡ false → Honest a vars rest) × (is_zero w.value ≡ true → Honest b vars rest)) u r is hq.1).0 z) (forms_at q vars m) s')
      (λ z s'. tb.value q.path q.count q.more q.state go vars r ((behind (evaluate (setup c) c.item now t vars answers) (λ w rest. (is_zero w.value ≡ false → Honest a vars rest) × (is_zero w.value ≡ true → Honest b vars rest)) u r is hq.1).1 z) (forms_at q vars m) s')))
  term_sound (Minimum a b) h =
      let p = and_parts (covers_term c.spaces a) (covers_term c.spaces b) h in
      let ta = term_sound a p.0 in
      let tb = term_sound b p.1 in
      value_sound _ (evaluate (setup c) c.item now (Minimum a b)) (Honest (Minimum a b)) (λ facts n news st go vars answers hq m s.
      pair_sound (walk (walks c) a) (walk (walks c) b) (evaluate (setup c) c.item now a) (evaluate (setup c) c.item now b) (Honest a) (Honest b) ta tb facts n news st (λ x y st2. pick (walks c) false y x y x st2 go) go (ArrivesAsValue c) (λ u v r. Gives (smaller u v) r) vars answers hq m
      (λ path j more st2 x y u v rest iu iv mx my s'. picked_goes c launch false v u y x st2 go rest iv iu my mx s') s)
  term_sound (Maximum a b) h =
      let p = and_parts (covers_term c.spaces a) (covers_term c.spaces b) h in
      let ta = term_sound a p.0 in
      let tb = term_sound b p.1 in
      value_sound _ (evaluate (setup c) c.item now (Maximum a b)) (Honest (Maximum a b)) (λ facts n news st go vars answers hq m s.
      pair_sound (walk (walks c) a) (walk (walks c) b) (evaluate (setup c) c.item now a) (evaluate (setup c) c.item now b) (Honest a) (Honest b) ta tb facts n news st (λ x y st2. pick (walks c) true x y y x st2 go) go (ArrivesAsValue c) (λ u v r. Gives (larger u v) r) vars answers hq m
      (λ path j more st2 x y u v rest iu iv mx my s'. picked_goes c launch true u v x y st2 go rest iu iv mx my s') s)
  term_sound (Shift d k a b) h =
      let p = and_parts (covers_term c.spaces a) (covers_term c.spaces b) h in
      let ta = term_sound a p.0 in
      let tb = term_sound b p.1 in
      value_sound _ (evaluate (setup c) c.item now (Shift d k a b)) (Honest (Shift d k a b)) (λ facts n news st go vars answers hq m s.
      pair_sound (walk (walks c) a) (walk (walks c) b) (evaluate (setup c) c.item now a) (evaluate (setup c) c.item now b) (Honest a) (Honest b) ta tb facts n news st (λ x y st2. brought (walks c) k x st2 (λ x' st3. shifted (walks c) d k x'.form y.form st3 go)) go (ArrivesAsValue c) (λ u v r. Gives (evaluation.shifted d k u v) r) vars answers hq m
      (λ path j more st2 x y u v rest iu iv mx my s'.
      let q = brought_sound c launch k u x st2 (λ x' st3. shifted (walks c) d k x'.form y.form st3 go) iu mx s' in
      let o = q.comes in
      let w = shift d k (as_kind k u.value) (count_of v.value) in
      gives w rest (ap (λ z. Gives (shift d k z (count_of v.value)) rest) (operand-is k u.value q.settles)) (shift-in d k (as_kind k u.value) (count_of v.value) (as_kind-in_kind k u.value))
      (onward c launch o (shifted_sound c launch d k o.arrived.form y.form (as_kind k u.value) v.value o.state go (as_kind-in_kind k u.value) o.right.form (value_kept c o.way.kept my).form o.stands))) s)
  term_sound (Within site size e) h =
      let t = term_sound e h in
      value_sound _ (evaluate (setup c) c.item now (Within site size e)) (Honest (Within site size e)) (λ facts n news st go vars answers hq m s.
      goes_then c launch (λ k r. settled (inside (within size k.value) k) site r) (t.value facts n news st (λ x st1. in_length (walks c) (constant (pos size)) x.form (at_site site st1) (λ st2. go x st2)) vars answers hq m s) (λ k r is i q.
      let l = lies c launch size (constant (pos size)) q.arrived.form k.value (at_site site q.state) (λ st2. go q.arrived st2) (form_constant c q.more (pos size)) q.right.form q.stands in
      gives k r (ap (λ at. settled (inside at k) site r) (within-at size l.index k.value l.same l.below)) i
      (onward c launch l.comes (at_once c launch go (ArrivesAsValue c k) q.arrived l.comes.state (value_kept c l.comes.way.kept q.right) l.comes.stands))))
  term_sound (Opaque n at k a b e) h =
      let p = and_parts (covers_term c.spaces a) (covers_term c.spaces b && covers_term c.spaces e) h in
      let p' = and_parts (covers_term c.spaces b) (covers_term c.spaces e) p.1 in
      let ta = term_sound a p.0 in
      let tb = term_sound b p'.0 in
      let te = term_sound e p'.1 in
      value_sound _ (evaluate (setup c) c.item now (Opaque n at k a b e)) (Honest (Opaque n at k a b e)) (λ facts m news st go vars answers hq f s.
      goes_then c launch (λ u r. and_then (evaluate (setup c) c.item now b vars r) (λ v r'. and_then (evaluate (setup c) c.item now e vars r') (λ w r''. Gives (opaque (setup c) c.item now n at k u v w) r''))) (ta.value facts m news st (λ x st1. (walk (walks c) b).value st1 (λ y st2. (walk (walks c) e).value st2 (λ z st3. unknown (walks c) k st3 go))) vars answers hq.0 f s) (λ u r is iu q.
      pair_sound (walk (walks c) b) (walk (walks c) e) (evaluate (setup c) c.item now b) (evaluate (setup c) c.item now e) (Honest b) (Honest e) tb te q.path q.count q.more q.state (λ y z st3. unknown (walks c) k st3 go) go (ArrivesAsValue c) (λ v w r'. Gives (opaque (setup c) c.item now n at k u v w) r') vars r
      (behind (evaluate (setup c) c.item now a vars answers) (λ x rest. Honest b vars rest × Behind (evaluate (setup c) c.item now b vars rest) (λ y rest'. Honest e vars rest')) u r is hq.1) (forms_at q vars f)
      (λ path j more st3 y z v w rest iv iw my mz s'.
      let g = opaque (setup c) c.item now n at k u v w in
      gives g rest refl (as_kind-in_kind k _) (unknown_sound c launch k st3 go g.value (as_kind-in_kind k _) s')) q.stands))
