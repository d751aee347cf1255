-- Where a path comes to a place, what is said of the place holds; at each end of a path there is a node.
use Rattle.std.proofs.Common.{◌≡◌, ℕ, ◌+◌, ◌<◌, ap, ◌&&◌, Bool, true, false, cond, nat_lt, List, [], ◌∷◌, length, Option, Some, None, arith, refl, sym, ◌∙◌, subst, inl, inr, ltb-true, length-append}
use Rattle.std.specs.Int.RustNames.{unsigned_abs}
use Rattle.std.specs.Prelude.{ℤ, pos, negsuc, ◌*ℤ◌, ◌≤ℤ◌, ◌⊎◌, int_le}
use Rattle.std.proofs.lemmas.Int.{ints}
use Rattle.std.proofs.lemmas.Bool.{and_parts, and_from}
use Rattle.facts.proofs.Integers.{le_true}
use Rattle.semantics.specs.Word.{Word}
use Rattle.semantics.specs.Setup.{Setup, item_count}
use Rattle.linear.specs.Linear.{Weighted, terms_value, value_of}
use Rattle.linear.specs.Exact.{multiple}
use Rattle.semantics.proofs.Integers.{mul_comm}
use Rattle.facts.specs.Symbols.{First, ArgumentOf, AtAnchor, Fact, constant, once, minus}
use Rattle.facts.proofs.Members.{by_number}
use Rattle.facts.proofs.Values.{value-minus, value-multiple}
use Rattle.facts.proofs.Worlds.{Walked, View, setup_of, Means, Knows, own, agrees_itself, variable_at}
use Rattle.arrivals.specs.Paths.{Held}
use Rattle.arrivals.specs.Trees.{Stop, AtBarrier, AtHead, AtEnd, Turns}
use Rattle.walk_trees.specs.Trees.{Access, Ended, Tree, Leaf}
use Rattle.walk_trees.specs.Walks.{State, claimed_once, arrived}
use Rattle.walk_trees.proofs.QuotientSound.{DividesLawfully}
use Rattle.walk_trees.proofs.Each.{Has}
use Rattle.walk_trees.proofs.Holding.{held_settles, fits_itself}
use Rattle.walk_trees.proofs.Made.{IsFit}
use Rattle.walk_trees.proofs.Standing.{told_replaced, told_divided, past_claim}
use Rattle.walk_trees.proofs.Ranges.{IsForm, form_once}
use Rattle.domain.specs.Multiples as multiples
use Rattle.domain.specs.Multiples.{from-test, to-test, plus, times}
use Rattle.walk_trees.specs.Operators.{small_product}
use Rattle.obligations.specs.Notes.{Congruence, Multiple, Notes}
use Rattle.obligations.specs.Listing.{is_some}
use Rattle.obligations.specs.Meetings.{value_form}
use Rattle.obligations.specs.Telling.{TellsOfItems, tells, all_tell, congruences_tell, multiples_tell}
use Rattle.obligations.specs.Roots.{is_kept, kinds, are_slots, anchor_forms, facts_at, congruences_at, multiples_at}
use Rattle.obligations.specs.Replacing.{replaced}
use Rattle.obligations.specs.Walking.{Placed, on_path, if_replaced, has_form, claim_product, claim_multiples, divides, divides_terms, divides_form, claim_facts, claim_congruences, claim_quotient, arrive_at, course}
use Rattle.obligations.proofs.Words.{are_words, words-each, slots-are_words}
use Rattle.obligations.proofs.PlaceLines.{root_at, value_by, facts_hold, congruences_hold, multiples_hold, opens_so, Holds}
use Rattle.obligations.proofs.Replaced.{replaced-is}
use Rattle.obligations.proofs.Quotients.{small-product, quotient-divides}
use Rattle.linear.proofs.Multiplying.{value_product}
use Rattle.obligations.proofs.Started.{view, forms}
use Rattle.obligations.proofs.Faithfully as faithfully

-- a form of which a number divides each coefficient and the constant
divides_terms-is : (m : ℕ) (v : ℕ → ℤ) (ts : List (Weighted ℕ)) → divides_terms m ts ≡ true → multiples.Multiple m (terms_value v ts)
divides_terms-is m v [] h = (pos 0, omega (arith, ints))
divides_terms-is m v (t ∷ ts) h =
    let p = and_parts (divides m t.coefficient) (divides_terms m ts) h in
    plus m (t.coefficient *ℤ v t.symbol) (terms_value v ts) (subst (multiples.Multiple m) (mul_comm (v t.symbol) t.coefficient) (times m t.coefficient (v t.symbol) (from-test m t.coefficient p.0))) (divides_terms-is m v ts p.1)

divides_form-is : (m : ℕ) (v : ℕ → ℤ) (f : Fact) → divides_form m f ≡ true → multiples.Multiple m (value_of v f)
divides_form-is m v f h = let p = and_parts (divides_terms m f.terms) (divides m f.constant) h in plus m (terms_value v f.terms) f.constant (divides_terms-is m v f.terms p.0) (from-test m f.constant p.1)

-- a form that is no less and no more than a multiple
between : (m : ℕ) (v : ℕ → ℤ) (f q : Fact) → pos 0 ≤ℤ value_of v (minus f (multiple (pos m) q)) → pos 0 ≤ℤ value_of v (minus (multiple (pos m) q) f) → multiples.Multiple m (value_of v f)
between m v f q h j =
    let a = value-minus v f (multiple (pos m) q) in
    let b = value-minus v (multiple (pos m) q) f in
    let e : value_of v f ≡ value_of v (multiple (pos m) q) = omega (arith, ints, a, b, h, j) in
    (value_of v q, e ∙ value-multiple v (pos m) q ∙ mul_comm (pos m) (value_of v q))

-- a node at which a path ends
pub record EndsAt {E : Type 0} (c : View E) (last : List (Ended E)) (stop : Stop) (turns : Turns) (vars : List Word) : Type 0 where
  pub node : Ended E
  pub news : List ℤ
  pub fit : IsFit c news node.arrived.held
  pub known : Knows c news node.facts
  pub forms : (x : ℕ) → Means c news (value_form node.arrived.variables x) (variable_at vars x)
  pub stopped : node.arrived.stop ≡ stop
  pub turned : node.arrived.turns ≡ turns
  pub here : Has node last

module _ {E : Type 0} (w : Walked E) (n : Notes) (tell : TellsOfItems n) (laws : DividesLawfully w.domain) (i : ℕ) (h : i < item_count (setup_of w)) (from root : Held) (a b : Option ℕ) (holds : Holds (setup_of w) n a b i from root) (own : b ≡ None → root ≡ from)
    (launch : List Fact) (all : List (Access E)) (last : List (Ended E))
  where
    abbrev c : View E
    c = view w n i h from root

    abbrev s : Setup
    s = setup_of w

    abbrev p : Placed E
    p = faithfully.w c launch laws all last n a b (λ e x. x) tell.rankings

    abbrev pub At : Tree E → State E → Held → Type 0
    At = faithfully.At c launch laws all last n a b (λ e x. x) tell.rankings

    told-where : (t b' : Bool) (ms : List Multiple) → multiples_tell b' ms ≡ true → multiples_tell b' (cond t ms []) ≡ true
    told-where true b' ms e = e
    told-where false b' ms e = refl

    kept-below : (x : ℕ) → is_kept w.kernel x ≡ true → x < length (kinds w.kernel)
    kept-below x e =
        let l = ltb-true x (length w.kernel.arguments) (and_parts (nat_lt x (length w.kernel.arguments)) _ e).0 in
        omega (arith, l, length-append w.kernel.arguments w.kernel.variables)

    head-form : (news : List ℤ) (x : ℕ) (t : Bool) → is_kept w.kernel x ≡ t → IsForm c news (cond t (once (ArgumentOf x)) (once (AtAnchor First x))) (variable_at from.variables x)
    head-form news x true e = let f = words-each w.kernel w.launch from.variables holds.before x (kept-below x e) in form_once c news (ArgumentOf x) (variable_at from.variables x) (λ v g. g.given x ∙ sym (f.kept e))
    head-form news x false e = form_once c news (AtAnchor First x) (variable_at from.variables x) (λ v g. g.at_anchor x)

    -- what the variables were at the anchor
    anchors-are : (b' : Option ℕ) → b ≡ b' → (news : List ℤ) (x : ℕ) → IsForm c news (anchor_forms w.kernel a b' x) (variable_at from.variables x)
    anchors-are None e news x =
        subst (λ (l : Held). IsForm c news (anchor_forms w.kernel a None x) (variable_at l.variables x)) (own e)
        ((forms w n tell i h from root a None (subst (λ y. Holds (setup_of w) n a y i from root) e holds) news).each x).form
    anchors-are (Some m) e news x = head-form news x (is_kept w.kernel x) refl

    -- what is claimed of the place is so
    module _ (to here : Held) (told : Bool) (same : told ≡ true → to ≡ from) where
      abbrev v : Fact → ℤ
      v = value_by s i (root_at to here)

      at_anchor : (st : State E) (news : List ℤ) → told ≡ true → (x : ℕ) → IsForm c news (anchor_forms w.kernel a b x) (variable_at to.variables x)
      at_anchor st news e x = subst (λ (l : Held). IsForm c news (anchor_forms w.kernel a b x) (variable_at l.variables x)) (sym (same e)) (anchors-are b refl news x)

      line-is : {t : Tree E} (st : State E) (k : At t st here) (f : Fact) → tells told f ≡ true → has_form p st f ≡ true → IsForm c k.news (replaced (on_path p st) f) (v f)
      line-is st k f t e = replaced-is c k.news (root_at to here) st.variables (anchor_forms w.kernel a b) st.ranks (λ x. (k.forms.each x).form) k.ranked told (at_anchor st k.news) f t e

      -- forms of the place that are put in the path's terms
      told_form : (b : Bool) (claims : State E → (State E → Tree E) → Tree E) (st : State E) (go : State E → Tree E) → At (if_replaced b claims st go) st here → (b ≡ true) × At (claims st go) st here
      told_form t claims st go k = faithfully.told_form c launch laws all last n a b (λ e x. x) tell.rankings t claims st here go k

      facts-claimed : (fs : List Fact) → all_tell told fs ≡ true → (st : State E) (go : State E → Tree E) → At (claim_facts p fs st go) st here → (facts_hold v fs ≡ true) × ((st' : State E) × At (go st') st' here)
      facts-claimed [] t st go k = (refl, (st, k))
      facts-claimed (f ∷ fs) t st go k =
          let q = and_parts (tells told f) (all_tell told fs) t in
          let o = told_form (has_form p st f) _ st _ k in
          let k1 = o.1 in
          let g = replaced (on_path p st) f in
          let m = line-is st k1 f q.0 o.0 in
          let z = told_replaced c launch g (v f) k1.stands m.means (held_settles c k1.news st.held g (v f) k1.stands.fit m.means) in
          let r = facts-claimed fs q.1 (claimed_once st) go (faithfully.passed c launch laws all last n a b (λ e x. x) tell.rankings st here k1) in
          (and_from (int_le (pos 0) (v f)) (facts_hold v fs) (le_true (pos 0) (v f) z) r.0, r.1)

      quotient-claimed : (made : List Fact) (m : ℕ) (f q : Fact) (st : State E) (go : State E → Tree E) → (k : At (claim_quotient p made m f q st go) st here) → multiples.Multiple m (value_of (by_number (Rattle.facts.proofs.Worlds.own c k.news)) f) × ((st' : State E) × At (go st') st' here)
      quotient-claimed made m f q st go k =
          let k1 = faithfully.passed c launch laws all last n a b (λ e x. x) tell.rankings st here k in
          let k2 = faithfully.passed c launch laws all last n a b (λ e x. x) tell.rankings (claimed_once st) here k1 in
          let y = by_number (Rattle.facts.proofs.Worlds.own c k.news) in
          (by y (told_divided c launch (minus f (multiple (pos m) q)) k.stands) (told_divided c launch (minus (multiple (pos m) q) f) (past_claim c launch k.stands)), (claimed_once (claimed_once st), k2))
        where
          by : (y : ℕ → ℤ) → (divides_form m f ≡ true) ⊎ (pos 0 ≤ℤ value_of y (minus f (multiple (pos m) q))) → (divides_form m f ≡ true) ⊎ (pos 0 ≤ℤ value_of y (minus (multiple (pos m) q) f)) → multiples.Multiple m (value_of y f)
          by y (inl e) o = divides_form-is m y f e
          by y (inr e) (inl o) = divides_form-is m y f o
          by y (inr e) (inr o) = between m y f q e o

      congruences-claimed : (cs : List Congruence) → congruences_tell told cs ≡ true → (st : State E) (go : State E → Tree E) → At (claim_congruences p cs st go) st here → (congruences_hold v cs ≡ true) × ((st' : State E) × At (go st') st' here)
      congruences-claimed [] t st go k = (refl, (st, k))
      congruences-claimed (x ∷ cs) t st go k =
          let q = and_parts (tells told x.form) (congruences_tell told cs) t in
          let o = told_form (has_form p st x.form) _ st _ k in
          let k1 = o.1 in
          let g = replaced (on_path p st) x.form in
          let m = line-is st k1 x.form q.0 o.0 in
          let z = quotient-claimed _ x.modulus g _ st (λ st'. claim_congruences p cs st' go) k1 in
          let e = m.means (by_number (Rattle.facts.proofs.Worlds.own c k1.news)) (agrees_itself c k1.news) in
          let r = congruences-claimed cs q.1 z.1.0 go z.1.1 in
          (and_from (divides x.modulus (v x.form)) (congruences_hold v cs) (to-test x.modulus (v x.form) (subst (multiples.Multiple x.modulus) e z.0)) r.0, r.1)

      -- both claims of a multiple are shown, where the product is
      product-claimed : (made : List Fact) (f g q : Fact) (o : Option Fact) → o ≡ small_product g q → (st : State E) (go : State E → Tree E) → (k : At (claim_product made f o st go) st here) → ((h : Fact) × ((small_product g q ≡ Some h) × (value_of (by_number (Rattle.facts.proofs.Worlds.own c k.news)) f ≡ value_of (by_number (Rattle.facts.proofs.Worlds.own c k.news)) h))) × ((st' : State E) × At (go st') st' here)
      product-claimed made f g q None s st go k = absurd (unshown (told_divided c launch (constant (negsuc 0)) k.stands))
        where
          unshown : (false ≡ true) ⊎ (pos 0 ≤ℤ value_of (by_number (Rattle.facts.proofs.Worlds.own c k.news)) (constant (negsuc 0))) → ⊥
          unshown (inl e) = cc
          unshown (inr e) = faithfully.negative e
      product-claimed made f g q (Some h) s st go k =
          let k1 = faithfully.passed c launch laws all last n a b (λ e x. x) tell.rankings st here k in
          let k2 = faithfully.passed c launch laws all last n a b (λ e x. x) tell.rankings (claimed_once st) here k1 in
          let y = by_number (Rattle.facts.proofs.Worlds.own c k.news) in
          ((h, (sym s, equal y f h (told_divided c launch (minus f h) k.stands) (told_divided c launch (minus h f) (past_claim c launch k.stands)))), (claimed_once (claimed_once st), k2))
        where
          equal : (y : ℕ → ℤ) (f h : Fact) → (false ≡ true) ⊎ (pos 0 ≤ℤ value_of y (minus f h)) → (false ≡ true) ⊎ (pos 0 ≤ℤ value_of y (minus h f)) → value_of y f ≡ value_of y h
          equal y f h (inl e) o = cc
          equal y f h (inr e) (inl o) = cc
          equal y f h (inr e) (inr o) = omega (arith, ints, value-minus y f h, value-minus y h f, e, o)

      multiples-claimed : (ms : List Multiple) → multiples_tell told ms ≡ true → (st : State E) (go : State E → Tree E) → At (claim_multiples p ms st go) st here → (multiples_hold v ms ≡ true) × ((st' : State E) × At (go st') st' here)
      multiples-claimed [] t st go k = (refl, (st, k))
      multiples-claimed (x ∷ ms) t st go k =
          let q = and_parts (tells told x.form && tells told x.of) (multiples_tell told ms) t in
          let u = and_parts (tells told x.form) (tells told x.of) q.0 in
          let o = told_form (has_form p st x.form && has_form p st x.of) _ st _ k in
          let r = and_parts (has_form p st x.form) (has_form p st x.of) o.0 in
          let k1 = o.1 in
          let mf = line-is st k1 x.form u.0 r.0 in
          let mg = line-is st k1 x.of u.1 r.1 in
          let g = replaced (on_path p st) x.of in
          let quotient = n.quotient (st.claims + 1) in
          let z = product-claimed _ (replaced (on_path p st) x.form) g quotient (small_product g quotient) refl st (λ st'. claim_multiples p ms st' go) k1 in
          let y = by_number (Rattle.facts.proofs.Worlds.own c k1.news) in
          let a' = agrees_itself c k1.news in
          let e : v x.form ≡ v x.of *ℤ value_of y quotient =
          sym (mf.means y a') ∙ z.0.1.1 ∙ value_product y a'.products g quotient z.0.0 (small-product g quotient z.0.0 z.0.1.0) ∙ ap (λ i. i *ℤ value_of y quotient) (mg.means y a') in
          let s' = multiples-claimed ms q.1 z.1.0 go z.1.1 in
          (and_from (divides (unsigned_abs (v x.of)) (v x.form)) (multiples_hold v ms) (quotient-divides (v x.of) (v x.form) (value_of y quotient) e) s'.0, s'.1)

    -- the node of an end
    ends_at : (stop : Stop) (turns : Turns) (st : State E) (here : Held) → At (Leaf (arrived stop turns st)) st here → EndsAt c last stop turns here.variables
    ends_at stop turns st here k = record {
      node = record { arrived = arrived stop turns st; facts = k.facts };
      news = k.news;
      fit = fits_itself c k.news st.held k.stands.fit;
      known = k.stands.known;
      forms = λ x. (k.forms.each x).form.means;
      stopped = refl;
      turned = refl;
      here = k.ended (record { arrived = arrived stop turns st; facts = k.facts }) (inl refl);
    }

    -- a place that is reached: what is said of it holds
    record Arrives (a' b' : Option ℕ) (stop : Stop) (turns : Turns) (to here : Held) : Type 0 where
      pub words : are_words w.kernel w.launch here.variables ≡ true
      pub facts : facts_hold (value_by s i (root_at to here)) (facts_at n a' b') ≡ true
      pub congruences : congruences_hold (value_by s i (root_at to here)) (congruences_at n a' b') ≡ true
      pub multiples : multiples_hold (value_by s i (root_at to here)) (multiples_at n a' b') ≡ true
      pub end : EndsAt c last stop turns here.variables

    arrives : (a' b' : Option ℕ) (stop : Stop) (turns : Turns) (st : State E) (to here : Held) → (is_some b' ≡ true → to ≡ from) → all_tell (is_some b') (facts_at n a' b') ≡ true → congruences_tell (is_some b') (congruences_at n a' b') ≡ true → multiples_tell (is_some b') (multiples_at n a' b') ≡ true → At (arrive_at p a' b' stop turns st) st here → Arrives a' b' stop turns to here
    arrives a' b' stop turns st to here same tf tc tm k =
        let q = faithfully.walked_term c launch laws all last n a b (λ e x. x) tell.rankings (are_slots w.kernel 0 (kinds w.kernel) st.variables) _ st here k in
        let f = facts-claimed to here (is_some b') same (facts_at n a' b') tf st _ q.1 in
        let d = congruences-claimed to here (is_some b') same (congruences_at n a' b') tc f.1.0 _ f.1.1 in
        let g = multiples-claimed to here (is_some b') same (multiples_at n a' b') tm d.1.0 _ d.1.1 in
        record {
          words = slots-are_words c k.news here.variables st.variables k.forms q.0;
          facts = f.0;
          congruences = d.0;
          multiples = g.0;
          end = ends_at stop turns g.1.0 here g.1.1;
        }

    pub at_barrier : (m : ℕ) (turns : Turns) (st : State E) (here : Held) → At ((course p).stops (AtBarrier m) turns st) st here → Holds s n (Some m) None i here here × EndsAt c last (AtBarrier m) turns here.variables
    at_barrier m turns st here k =
        let r = arrives (Some m) None (AtBarrier m) turns st here here (λ e. cc) (tell.facts (Some m) None) (tell.congruences (Some m) None) (told-where n.is_wide false (n.multiples (Some m) None) (tell.multiples (Some m) None)) k in
        (record { words = r.words; before = r.words; opens = refl; facts = r.facts; congruences = r.congruences; multiples = r.multiples }, r.end)

    told-facts : (a' : Option ℕ) (m : ℕ) → all_tell true (facts_at n a' (Some m)) ≡ true
    told-facts None m = tell.facts None (Some m)
    told-facts (Some x) m = tell.facts (Some x) (Some m)

    told-congruences : (a' : Option ℕ) (m : ℕ) → congruences_tell true (congruences_at n a' (Some m)) ≡ true
    told-congruences None m = tell.congruences None (Some m)
    told-congruences (Some x) m = tell.congruences (Some x) (Some m)

    told-multiples : (a' : Option ℕ) (m : ℕ) → multiples_tell true (multiples_at n a' (Some m)) ≡ true
    told-multiples None m = told-where n.is_wide true (n.multiples None (Some m)) (tell.multiples None (Some m))
    told-multiples (Some x) m = told-where n.is_wide true (n.multiples (Some x) (Some m)) (tell.multiples (Some x) (Some m))

    opens-there : (a' : Option ℕ) (m : ℕ) (ws : List Word) → opens_so s i a' (Some m) ws ≡ true
    opens-there None m ws = refl
    opens-there (Some x) m ws = refl

    pub at_head : (m : ℕ) (again : Bool) (turns : Turns) (st : State E) (here : Held) → At ((course p).stops (AtHead m again) turns st) st here → Holds s n a (Some m) i from here
    at_head m again turns st here k =
        let r = arrives a (Some m) (AtHead m again) turns st from here (λ e. refl) (told-facts a m) (told-congruences a m) (told-multiples a m) k in
        record { words = r.words; before = holds.before; opens = opens-there a m here.variables; facts = r.facts; congruences = r.congruences; multiples = r.multiples }

    pub at_end : (turns : Turns) (st : State E) (here : Held) → At ((course p).stops AtEnd turns st) st here → EndsAt c last AtEnd turns here.variables
    at_end turns st here k = ends_at AtEnd turns st here k
