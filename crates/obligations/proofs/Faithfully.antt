-- The walk of a place goes along with what an item does.
use Rattle.std.proofs.Common.{◌≡◌, ℕ, suc, Bool, true, false, not, cond, nat_eq, List, [], ◌∷◌, ◌++◌, Option, arith, refl, sym, ap, subst}
use Rattle.std.specs.Prelude.{pos, negsuc, ◌≤ℤ◌, slice_set}
use Rattle.std.proofs.lemmas.Int.{ints}
use Rattle.std.proofs.lemmas.Bool.Decides.{nat_tests}
use Rattle.semantics.specs.Word.{Word, is_zero}
use Rattle.semantics.specs.Core.{Term, Statement, Set, Store, If, Loop, Barrier, Return, Break, Continue}
use Rattle.semantics.specs.Setup.{Setup}
use Rattle.facts.specs.Symbols.{Fact, constant}
use Rattle.facts.proofs.Members.{by_number}
use Rattle.facts.proofs.Worlds.{View, Root, setup, meaning}
use Rattle.linear.specs.Linear.{value_of}
use Rattle.arrivals.specs.Paths.{CanBe, Held, held, Ranking, ranked}
use Rattle.arrivals.specs.Symbolic.{Faithful}
use Rattle.walk_trees.specs.Trees.{OfRanking, Replaced, Access, Ended, Tree, Dead}
use Rattle.walk_trees.specs.Values.{Value}
use Rattle.walk_trees.specs.Walks.{State, settles, claim, claimed_once, stand, with_rank, rank_form}
use Rattle.walk_trees.specs.Terms.{walk, chosen}
use Rattle.walk_trees.specs.Covered.{covers_term}
use Rattle.walk_trees.specs.Statements.{spot_of, assigned}
use Rattle.walk_trees.proofs.QuotientSound.{DividesLawfully}
use Rattle.walk_trees.proofs.Standing.{walks, told, past_claim}
use Rattle.walk_trees.proofs.Ranges.{IsForm, form_constant}
use Rattle.walk_trees.proofs.Fronts.{Stood, stood_at, value_stood, set_stood, test_stood, store_stood}
use Rattle.obligations.specs.Notes.{Notes, opens, holds, fallen, fallen_by}
use Rattle.obligations.specs.Telling.{tells}
use Rattle.obligations.specs.Roots.{anchor_forms}
use Rattle.obligations.specs.Replacing.{replaced, made}
use Rattle.obligations.specs.Walking.{Placed, on_path, never, if_replaced, has_form, claim_rank, is_lawful, refused, rank_on, arrive, enter, store, course}
use Rattle.obligations.proofs.Replaced.{replaced-is}

-- what an item has of its own, but for the anchor
abbrev pub root_of : Held → Root
root_of l = record { variables = l.variables; anchor = []; ranks = l.ranks }

-- what ranks a loop: the value of the form that is said of it
abbrev pub ranking_of : Setup → Notes → Ranking
ranking_of s n loop i l = value_of (by_number (meaning s i i (root_of l) (root_of l) [] [])) (n.ranking loop).form

pub negative : pos 0 ≤ℤ negsuc 0 → ⊥
negative h = omega (arith, ints, h)

module _ {E : Type 0} (c : View E) (launch : List Fact) (laws : DividesLawfully c.domain) (all : List (Access E)) (last : List (Ended E)) (n : Notes) (anchor head : Option ℕ)
    (lawful : (e : Term) → is_lawful e ≡ true → covers_term c.spaces e ≡ true) (tell : (k : ℕ) → tells false (n.ranking k).form ≡ true)
  where
    abbrev pub w : Placed E
    w = record { setting = walks c; kernel = c.kernel; notes = n; anchor = anchor; head = head }

    abbrev pub At : Tree E → State E → Held → Type 0
    At t st l = Stood c launch all last t st l.variables l.ranks

    abbrev pub r : Ranking
    r = ranking_of (setup c) n

    never_shown : (st : State E) (l : Held) (go : State E → Tree E) → At (never st go) st l → ⊥
    never_shown st l go s = negative (told c launch (constant (negsuc 0)) (negsuc 0) s.stands (form_constant c s.news (negsuc 0)).means (λ e. cc))

    pub never_refused : (st : State E) (l : Held) → At (refused st) st l → ⊥
    never_refused st l s = never_shown st l (λ st'. Dead) s

    -- an item stands before a term that is walked
    pub walked_term : (b : Bool) (t : Tree E) (st : State E) (l : Held) → At (cond b t (refused st)) st l → (b ≡ true) × At t st l
    walked_term true t st l s = (refl, s)
    walked_term false t st l s = absurd (never_refused st l s)

    -- a claim is passed
    pub passed : {o : _} {g : _} {settled : Bool} {rest : Tree E} (st : State E) (l : Held) → At (Rattle.walk_trees.specs.Trees.Claim o true settled g rest) st l → At rest (claimed_once st) l
    passed st l s = record { facts = s.facts; count = suc s.count; news = s.news; stands = past_claim c launch s.stands; forms = s.forms; ranked = s.ranked; touched = s.touched; ended = s.ended }

    -- an item stands before claims of forms only where these were put in the path's terms
    pub told_form : (b : Bool) (claims : State E → (State E → Tree E) → Tree E) (st : State E) (l : Held) (go : State E → Tree E) → At (if_replaced b claims st go) st l → (b ≡ true) × At (claims st go) st l
    told_form true claims st l go s = (refl, s)
    told_form false claims st l go s = absurd (never_shown st l go s)

    -- so with a ranking
    pub told_rank : (k : ℕ) (extra : List Fact) (f : Fact) (st : State E) (l : Held) (go : State E → Tree E) → At (claim_rank w k extra f (stand (spot_of k) st) go) st l →
        (has_form w st (n.ranking k).form ≡ true) × At (claim OfRanking true (settles w.setting st f) (Replaced (made (on_path w st) (n.ranking k).form ++ extra) f) (stand (spot_of k) st) go) (stand (spot_of k) st) l
    told_rank k extra f st l go s =
        told_form (has_form w st (n.ranking k).form) (claim OfRanking true (settles w.setting st f) (Replaced (made (on_path w st) (n.ranking k).form ++ extra) f)) (stand (spot_of k) st) l go (stood_at c launch laws all last (spot_of k) s)

    outcome : (b : Bool) (v : Word) → is_zero v.value ≡ not b → not (is_zero v.value) ≡ b
    outcome true v e = ap not e
    outcome false v e = ap not e

    value_at_term : (k : ℕ) (e : Term) (st : State E) (from : Held) (v : Word) (go : Value → State E → Tree E) → At ((course w).value k e st go) st from → CanBe (setup c) c.conditions.contents c.item e from.variables v → (f : Value) × ((st' : State E) × At (go f st') st' from)
    value_at_term k e st from v go s can =
        let p = walked_term (is_lawful e) ((walk (walks c) e).value (stand (spot_of k) st) go) st from s in
        value_stood c launch laws all last can.now e (lawful e p.0) go can.answers v can.rest (stood_at c launch laws all last (spot_of k) p.1) can.is can.honest

    set_at_term : (k : ℕ) (e : Term) (x : ℕ) (st : State E) (from : Held) (v : Word) (go : State E → Tree E) → At ((course w).value k e st (λ f st'. go ((course w).set st' x f))) st from → CanBe (setup c) c.conditions.contents c.item e from.variables v → (st' : State E) × At (go st') st' (held (slice_set from.variables x v) from.ranks)
    set_at_term k e x st from v go s can =
        let p = walked_term (is_lawful e) ((walk (walks c) e).value (stand (spot_of k) st) (λ f st'. go (assigned x f st'))) st from s in
        set_stood c launch laws all last can.now e (lawful e p.0) x go can.answers v can.rest (stood_at c launch laws all last (spot_of k) p.1) can.is can.honest

    test_at_term : (b : Bool) (k : ℕ) (e : Term) (st : State E) (from : Held) (v : Word) (yeses noes : State E → Tree E) → At ((course w).test k e st yeses noes) st from → CanBe (setup c) c.conditions.contents c.item e from.variables v → is_zero v.value ≡ not b → (st' : State E) × At (chosen b (yeses st') (noes st')) st' from
    test_at_term b k e st from v yeses noes s can z =
        let p = walked_term (is_lawful e) ((walk (walks c) e).test (stand (spot_of k) st) (λ t st'. chosen t (yeses st') (noes st'))) st from s in
        let q = test_stood c launch laws all last can.now e (lawful e p.0) (λ t st'. chosen t (yeses st') (noes st')) can.answers v can.rest (stood_at c launch laws all last (spot_of k) p.1) can.is can.honest in
        (q.0, subst (λ t. At (chosen t (yeses q.0) (noes q.0)) q.0 from) (outcome b v z) q.1)

    -- the ranking's form on the path means its value
    pub rank-is : (k : ℕ) {t : Tree E} (st : State E) (l : Held) (s : At t st l) → has_form w st (n.ranking k).form ≡ true → IsForm c s.news (rank_on w k st) (r k c.item l)
    rank-is k st l s e = subst (λ b. IsForm c s.news (cond b (replaced (on_path w st) (n.ranking k).form) (constant (pos 0))) (r k c.item l)) (sym e) (replaced-is c s.news (root_of l) st.variables (anchor_forms c.kernel anchor head) st.ranks (λ x. (s.forms.each x).form) s.ranked false (λ e. cc) (n.ranking k).form (tell k) e)

    arrive_at_loop : (k : ℕ) (again : Bool) (st : State E) (from : Held) (go : State E → Tree E) → At (arrive w k again st go) st from → (st' : State E) × At (go st') st' from
    arrive_at_loop k true st from go s = (claimed_once (stand (spot_of k) st), passed (stand (spot_of k) st) from (told_rank k (fallen_by (n.ranking k).bound (rank_form st.ranks k) (rank_on w k st) ∷ []) (fallen (n.ranking k).bound (rank_form st.ranks k) (rank_on w k st)) st from go s).1)
    arrive_at_loop k false st from go s = (claimed_once (stand (spot_of k) st), passed (stand (spot_of k) st) from (told_rank k [] (opens (n.ranking k).bound (rank_on w k st)) st from go s).1)

    ranked-is : (k m : ℕ) (b : Bool) → nat_eq k m ≡ b → {t : Tree E} (st : State E) (l : Held) (s : At t st l) → has_form w st (n.ranking k).form ≡ true → IsForm c s.news (cond b (rank_on w k st) (rank_form st.ranks m)) (cond (nat_eq m k) (r k c.item l) (l.ranks m))
    ranked-is k m true e st l s h = subst (λ b. IsForm c s.news (rank_on w k st) (cond b (r k c.item l) (l.ranks m))) (sym (turned k m e)) (rank-is k st l s h)
      where
        turned : (k m : ℕ) → nat_eq k m ≡ true → nat_eq m k ≡ true
        turned k m e = grind (arith, nat_tests)
    ranked-is k m false e st l s h = subst (λ b. IsForm c s.news (rank_form st.ranks m) (cond b (r k c.item l) (l.ranks m))) (sym (turned k m e)) (s.ranked m)
      where
        turned : (k m : ℕ) → nat_eq k m ≡ false → nat_eq m k ≡ false
        turned k m e = grind (arith, nat_tests)

    enter_loop : (k : ℕ) (st : State E) (from : Held) (go : State E → Tree E) → At (enter w k st go) st from → (st' : State E) × At (go st') st' (ranked r k c.item from)
    enter_loop k st from go s =
        let t = told_rank k [] (holds (n.ranking k).bound (rank_on w k st)) st from (λ st'. go (with_rank k (rank_on w k st) st')) s in
        let p = passed (stand (spot_of k) st) from t.1 in (
          with_rank k (rank_on w k st) (claimed_once (stand (spot_of k) st)),
          record {
            facts = p.facts;
            count = p.count;
            news = p.news;
            stands = p.stands;
            forms = p.forms;
            ranked = λ m. ranked-is k m (nat_eq k m) refl (claimed_once (stand (spot_of k) st)) from p t.0;
            touched = p.touched;
            ended = p.ended;
          },
        )

    store_at : (a : Statement) (f g : Value) (st : State E) (from : Held) (go : State E → Tree E) → At (store w a f g st go) st from → (st' : State E) × At (go st') st' from
    store_at (Store k a site i e) f g st from go s = store_stood c launch laws all last a site f g go s
    store_at (Set k y e) f g st from go s = (st, s)
    store_at (If k e t u) f g st from go s = (st, s)
    store_at (Loop k e b u) f g st from go s = (st, s)
    store_at (Barrier k l m) f g st from go s = (st, s)
    store_at (Return k) f g st from go s = (st, s)
    store_at (Break k m) f g st from go s = (st, s)
    store_at (Continue k m) f g st from go s = (st, s)

    pub faithful : Faithful (setup c) c.conditions.contents r c.item (Tree E) (State E) Value (course w) At
    faithful = record {
      value = value_at_term;
      taken = λ k e st from v yeses noes s can z. test_at_term true k e st from v yeses noes s can z;
      skipped = λ k e st from v yeses noes s can z. test_at_term false k e st from v yeses noes s can z;
      set = set_at_term;
      arrive = arrive_at_loop;
      enter = enter_loop;
      store = store_at;
    }
