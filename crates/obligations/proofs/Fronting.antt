-- In front of a statement of a place's tree an item meets no fault, an access of it is in the tree, and what it stores keeps what buffers
-- hold.
use Rattle.std.proofs.Common.{◌≡◌, ℕ, Bool, true, false, cond, List, [], Option, None, Some, refl, sym, ap, subst}
use Rattle.std.specs.Prelude.{ℤ, negsuc}
use Rattle.std.proofs.lemmas.Bool.{and_parts}
use Rattle.semantics.specs.Word.{Word, Fault, in_kind, as_kind}
use Rattle.semantics.specs.Core.{Array, Site, Term, Load, Variable, Statement, Set, Store, If, Loop, Barrier, Return, Break, Continue, Statements}
use Rattle.semantics.specs.Item.{Item, Entry, Waiting, Stopped, leave, resume}
use Rattle.semantics.specs.Evaluation.{Outcome, Gives, evaluate, within}
use Rattle.semantics.specs.Memory.{extent, element_kind}
use Rattle.semantics.specs.Contents.{HoldsOf, Behind, HonestTerm, HonestFront}
use Rattle.semantics.specs.Ask.{on_value, stores, act}
use Rattle.semantics.specs.Solo as solo
use Rattle.facts.specs.Symbols.{Fact, constant}
use Rattle.facts.proofs.Worlds.{View, setup}
use Rattle.arrivals.specs.Paths.{Held}
use Rattle.arrivals.specs.Symbolic.{AtFront}
use Rattle.walk_trees.specs.Trees.{Tree, Access, Ended, accesses}
use Rattle.walk_trees.specs.Values.{Value}
use Rattle.walk_trees.specs.Walks.{State, Onward, stand}
use Rattle.walk_trees.specs.Tests.{Outcomes}
use Rattle.walk_trees.specs.Terms.{walk, access, array_kind, stored}
use Rattle.walk_trees.specs.Covered.{covers_term}
use Rattle.walk_trees.specs.Statements.{spot_of}
use Rattle.walk_trees.proofs.Each.{Has}
use Rattle.walk_trees.proofs.QuotientSound.{DividesLawfully}
use Rattle.walk_trees.proofs.Shares.{keeping}
use Rattle.walk_trees.proofs.Standing.{walks, seen_in, Stands, told}
use Rattle.walk_trees.proofs.Ranges.{IsForm, IsValue, form_kept, form_constant}
use Rattle.walk_trees.proofs.Accesses.{kind-is, within-at, inside}
use Rattle.walk_trees.proofs.Contents.{keep_sound}
use Rattle.walk_trees.proofs.TermSound.{AreForms, forms_kept, forms_same, term_sound}
use Rattle.walk_trees.proofs.Fronts.{IsFine, fine_done, fine_value, fine_store, set_front, if_front}
use Rattle.obligations.specs.Notes.{Notes}
use Rattle.obligations.specs.Telling.{tells}
use Rattle.obligations.specs.Walking.{is_lawful, refused, course}
use Rattle.obligations.proofs.Faithfully as faithfully
use Rattle.semantics.specs.Item.{trail}

waiting-not : (f : Fault) (site : Site) → Waiting ≡ Stopped f site → ⊥
waiting-not f site e = cc

none-not : (a : solo.Access) → None ≡ Some a → ⊥
none-not a e = cc

module _ {E : Type 0} (c : View E) (launch : List Fact) (laws : DividesLawfully c.domain) (all : List (Access E)) (last : List (Ended E)) (n : Notes) (anchor head : Option ℕ)
    (lawful : (e : Term) → is_lawful e ≡ true → covers_term c.spaces e ≡ true) (tell : (k : ℕ) → tells false (n.ranking k).form ≡ true)
  where
    abbrev At : Tree E → State E → Held → Type 0
    At = faithfully.At c launch laws all last n anchor head lawful tell

    split : (b : Bool) (t : Tree E) (st : State E) (l : Held) → At (cond b t (refused st)) st l → (b ≡ true) × At t st l
    split = faithfully.walked_term c launch laws all last n anchor head lawful tell

    -- the answers to the loads of a term, and of a statement, are numbers that buffers may hold
    abbrev Honest : List ℕ → Term → (vars answers : List Word) → Type 0
    Honest now e vars answers = HonestTerm (setup c) c.conditions.contents c.item now e vars answers

    loop_front : (e : Term) → covers_term c.spaces e ≡ true → (st : State E) (l : Held) (k : ℕ) (go : Outcomes E) (it : Item) (m : ℕ) (body update : Statements) (turns : ℕ) (rest : List Entry) → it.variables ≡ l.variables → Honest (trail it.left) e it.variables it.answers → At ((walk (walks c) e).test (stand (spot_of k) st) go) st l → IsFine c all it (act (setup c) c.item it (Loop m e body update) turns rest)
    loop_front e h st l k go it m body update turns rest same honest s =
        let forms = subst (λ vs. AreForms c s.news vs st.variables) (sym same) s.forms in
        fine_value c launch laws all last it _ s.touched ((term_sound c launch laws (trail it.left) e h).test s.facts s.count s.news (stand (spot_of k) st) go it.variables it.answers honest forms s.stands) (λ w later is i q. fine_done c launch laws all last it _ it.variables)

    spaces : (a : Array) → Site → c.spaces a.space ≡ true
    spaces a site = (and_parts (c.spaces a.space) true (lawful (Load a site (Variable 0)) refl)).0

    -- what is owed of the value, then the access
    third_part : (a : Array) (site : Site) (it : Item) (rest : List Entry) (f : Value) (z : ℤ) (go : State E → Tree E) {facts : List Fact} {count : ℕ} {news : List ℤ} (v : Word) (y : Value) (st : State E) → IsForm c news f.form z → in_kind v.kind v.value ≡ true → IsValue c news v y →
        Stands c launch facts count (stored (walks c) a site f y st go) news (keeping st) → ((x : Access E) → Has x (accesses facts count (stored (walks c) a site f y st go)) → Has x all) → IsFine c all it (stores (setup c) c.item it a site (within (extent (setup c) a) z) v.value rest)
    third_part a site it rest f z go v y st m iv my s touched =
        let last_part : State E → Tree E = λ st'. access (walks c) true a site f.form st' go in
        let p = keep_sound c launch a.space a.number (array_kind (walks c) a) site v y st last_part iv my s in
        let q = p.1 in
        let i = inside c launch true a site f.form z q.state go (spaces a site) (form_kept c q.way.kept m) q.stands in
        let at = within-at (extent (setup c) a) i.index z i.same i.below in
        let holds : HoldsOf (setup c) c.conditions.contents a.space a.number (as_kind (element_kind (setup c) a) v.value) = subst (λ k. HoldsOf (setup c) c.conditions.contents a.space a.number (as_kind k v.value)) (sym (kind-is c launch a.space a.number)) p.0 in
        subst (λ j. IsFine c all it (stores (setup c) c.item it a site j v.value rest)) (sym at) (fine_store c launch laws all last it a i.index site v.value rest (seen_in c (λ x j. touched x (q.way.touched x j)) i.seen) holds)

    -- the value of a store, then its access
    second_part : (a : Array) (site : Site) (e : Term) (k : ℕ) (it : Item) (rest : List Entry) (f : Value) (z : ℤ) (later : List Word) (go : State E → Tree E) {facts : List Fact} {count : ℕ} {news : List ℤ} (st : State E) → AreForms c news it.variables st.variables → IsForm c news f.form z → Honest (trail it.left) e it.variables later →
        (b : Bool) → is_lawful e ≡ b → Stands c launch facts count (cond b ((walk (walks c) e).value (stand (spot_of k) st) (λ v st2. stored (walks c) a site f v st2 go)) (refused st)) news (keeping st) →
        ((x : Access E) → Has x (accesses facts count (cond b ((walk (walks c) e).value (stand (spot_of k) st) (λ v st2. stored (walks c) a site f v st2 go)) (refused st))) → Has x all) →
        IsFine c all it (on_value (setup c) c.item it (evaluate (setup c) c.item (trail it.left) e it.variables later) (λ v left. stores (setup c) c.item it a site (within (extent (setup c) a) z) v.value rest))
    second_part a site e k it rest f z later go {facts = facts} {count = count} {news = news} st forms m honest true h s touched =
        fine_value c launch laws all last it (λ v left. stores (setup c) c.item it a site (within (extent (setup c) a) z) v.value rest) touched
        ((term_sound c launch laws (trail it.left) e (lawful e h)).value facts count news (stand (spot_of k) st) (λ v st2. stored (walks c) a site f v st2 go) it.variables later honest forms s) (λ v left is iv w.
        third_part a site it rest f z go v w.arrived w.state (form_kept c w.way.kept m) iv w.right w.stands (λ x j. touched x (w.way.touched x j)))
    second_part a site e k it rest f z later go {news = news} st forms m honest false h s touched = absurd (faithfully.negative (told c launch (constant (negsuc 0)) (negsuc 0) s (form_constant c news (negsuc 0)).means (λ e. cc)))

    behind : (o : Outcome) (P : Word → List Word → Type 0) (v : Word) (rest : List Word) → o ≡ Gives v rest → Behind o P → P v rest
    behind o P v rest is h = subst (λ q. Behind q P) is h

    store_front : (k : ℕ) (a : Array) (site : Site) (index e : Term) (st : State E) (l : Held) (go : State E → Tree E) (it : Item) (turns : ℕ) (rest : List Entry) → it.variables ≡ l.variables → HonestFront (setup c) c.conditions.contents c.item (trail it.left) (Store k a site index e) it.variables it.answers →
        At (cond (is_lawful index) ((walk (walks c) index).value (stand (spot_of k) st) (λ f st'. cond (is_lawful e) ((walk (walks c) e).value (stand (spot_of k) st') (λ v st2. stored (walks c) a site f v st2 go)) (refused st'))) (refused st)) st l →
        IsFine c all it (act (setup c) c.item it (Store k a site index e) turns rest)
    store_front k a site index e st l go it turns rest same honest k0 =
        let mid : Onward E = λ f st'. cond (is_lawful e) ((walk (walks c) e).value (stand (spot_of k) st') (λ v st2. stored (walks c) a site f v st2 go)) (refused st') in
        let q = split (is_lawful index) ((walk (walks c) index).value (stand (spot_of k) st) mid) st l k0 in
        let s = q.1 in
        let forms = subst (λ vs. AreForms c s.news vs st.variables) (sym same) s.forms in
        fine_value c launch laws all last it (λ x later. on_value (setup c) c.item it (evaluate (setup c) c.item (trail it.left) e it.variables later) (λ v left. stores (setup c) c.item it a site (within (extent (setup c) a) x.value) v.value rest)) s.touched
        ((term_sound c launch laws (trail it.left) index (lawful index q.0)).value s.facts s.count s.news (stand (spot_of k) st) mid it.variables it.answers honest.0 forms s.stands) (λ x later is ix u.
        second_part a site e k it rest u.arrived x.value later go u.state (forms_same c (ap (λ o. o.variables) u.same) (forms_kept c u.way.kept forms)) u.right.form (behind (evaluate (setup c) c.item (trail it.left) index it.variables it.answers) (λ i late. Honest (trail it.left) e it.variables late) x later is honest.1) (is_lawful e) refl u.stands (λ y j. s.touched y (u.way.touched y j)))

    -- whatever the statement is
    pub fine_at : (a : Statement) (here : Held) → AtFront (course (faithfully.w c launch laws all last n anchor head lawful tell)) At a here → (it : Item) → it.variables ≡ here.variables → HonestFront (setup c) c.conditions.contents c.item (trail it.left) a it.variables it.answers → (turns : ℕ) (rest : List Entry) → IsFine c all it (act (setup c) c.item it a turns rest)
    fine_at (Set m x e) here f it same honest turns rest =
        let q = split (is_lawful e) _ f.1.0 here f.1.1.1.1 in
        set_front c launch laws all last e (lawful e q.0) (spot_of m) _ it m x turns rest same honest q.1
    fine_at (Store m a site k e) here f it same honest turns rest = store_front m a site k e f.1.0 here (f.1.1.1.0.go f.1.1.0) it turns rest same honest f.1.1.1.1
    fine_at (If m e t u) here f it same honest turns rest =
        let q = split (is_lawful e) _ f.1.0 here f.1.1.1.1 in
        if_front c launch laws all last e (lawful e q.0) (spot_of m) _ it m t u turns rest same honest q.1
    fine_at (Loop m e b u) here f it same honest turns rest =
        let q = split (is_lawful e) _ f.0 here f.1.1.1 in
        loop_front e (lawful e q.0) f.0 here m _ it m b u turns rest same honest q.1
    fine_at (Barrier m l g) here f it same honest turns rest = record { runs = λ answer fault site u e. waiting-not fault site e; noted = λ a e. absurd (none-not a e); kept = tt }
    fine_at (Return m) here f it same honest turns rest = fine_done c launch laws all last it [] it.variables
    fine_at (Break m o) here f it same honest turns rest = fine_done c launch laws all last it (leave o rest) it.variables
    fine_at (Continue m o) here f it same honest turns rest = fine_done c launch laws all last it (resume o rest) it.variables
