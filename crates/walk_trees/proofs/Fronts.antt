-- What an item does with the statement in front: it is not stopped, each access is in the tree, and it stands before what is left of it.
use Rattle.std.proofs.Common.{◌≡◌, ℕ, zero, suc, true, false, not, List, [], ◌∷◌, length, slice_index_or, slice_set, Some, None, arith, sym, ap, ◌∙◌, subst, inr}
use Rattle.std.specs.Prelude.{ℤ}
use Rattle.std.proofs.lemmas.List.{length-set}
use Rattle.semantics.specs.Word.{Word, Fault, zero_word, in_kind, as_kind, is_zero}
use Rattle.semantics.specs.Core.{Site, Array, Term, Set, If, Statements}
use Rattle.semantics.specs.Memory.{cell, element_kind}
use Rattle.semantics.specs.Contents.{StoresKept, HoldsOf, HonestTerm}
use Rattle.semantics.specs.Evaluation.{Outcome, Gives, Needs, evaluate, At}
use Rattle.semantics.specs.Item.{Item, Entry, Stopped, status_of, finished, trail}
use Rattle.semantics.specs.Ask as ask
use Rattle.semantics.specs.Ask.{Ask, on_value, loads, stores, act}
use Rattle.semantics.specs.Solo as solo
use Rattle.semantics.specs.Solo.{moved, touch}
use Rattle.facts.specs.Symbols.{Fact}
use Rattle.facts.proofs.Worlds.{View, setup}
use Rattle.walk_trees.specs.Trees.{Spot, Tree, Access, accesses, Ended, ends}
use Rattle.walk_trees.specs.Values.{Value}
use Rattle.walk_trees.specs.Walks.{State, Onward, claimed_once, at_site, stand, rank_form}
use Rattle.walk_trees.specs.Tests.{Outcomes}
use Rattle.walk_trees.specs.Terms.{no_value, access, array_kind, stored, walk}
use Rattle.walk_trees.specs.Contents.{contents_of}
use Rattle.walk_trees.specs.Statements.{assigned}
use Rattle.walk_trees.specs.Covered.{covers_term}
use Rattle.walk_trees.proofs.Each.{Has}
use Rattle.walk_trees.proofs.Shares.{keeping}
use Rattle.walk_trees.proofs.Standing.{walks, Noted, noted, Seen, seen_in, Stands, Comes, Goes, gives, asks, past_claim, past_access, Owns, owns}
use Rattle.walk_trees.proofs.Ranges.{IsForm, IsValue, form_kept}
use Rattle.walk_trees.proofs.Contents.{held_at, keeps_come}
use Rattle.walk_trees.proofs.QuotientSound.{DividesLawfully}
use Rattle.walk_trees.proofs.TermSound.{AreForms, forms_kept, forms_same, term_sound}

-- an item stands before a tree, with these variables, and all accesses of the tree are among these
pub record Stood {E : Type 0} (c : View E) (launch : List Fact) (all : List (Access E)) (last : List (Ended E)) (tree : Tree E) (st : State E) (vars : List Word) (ranks : ℕ → ℤ) : Type 0 where
  pub facts : List Fact
  pub count : ℕ
  pub news : List ℤ
  pub stands : Stands c launch facts count tree news (keeping st)
  pub forms : AreForms c news vars st.variables
  pub ranked : (n : ℕ) → IsForm c news (rank_form st.ranks n) (ranks n)
  pub touched : (a : Access E) → Has a (accesses facts count tree) → Has a all
  pub ended : (e : Ended E) → Has e (ends facts count tree) → Has e last

-- after what is asked the item is not stopped, unless it was, an access of it is noted, and what it stores is a number that its buffer
-- may hold
pub record IsFine {E : Type 0} (c : View E) (all : List (Access E)) (it : Item) (q : Ask) : Type 0 where
  pub runs : (answer : ℤ) (f : Fault) (site : Site) → (it.status ≡ Stopped f site → ⊥) → (moved it q answer).status ≡ Stopped f site → ⊥
  pub noted : (a : solo.Access) → touch c.item it q ≡ Some a → Noted c all a
  pub kept : StoresKept (setup c) c.conditions.contents q

gives-value : (v w : Word) (r s : List Word) → Gives v r ≡ Gives w s → v ≡ w
gives-value v w r s e = cc

needs-not : (a : Array) (k : ℕ) (site : Site) (v : Word) (r : List Word) → Needs a k site ≡ Gives v r → ⊥
needs-not a k site v r e = cc

-- a slot is set in both
set-each : {A B : Type 0} (R : A → B → Type 0) (xs : List A) (ys : List B) (d : A) (e : B) (k : ℕ) (x : A) (y : B) → length xs ≡ length ys → R x y → ((i : ℕ) → R (slice_index_or xs i d) (slice_index_or ys i e)) → (i : ℕ) → R (slice_index_or (slice_set xs k x) i d) (slice_index_or (slice_set ys k y) i e)
set-each R [] [] d e k x y l r h i = h i
set-each R [] (b ∷ ys) d e k x y l r h i = absurd (omega (arith, l))
set-each R (a ∷ xs) [] d e k x y l r h i = absurd (omega (arith, l))
set-each R (a ∷ xs) (b ∷ ys) d e zero x y l r h zero = r
set-each R (a ∷ xs) (b ∷ ys) d e zero x y l r h (suc i) = h (suc i)
set-each R (a ∷ xs) (b ∷ ys) d e (suc k) x y l r h zero = h zero
set-each R (a ∷ xs) (b ∷ ys) d e (suc k) x y l r h (suc i) = set-each R xs ys d e k x y (omega (arith, l)) r (λ j. h (suc j)) i

set-right : (P : Word → Type 0) (xs : List Word) (d : Word) (k : ℕ) (x : Word) → P x → ((i : ℕ) → P (slice_index_or xs i d)) → (i : ℕ) → P (slice_index_or (slice_set xs k x) i d)
set-right P [] d k x p h i = h i
set-right P (a ∷ xs) d zero x p h zero = p
set-right P (a ∷ xs) d zero x p h (suc i) = h (suc i)
set-right P (a ∷ xs) d (suc k) x p h zero = h zero
set-right P (a ∷ xs) d (suc k) x p h (suc i) = set-right P xs d k x p (λ j. h (suc j)) i

-- a statement that is done stops nothing
done-not : (left : List Entry) (f : Fault) (site : Site) → status_of left ≡ Stopped f site → ⊥
done-not [] f site e = cc
done-not (x ∷ left) f site e = cc

none-not : (a : solo.Access) → None ≡ Some a → ⊥
none-not a e = cc

some-same : (a b : solo.Access) → Some a ≡ Some b → a ≡ b
some-same a b e = cc

module _ {E : Type 0} (c : View E) (launch : List Fact) (laws : DividesLawfully c.domain) (all : List (Access E)) (last : List (Ended E)) where
  -- the walk stands elsewhere
  pub stood_at : {tree : Tree E} {st : State E} {vars : List Word} {ranks : ℕ → ℤ} (p : Spot) → Stood c launch all last tree st vars ranks → Stood c launch all last tree (stand p st) vars ranks
  stood_at p s = record { facts = s.facts; count = s.count; news = s.news; stands = s.stands; forms = s.forms; ranked = s.ranked; touched = s.touched; ended = s.ended }

  ranks_at : {A : Type 0} {tree : Tree E} {st : State E} {vars : List Word} {ranks : ℕ → ℤ} {go : A → State E → Tree E} {P : List ℤ → A → Type 0} (s : Stood c launch all last tree st vars ranks) (p : Comes c launch s.facts s.count tree go s.news (owns st) P) → (n : ℕ) → IsForm c p.more (rank_form p.state.ranks n) (ranks n)
  ranks_at {ranks = ranks} s p n = subst (λ (o : Owns). IsForm c p.more (rank_form o.ranks n) (ranks n)) (sym p.same) (form_kept c p.way.kept (s.ranked n))

  came : {A : Type 0} {tree : Tree E} {st : State E} {vars : List Word} {ranks : ℕ → ℤ} {go : A → State E → Tree E} {P : List ℤ → A → Type 0} (s : Stood c launch all last tree st vars ranks) (p : Comes c launch s.facts s.count tree go s.news (owns st) P) → Stood c launch all last (go p.arrived p.state) p.state vars ranks
  came s p = record { facts = p.path; count = p.count; news = p.more; stands = p.stands; forms = forms_same c (ap (λ o. o.variables) p.same) (forms_kept c p.way.kept s.forms); ranked = ranks_at s p; touched = λ a h. s.touched a (p.way.touched a h); ended = λ e h. s.ended e (p.way.ended e h) }

  -- of a value that is known
  known_comes : {A : Type 0} {facts : List Fact} {n : ℕ} {tree : Tree E} {go : A → State E → Tree E} {news : List ℤ} {variables : Owns} {P : Word → List ℤ → A → Type 0} {o : Outcome} (v : Word) (rest : List Word) → Goes c launch facts n tree go news variables P o → o ≡ Gives v rest → (in_kind v.kind v.value ≡ true) × Comes c launch facts n tree go news variables (P v)
  known_comes {facts = facts} {n = n} {tree = tree} {go = go} {news = news} {variables = variables} {P = P} v rest (gives w r is right comes) e =
      let q : w ≡ v = gives-value w v r rest (sym is ∙ e) in
      (subst (λ (x : Word). in_kind x.kind x.value ≡ true) q right, subst (λ (x : Word). Comes c launch facts n tree go news variables (P x)) q comes)
  known_comes v rest (asks a k site is seen) e = absurd (needs-not a k site v rest (sym is ∙ e))

  pub value_stood : (now : List ℕ) (e : Term) → covers_term c.spaces e ≡ true → {st : State E} {vars : List Word} {ranks : ℕ → ℤ} (go : Onward E) (answers : List Word) (v : Word) (rest : List Word) → Stood c launch all last ((walk (walks c) e).value st go) st vars ranks → evaluate (setup c) c.item now e vars answers ≡ Gives v rest → HonestTerm (setup c) c.conditions.contents c.item now e vars answers → (x : Value) × ((st' : State E) × Stood c launch all last (go x st') st' vars ranks)
  value_stood now e h {st = st} {vars = vars} {ranks = ranks} go answers v rest s is honest =
      let p = (known_comes v rest ((term_sound c launch laws now e h).value s.facts s.count s.news st go vars answers honest s.forms s.stands) is).1 in
      (p.arrived, (p.state, came s p))

  pub set_stood : (now : List ℕ) (e : Term) → covers_term c.spaces e ≡ true → {st : State E} {vars : List Word} {ranks : ℕ → ℤ} (slot : ℕ) (go : State E → Tree E) (answers : List Word) (v : Word) (rest : List Word) → Stood c launch all last ((walk (walks c) e).value st (λ x st'. go (assigned slot x st'))) st vars ranks → evaluate (setup c) c.item now e vars answers ≡ Gives v rest → HonestTerm (setup c) c.conditions.contents c.item now e vars answers → (st' : State E) × Stood c launch all last (go st') st' (slice_set vars slot v) ranks
  set_stood now e h {st = st} {vars = vars} {ranks = ranks} slot go answers v rest s is honest =
      let k = known_comes v rest ((term_sound c launch laws now e h).value s.facts s.count s.news st (λ x st'. go (assigned slot x st')) vars answers honest s.forms s.stands) is in
      let p = k.1 in
      let t = forms_same c (ap (λ o. o.variables) p.same) (forms_kept c p.way.kept s.forms) in (
        assigned slot p.arrived p.state,
        record {
          facts = p.path;
          count = p.count;
          news = p.more;
          stands = p.stands;
          forms = record {
            lengths = length-set vars slot v ∙ t.lengths ∙ sym (length-set p.state.variables slot p.arrived);
            right = set-right (λ (w : Word). in_kind w.kind w.value ≡ true) vars zero_word slot v k.0 t.right;
            each = set-each (IsValue c p.more) vars p.state.variables zero_word no_value slot v p.arrived t.lengths p.right t.each;
          };
          ranked = ranks_at s p;
          touched = λ a i. s.touched a (p.way.touched a i);
          ended = λ e i. s.ended e (p.way.ended e i);
        },
      )

  pub test_stood : (now : List ℕ) (e : Term) → covers_term c.spaces e ≡ true → {st : State E} {vars : List Word} {ranks : ℕ → ℤ} (go : Outcomes E) (answers : List Word) (v : Word) (rest : List Word) → Stood c launch all last ((walk (walks c) e).test st go) st vars ranks → evaluate (setup c) c.item now e vars answers ≡ Gives v rest → HonestTerm (setup c) c.conditions.contents c.item now e vars answers → (st' : State E) × Stood c launch all last (go (not (is_zero v.value)) st') st' vars ranks
  test_stood now e h {st = st} {vars = vars} {ranks = ranks} go answers v rest s is honest =
      let p = (known_comes v rest ((term_sound c launch laws now e h).test s.facts s.count s.news st go vars answers honest s.forms s.stands) is).1 in
      (p.state, subst (λ b. Stood c launch all last (go b p.state) p.state vars ranks) p.right (came s p))

  access_stood : {st : State E} {vars : List Word} {ranks : ℕ → ℤ} (a : Array) (site : Site) (f : Fact) (go : State E → Tree E) → Stood c launch all last (access (walks c) true a site f st go) st vars ranks → (st' : State E) × Stood c launch all last (go st') st' vars ranks
  access_stood {st = st} a site f go s = (
    claimed_once (claimed_once (at_site site st)),
    record {
      facts = s.facts;
      count = suc (suc s.count);
      news = s.news;
      stands = past_access c launch (past_claim c launch (past_claim c launch s.stands));
      forms = s.forms;
      ranked = s.ranked;
      touched = λ x h. s.touched x (inr h);
      ended = λ e h. s.ended e h;
    },
  )

  pub store_stood : {st : State E} {vars : List Word} {ranks : ℕ → ℤ} (a : Array) (site : Site) (x y : Value) (go : State E → Tree E) → Stood c launch all last (stored (walks c) a site x y st go) st vars ranks → (st' : State E) × Stood c launch all last (go st') st' vars ranks
  store_stood {st = st} a site x y go s =
      let p = keeps_come c launch (contents_of (walks c) a) (array_kind (walks c) a) site y st (λ st'. access (walks c) true a site x.form st' go) s.stands in
      access_stood a site x.form go (came s p)

  -- what is asked
  pub fine_done : (it : Item) (left : List Entry) (vars : List Word) → IsFine c all it (ask.Goes (finished it left vars))
  fine_done it left vars = record { runs = λ answer f site u e. done-not left f site e; noted = λ a e. absurd (none-not a e); kept = tt }

  pub fine_load : (it : Item) (a : Array) (k : ℕ) (site : Site) → Seen c all false a k → IsFine c all it (loads (setup c) (cell (setup c) c.item a k) site)
  fine_load it a k site s = record {
    runs = λ answer f site' u e. u e;
    noted = λ x e. let q = some-same _ x e in noted c x (ap (λ (y : solo.Access). y.at) (sym q)) (ap (λ (y : solo.Access). y.is_store) (sym q)) s;
    kept = tt;
  }

  pub fine_value : {A : Type 0} {facts : List Fact} {n : ℕ} {tree : Tree E} {go : A → State E → Tree E} {news : List ℤ} {variables : Owns} {P : Word → List ℤ → A → Type 0} {o : Outcome} (it : Item) (f : Word → List Word → Ask) → ((x : Access E) → Has x (accesses facts n tree) → Has x all) → Goes c launch facts n tree go news variables P o → ((w : Word) (rest : List Word) → o ≡ Gives w rest → in_kind w.kind w.value ≡ true → Comes c launch facts n tree go news variables (P w) → IsFine c all it (f w rest)) → IsFine c all it (on_value (setup c) c.item it o f)
  fine_value it f touched (gives w rest is right p) later = subst (λ q. IsFine c all it (on_value (setup c) c.item it q f)) (sym is) (later w rest is right p)
  fine_value it f touched (asks a k site is seen) later = subst (λ q. IsFine c all it (on_value (setup c) c.item it q f)) (sym is) (fine_load it a k site (seen_in c touched seen))

  pub fine_store : (it : Item) (a : Array) (k : ℕ) (site : Site) (z : ℤ) (left : List Entry) → Seen c all true a k → HoldsOf (setup c) c.conditions.contents a.space a.number (as_kind (element_kind (setup c) a) z) → IsFine c all it (stores (setup c) c.item it a site (At k) z left)
  fine_store it a k site z left s h = record {
    runs = λ answer f site' u e. done-not left f site' e;
    noted = λ x e. let q = some-same _ x e in noted c x (ap (λ (y : solo.Access). y.at) (sym q)) (ap (λ (y : solo.Access). y.is_store) (sym q)) s;
    kept = held_at c launch a k z h;
  }

  -- the statement in front
  pub set_front : (e : Term) → covers_term c.spaces e ≡ true → {st : State E} {vars : List Word} {ranks : ℕ → ℤ} (p : Spot) (go : Onward E) (it : Item) (n slot turns : ℕ) (rest : List Entry) → it.variables ≡ vars → HonestTerm (setup c) c.conditions.contents c.item (trail it.left) e it.variables it.answers → Stood c launch all last ((walk (walks c) e).value (stand p st) go) st vars ranks → IsFine c all it (act (setup c) c.item it (Set n slot e) turns rest)
  set_front e h {st = st} {vars = vars} {ranks = ranks} p go it n slot turns rest same honest s =
      let forms = subst (λ vs. AreForms c s.news vs st.variables) (sym same) s.forms in
      fine_value it (λ v later. ask.Goes (finished it rest (slice_set it.variables slot v))) s.touched ((term_sound c launch laws (trail it.left) e h).value s.facts s.count s.news (stand p st) go it.variables it.answers honest forms s.stands) (λ w later is i q. fine_done it rest (slice_set it.variables slot w))

  pub if_front : (e : Term) → covers_term c.spaces e ≡ true → {st : State E} {vars : List Word} {ranks : ℕ → ℤ} (p : Spot) (go : Outcomes E) (it : Item) (n : ℕ) (taken skipped : Statements) (turns : ℕ) (rest : List Entry) → it.variables ≡ vars → HonestTerm (setup c) c.conditions.contents c.item (trail it.left) e it.variables it.answers → Stood c launch all last ((walk (walks c) e).test (stand p st) go) st vars ranks → IsFine c all it (act (setup c) c.item it (If n e taken skipped) turns rest)
  if_front e h {st = st} {vars = vars} {ranks = ranks} p go it n taken skipped turns rest same honest s =
      let forms = subst (λ vs. AreForms c s.news vs st.variables) (sym same) s.forms in
      fine_value it _ s.touched ((term_sound c launch laws (trail it.left) e h).test s.facts s.count s.news (stand p st) go it.variables it.answers honest forms s.stands) (λ w later is i q. fine_done it _ it.variables)
