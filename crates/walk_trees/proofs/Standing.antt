-- Where an item stands in a tree, and how it comes from there to a later place, along what it does.
use Rattle.std.proofs.Common.{◌≡◌, ℕ, suc, ◌<◌, Bool, true, false, List, [], ◌∷◌, ◌++◌, length, arith, refl, sym, ap, ◌∙◌, subst, inl, inr, length-append}
use Rattle.std.specs.Prelude.{ℤ, pos, ◌≤ℤ◌, ◌⊎◌}
use Rattle.std.specs.List.{All}
use Rattle.std.proofs.lemmas.List.Elements.{All-append, All-cons, All-nil, All-head, All-tail}
use Rattle.semantics.specs.Word.{Word, in_kind}
use Rattle.semantics.specs.Core.{Site, Array}
use Rattle.semantics.specs.Evaluation.{Outcome, Gives, Needs, and_then}
use Rattle.semantics.specs.Solo as solo
use Rattle.linear.specs.Linear.{value_of, IsMet}
use Rattle.linear.specs.Products.{IsImpossibleWithProducts}
use Rattle.semantics.specs.Memory.{cell, extent}
use Rattle.linear.proofs.Merging.{IsRising}
use Rattle.facts.specs.Symbols.{Fact, denial}
use Rattle.facts.proofs.Values.{claimed as denied}
use Rattle.facts.proofs.Members.{by_number}
use Rattle.facts.proofs.Worlds.{View, setup, Agrees, Means, Knows, own, agrees_itself, agrees_before}
use Rattle.walk_trees.specs.Held.{Held, with_new, narrow}
use Rattle.walk_trees.specs.Trees.{Demand, Goal, AtLeastZero, Either, Replaced, Divided, Target, Tree, Claim, Know, Touch, Fork, after, Access, Ended, ends, claimed, claims, accesses, Manner, Plainly, ByPositive, ByNegative, ByQuotient}
use Rattle.walk_trees.specs.Shares.{Shared}
use Rattle.walk_trees.specs.Values.{Value}
use Rattle.walk_trees.specs.Walks.{Setting, State, Ranked, know_all}
use Rattle.walk_trees.specs.Statements.{setting}
use Rattle.walk_trees.specs.Shown.{IsShownWithProducts, IsShownInWithProducts}
use Rattle.walk_trees.proofs.Each.{Has}
use Rattle.walk_trees.proofs.Shares.{Keeping, keeping, IsShared, AreShared, shared_kept}
use Rattle.walk_trees.proofs.Holding.{known_of, IsHeld, Fits, held_anew, held_narrow, news-narrow}

-- the walk of a kernel under conditions
abbrev pub walks : {E : Type 0} → View E → Setting E
walks c = setting c.domain c.kernel c.conditions c.is_wide c.joins c.has_entry

pub has_left : {A : Type 0} (x : A) (a b : List A) → Has x a → Has x (a ++ b)
has_left x [] b h = absurd h
has_left x (y ∷ a) b (inl e) = inl e
has_left x (y ∷ a) b (inr h) = inr (has_left x a b h)

pub has_right : {A : Type 0} (x : A) (a b : List A) → Has x b → Has x (a ++ b)
has_right x [] b h = h
has_right x (y ∷ a) b h = inr (has_right x a b h)

pub all_left : {A : Type 0} (P : A → Type 0) (a b : List A) → All P (a ++ b) → All P a
all_left P [] b h = All-nil P
all_left P (x ∷ a) b h = All-cons P x a (All-head P x (a ++ b) h) (all_left P a b (All-tail P x (a ++ b) h))

pub all_right : {A : Type 0} (P : A → Type 0) (a b : List A) → All P (a ++ b) → All P b
all_right P [] b h = h
all_right P (x ∷ a) b h = all_right P a b (All-tail P x (a ++ b) h)

-- an access that a tree has, at a node with new numbers under which its facts hold and its index is the element's
pub record Noted {E : Type 0} (c : View E) (all : List (Access E)) (a : solo.Access) : Type 0 where
  pub node : Access E
  pub news : List ℤ
  pub known : Knows c news node.facts
  pub fit : Fits c news node.held
  pub index : Means c news node.index (pos a.at.index)
  pub store : node.target.is_store ≡ a.is_store
  pub space : c.spaces node.target.array.space ≡ true
  pub at : a.at ≡ cell (setup c) c.item node.target.array a.at.index
  pub inside : a.at.index < extent (setup c) node.target.array
  pub here : Has node all

-- an element of an array for which a tree has a node
pub record Seen {E : Type 0} (c : View E) (all : List (Access E)) (stored : Bool) (a : Array) (k : ℕ) : Type 0 where
  pub node : Access E
  pub news : List ℤ
  pub known : Knows c news node.facts
  pub fit : Fits c news node.held
  pub index : Means c news node.index (pos k)
  pub store : node.target.is_store ≡ stored
  pub array : node.target.array ≡ a
  pub space : c.spaces a.space ≡ true
  pub inside : k < extent (setup c) a
  pub here : Has node all

pub seen_in : {E : Type 0} (c : View E) {all more : List (Access E)} {stored : Bool} {a : Array} {k : ℕ} → ((x : Access E) → Has x all → Has x more) → Seen c all stored a k → Seen c more stored a k
seen_in c f s = record { node = s.node; news = s.news; known = s.known; fit = s.fit; index = s.index; store = s.store; array = s.array; space = s.space; inside = s.inside; here = f s.node s.here }

-- what is known before a tree, and that all is shown of it
pub record Stands {E : Type 0} (c : View E) (launch facts : List Fact) (n : ℕ) (tree : Tree E) (news : List ℤ) (kept : Keeping E) : Type 0 where
  pub fit : IsHeld c news kept.held
  pub counted : length news ≡ length kept.held.news
  pub shared : AreShared c news kept.quotients
  pub launched : Knows c news launch
  pub known : Knows c news facts
  pub shown : All IsShownWithProducts (claims launch facts n tree)

-- a later place: what agrees there agrees before, and the accesses and ends of what is left are the tree's
pub record Way {E : Type 0} (c : View E) (facts : List Fact) (n : ℕ) (tree : Tree E) (news : List ℤ) (path : List Fact) (m : ℕ) (left : Tree E) (more : List ℤ) : Type 0 where
  pub kept : (v : ℕ → ℤ) → Agrees c more v → Agrees c news v
  pub touched : (a : Access E) → Has a (accesses path m left) → Has a (accesses facts n tree)
  pub ended : (e : Ended E) → Has e (ends path m left) → Has e (ends facts n tree)

-- what the walk knows of variables and of rankings
pub record Owns : Type 0 where
  pub variables : List Value
  pub ranks : List Ranked

abbrev pub owns : {E : Type 0} → State E → Owns
owns st = record { variables = st.variables; ranks = st.ranks }

-- an item came to what goes on from what arrives there, of which something is so; variables are what they were
pub record Comes {E : Type 0} (c : View E) (launch : List Fact) {A : Type 0} (facts : List Fact) (n : ℕ) (tree : Tree E) (go : A → State E → Tree E) (news : List ℤ) (variables : Owns) (P : List ℤ → A → Type 0) : Type 0 where
  pub more : List ℤ
  pub arrived : A
  pub path : List Fact
  pub count : ℕ
  pub state : State E
  pub same : owns state ≡ variables
  pub right : P more arrived
  pub stands : Stands c launch path count (go arrived state) more (keeping state)
  pub way : Way c facts n tree news path count (go arrived state) more

-- an outcome is a value of its kind, with which the item comes to what goes on, or it asks for an element that the tree has; it is no fault
pub data Goes {E : Type 0} (c : View E) (launch : List Fact) {A : Type 0} (facts : List Fact) (n : ℕ) (tree : Tree E) (go : A → State E → Tree E) (news : List ℤ) (variables : Owns) (P : Word → List ℤ → A → Type 0) (o : Outcome) : Type 0 where
  gives : (w : Word) (rest : List Word) (is : o ≡ Gives w rest) (right : in_kind w.kind w.value ≡ true) (comes : Comes c launch facts n tree go news variables (P w)) → Goes c launch facts n tree go news variables P o
  asks : (a : Array) (k : ℕ) (site : Site) (is : o ≡ Needs a k site) (seen : Seen c (accesses facts n tree) false a k) → Goes c launch facts n tree go news variables P o

module _ {E : Type 0} (c : View E) where
  pub noted : {all : List (Access E)} {stored : Bool} {a : Array} {k : ℕ} (x : solo.Access) → x.at ≡ cell (setup c) c.item a k → x.is_store ≡ stored → Seen c all stored a k → Noted c all x
  noted {a = a} {k = k} x e q s = record {
    node = s.node;
    news = s.news;
    known = s.known;
    fit = s.fit;
    index = subst (λ i. Means c s.news s.node.index (pos i)) (sym (ap (λ y. y.index) e)) s.index;
    store = s.store ∙ sym q;
    space = ap (λ y. c.spaces y.space) s.array ∙ s.space;
    at = e ∙ (λ j. cell (setup c) c.item (sym s.array j) (sym e j).index);
    inside = subst (λ y. x.at.index < extent (setup c) y) (sym s.array) (subst (λ i. i < extent (setup c) a) (sym (ap (λ y. y.index) e)) s.inside);
    here = s.here;
  }

module _ {E : Type 0} (c : View E) (launch : List Fact) where
  -- ways, one after the other, and each over one node
  pub way_here : {facts : List Fact} {n : ℕ} {tree : Tree E} {news : List ℤ} → Way c facts n tree news facts n tree news
  way_here = record { kept = λ v g. g; touched = λ a h. h; ended = λ e h. h }

  pub way_then : {facts path last : List Fact} {n m k : ℕ} {tree left end : Tree E} {news more late : List ℤ} → Way c facts n tree news path m left more → Way c path m left more last k end late → Way c facts n tree news last k end late
  way_then a b = record { kept = λ v g. a.kept v (b.kept v g); touched = λ x h. a.touched x (b.touched x h); ended = λ x h. a.ended x (b.ended x h) }

  pub over_claim : {facts : List Fact} {n : ℕ} {o : Demand} {needed settled : Bool} {g : Goal} {tree : Tree E} {news : List ℤ} → Way c facts n (Claim o needed settled g tree) news facts (suc n) tree news
  over_claim = record { kept = λ v g. g; touched = λ a h. h; ended = λ e h. h }

  pub over_fact : {facts : List Fact} {n : ℕ} {f : Fact} {tree : Tree E} {news : List ℤ} → Way c facts n (Know f tree) news (facts ++ f ∷ []) n tree news
  over_fact = record { kept = λ v g. g; touched = λ a h. h; ended = λ e h. h }

  pub over_access : {facts : List Fact} {n : ℕ} {t : Target} {i : Fact} {held : Held E} {tree : Tree E} {news : List ℤ} → Way c facts n (Touch t i held tree) news facts n tree news
  over_access = record { kept = λ v g. g; touched = λ a h. inr h; ended = λ e h. h }

  pub over_new : {facts : List Fact} {n : ℕ} {tree : Tree E} {news : List ℤ} (z : ℤ) → Way c facts n tree news facts n tree (news ++ z ∷ [])
  over_new {news = news} z = record { kept = λ v g. agrees_before c news z v g; touched = λ a h. h; ended = λ e h. h }

  pub over_first : {facts : List Fact} {n : ℕ} {first : Tree E} {second : ℕ → Tree E} {news : List ℤ} → Way c facts n (Fork first second) news facts n first news
  over_first {facts = facts} {n = n} {first = first} {second = second} = record { kept = λ v g. g; touched = λ a h. has_left a (accesses facts n first) (accesses facts (after n first) (second (after n first))) h; ended = λ e h. has_left e (ends facts n first) (ends facts (after n first) (second (after n first))) h }

  pub over_second : {facts : List Fact} {n : ℕ} {first : Tree E} {second : ℕ → Tree E} {news : List ℤ} → Way c facts n (Fork first second) news facts (after n first) (second (after n first)) news
  over_second {facts = facts} {n = n} {first = first} {second = second} = record { kept = λ v g. g; touched = λ a h. has_right a (accesses facts n first) (accesses facts (after n first) (second (after n first))) h; ended = λ e h. has_right e (ends facts n first) (ends facts (after n first) (second (after n first))) h }

  -- where an item stands behind one node
  pub past_claim : {facts : List Fact} {n : ℕ} {o : Demand} {needed settled : Bool} {g : Goal} {tree : Tree E} {news : List ℤ} {held : Keeping E} → Stands c launch facts n (Claim o needed settled g tree) news held → Stands c launch facts (suc n) tree news held
  past_claim {facts = facts} {n = n} {o = o} {needed = needed} {settled = settled} {g = g} {tree = tree} s = record { fit = s.fit; counted = s.counted; shared = s.shared; launched = s.launched; known = s.known; shown = All-tail IsShownWithProducts (claimed launch facts o needed settled g) (claims launch facts (suc n) tree) s.shown }

  pub past_fact : {facts : List Fact} {n : ℕ} {f : Fact} {tree : Tree E} {news : List ℤ} {held : Keeping E} → ((v : ℕ → ℤ) → Agrees c news v → pos 0 ≤ℤ value_of v f) → Stands c launch facts n (Know f tree) news held → Stands c launch (facts ++ f ∷ []) n tree news held
  past_fact {facts = facts} {f = f} h s = record { fit = s.fit; counted = s.counted; shared = s.shared; launched = s.launched; known = λ v a. All-append (IsMet v) facts (f ∷ []) (s.known v a) (All-cons (IsMet v) f [] (h v a) (All-nil (IsMet v))); shown = s.shown }

  pub past_access : {facts : List Fact} {n : ℕ} {t : Target} {i : Fact} {at : Held E} {held : Keeping E} {tree : Tree E} {news : List ℤ} → Stands c launch facts n (Touch t i at tree) news held → Stands c launch facts n tree news held
  past_access s = record { fit = s.fit; counted = s.counted; shared = s.shared; launched = s.launched; known = s.known; shown = s.shown }

  pub past_new : {facts : List Fact} {n : ℕ} {tree : Tree E} {news : List ℤ} {held : Keeping E} (z : ℤ) (e : E) → c.domain.has e z ≡ true → Stands c launch facts n tree news held → Stands c launch facts n tree (news ++ z ∷ []) (record { held = with_new e held.held; quotients = held.quotients })
  past_new {news = news} {held = held} z e h s = record {
    fit = held_anew c news held.held z e s.counted h s.fit;
    counted = omega (arith, s.counted, length-append news (z ∷ []), length-append held.held.news (e ∷ []));
    shared = shared_kept c held.quotients (λ v a. agrees_before c news z v a) s.shared;
    launched = λ v a. s.launched v (agrees_before c news z v a);
    known = λ v a. s.known v (agrees_before c news z v a);
    shown = s.shown;
  }

  pub narrowed : {facts : List Fact} {n : ℕ} {tree : Tree E} {news : List ℤ} {held : Keeping E} (f : Fact) → IsRising 0 f.terms → ((v : ℕ → ℤ) → Agrees c news v → pos 0 ≤ℤ value_of v f) → Stands c launch facts n tree news held → Stands c launch facts n tree news (record { held = narrow c.domain (known_of c) f held.held; quotients = held.quotients })
  narrowed {news = news} {held = held} f r h s = record { fit = held_narrow c news f held.held r h s.fit; counted = s.counted ∙ ap length (sym (news-narrow c.domain (known_of c) f held.held)); shared = s.shared; launched = s.launched; known = s.known; shown = s.shown }

  -- one quotient more
  pub past_kept : {facts : List Fact} {n : ℕ} {tree : Tree E} {news : List ℤ} {held : Keeping E} (q : Shared) → IsShared c news q → Stands c launch facts n tree news held → Stands c launch facts n tree news (record { held = held.held; quotients = q ∷ held.quotients })
  past_kept q h s = record { fit = s.fit; counted = s.counted; shared = (h, s.shared); launched = s.launched; known = s.known; shown = s.shown }

  pub past_first : {facts : List Fact} {n : ℕ} {first : Tree E} {second : ℕ → Tree E} {news : List ℤ} {held : Keeping E} → Stands c launch facts n (Fork first second) news held → Stands c launch facts n first news held
  past_first {facts = facts} {n = n} {first = first} {second = second} s = record { fit = s.fit; counted = s.counted; shared = s.shared; launched = s.launched; known = s.known; shown = all_left IsShownWithProducts (claims launch facts n first) (claims launch facts (after n first) (second (after n first))) s.shown }

  pub past_second : {facts : List Fact} {n : ℕ} {first : Tree E} {second : ℕ → Tree E} {news : List ℤ} {held : Keeping E} → Stands c launch facts n (Fork first second) news held → Stands c launch facts (after n first) (second (after n first)) news held
  past_second {facts = facts} {n = n} {first = first} {second = second} s = record { fit = s.fit; counted = s.counted; shared = s.shared; launched = s.launched; known = s.known; shown = all_right IsShownWithProducts (claims launch facts n first) (claims launch facts (after n first) (second (after n first))) s.shown }

  -- several facts
  pub gathered : List Fact → List Fact → List Fact
  gathered facts [] = facts
  gathered facts (f ∷ fs) = gathered (facts ++ f ∷ []) fs

  pub over_facts : {facts : List Fact} (fs : List Fact) {n : ℕ} {tree : Tree E} {news : List ℤ} → Way c facts n (know_all fs tree) news (gathered facts fs) n tree news
  unfolding gathered
  over_facts [] = way_here
  over_facts (f ∷ fs) = way_then over_fact (over_facts fs)

  pub past_facts : {facts : List Fact} (fs : List Fact) {n : ℕ} {tree : Tree E} {news : List ℤ} {held : Keeping E} → Knows c news fs → Stands c launch facts n (know_all fs tree) news held → Stands c launch (gathered facts fs) n tree news held
  unfolding gathered
  past_facts [] h s = s
  past_facts (f ∷ fs) h s = past_facts fs (λ v a. All-tail (IsMet v) f fs (h v a)) (past_fact (λ v a. All-head (IsMet v) f fs (h v a)) s)

  -- at once, with nothing in between; from a place before it; one after the other
  pub at_once : {A : Type 0} {facts : List Fact} {n : ℕ} {news : List ℤ} (go : A → State E → Tree E) (P : List ℤ → A → Type 0) (x : A) (st : State E) → P news x → Stands c launch facts n (go x st) news (keeping st) → Comes c launch facts n (go x st) go news (owns st) P
  at_once {facts = facts} {n = n} {news = news} go P x st h s = record { more = news; arrived = x; path = facts; count = n; state = st; same = refl; right = h; stands = s; way = way_here }

  pub comes_from : {A : Type 0} {facts path : List Fact} {n m : ℕ} {tree left : Tree E} {go : A → State E → Tree E} {news more : List ℤ} {variables : Owns} {P : List ℤ → A → Type 0} → Way c facts n tree news path m left more → Comes c launch path m left go more variables P → Comes c launch facts n tree go news variables P
  comes_from w p = record { more = p.more; arrived = p.arrived; path = p.path; count = p.count; state = p.state; same = p.same; right = p.right; stands = p.stands; way = way_then w p.way }

  pub onward : {A B : Type 0} {facts : List Fact} {n : ℕ} {tree : Tree E} {go : A → State E → Tree E} {onto : B → State E → Tree E} {news : List ℤ} {variables : Owns} {P : List ℤ → A → Type 0} {Q : List ℤ → B → Type 0} (a : Comes c launch facts n tree go news variables P) → Comes c launch a.path a.count (go a.arrived a.state) onto a.more (owns a.state) Q → Comes c launch facts n tree onto news variables Q
  onward a b = record { more = b.more; arrived = b.arrived; path = b.path; count = b.count; state = b.state; same = b.same ∙ a.same; right = b.right; stands = b.stands; way = way_then a.way b.way }

  -- something else is so of what arrives, and what goes on takes it as something else
  pub arriving : {A B : Type 0} {facts : List Fact} {n : ℕ} {tree : Tree E} {news : List ℤ} {variables : Owns} {P : List ℤ → A → Type 0} (go : B → State E → Tree E) (h : A → B) (Q : List ℤ → B → Type 0) → ((more : List ℤ) (x : A) → ((v : ℕ → ℤ) → Agrees c more v → Agrees c news v) → P more x → Q more (h x)) → Comes c launch facts n tree (λ x st. go (h x) st) news variables P → Comes c launch facts n tree go news variables Q
  arriving go h Q f p = record { more = p.more; arrived = h p.arrived; path = p.path; count = p.count; state = p.state; same = p.same; right = f p.more p.arrived p.way.kept p.right; stands = p.stands; way = p.way }

  pub restated : {A : Type 0} {facts : List Fact} {n : ℕ} {tree : Tree E} {go : A → State E → Tree E} {news : List ℤ} {variables : Owns} {P Q : List ℤ → A → Type 0} → ((more : List ℤ) (x : A) → ((v : ℕ → ℤ) → Agrees c more v → Agrees c news v) → P more x → Q more x) → Comes c launch facts n tree go news variables P → Comes c launch facts n tree go news variables Q
  restated f p = record { more = p.more; arrived = p.arrived; path = p.path; count = p.count; state = p.state; same = p.same; right = f p.more p.arrived p.way.kept p.right; stands = p.stands; way = p.way }

  pub goes_from : {A : Type 0} {facts path : List Fact} {n m : ℕ} {tree left : Tree E} {go : A → State E → Tree E} {news more : List ℤ} {variables : Owns} {P : Word → List ℤ → A → Type 0} {o : Outcome} → Way c facts n tree news path m left more → Goes c launch path m left go more variables P o → Goes c launch facts n tree go news variables P o
  goes_from w (gives v rest is right comes) = gives v rest is right (comes_from w comes)
  goes_from w (asks a k site is seen) = asks a k site is (seen_in c w.touched seen)

  goes_on : {A B : Type 0} {facts : List Fact} {n : ℕ} {tree : Tree E} {go : A → State E → Tree E} {onto : B → State E → Tree E} {news : List ℤ} {variables : Owns} {P : List ℤ → A → Type 0} {Q : Word → List ℤ → B → Type 0} {o : Outcome} (a : Comes c launch facts n tree go news variables P) → Goes c launch a.path a.count (go a.arrived a.state) onto a.more (owns a.state) Q o → Goes c launch facts n tree onto news variables Q o
  goes_on a (gives v rest is right comes) = gives v rest is right (onward a comes)
  goes_on a (asks b k site is seen) = asks b k site is (seen_in c a.way.touched seen)

  pub goes_then : {A B : Type 0} {facts : List Fact} {n : ℕ} {tree : Tree E} {go : A → State E → Tree E} {onto : B → State E → Tree E} {news : List ℤ} {variables : Owns} {P : Word → List ℤ → A → Type 0} {Q : Word → List ℤ → B → Type 0} {o : Outcome} (f : Word → List Word → Outcome) → Goes c launch facts n tree go news variables P o →
      ((w : Word) (rest : List Word) → o ≡ Gives w rest → in_kind w.kind w.value ≡ true → (p : Comes c launch facts n tree go news variables (P w)) → Goes c launch p.path p.count (go p.arrived p.state) onto p.more (owns p.state) Q (f w rest)) →
      Goes c launch facts n tree onto news variables Q (and_then o f)
  goes_then {facts = facts} {n = n} {tree = tree} {onto = onto} {news = news} {variables = variables} {Q = Q} f (gives w rest is right p) later = subst (λ q. Goes c launch facts n tree onto news variables Q (and_then q f)) (sym is) (goes_on p (later w rest is right p))
  goes_then f (asks a k site is seen) later = asks a k site (ap (λ q. and_then q f) is) seen

  -- the item goes on from what arrived, or what goes on takes it as something else
  pub goes_further : {A B : Type 0} {facts : List Fact} {n : ℕ} {tree : Tree E} {go : A → State E → Tree E} (onto : B → State E → Tree E) {news : List ℤ} {variables : Owns} {P : Word → List ℤ → A → Type 0} (Q : Word → List ℤ → B → Type 0) {o : Outcome} → Goes c launch facts n tree go news variables P o →
      ((w : Word) → in_kind w.kind w.value ≡ true → (p : Comes c launch facts n tree go news variables (P w)) → Comes c launch p.path p.count (go p.arrived p.state) onto p.more (owns p.state) (Q w)) → Goes c launch facts n tree onto news variables Q o
  goes_further onto Q (gives w rest is right p) later = gives w rest is right (onward p (later w right p))
  goes_further onto Q (asks a k site is seen) later = asks a k site is seen

  pub goes_as : {A B : Type 0} {facts : List Fact} {n : ℕ} {tree : Tree E} {news : List ℤ} {variables : Owns} {P : Word → List ℤ → A → Type 0} (go : B → State E → Tree E) (h : A → B) (Q : Word → List ℤ → B → Type 0) {o : Outcome} → ((w : Word) (more : List ℤ) (x : A) → P w more x → Q w more (h x)) → Goes c launch facts n tree (λ x st. go (h x) st) news variables P o → Goes c launch facts n tree go news variables Q o
  goes_as go h Q f (gives w rest is right p) = gives w rest is right (arriving go h (Q w) (λ more x kept m. f w more x m) p)
  goes_as go h Q f (asks a k site is seen) = asks a k site is seen

  -- what a needed claim tells of forms whose values are settled
  told_shown : {facts : List Fact} {n : ℕ} {o : Demand} {settled : Bool} {g : Goal} {tree : Tree E} {news : List ℤ} {held : Keeping E} → Stands c launch facts n (Claim o true settled g tree) news held → (settled ≡ true) ⊎ ((m : Manner) × IsShownInWithProducts m (claimed launch facts o true settled g))
  told_shown {facts = facts} {n = n} {o = o} {settled = settled} {g = g} {tree = tree} s = All-head IsShownWithProducts (claimed launch facts o true settled g) (claims launch facts (suc n) tree) s.shown refl

  refuted : {facts : List Fact} {n : ℕ} {tree : Tree E} {news : List ℤ} {held : Keeping E} (f : Fact) (z : ℤ) → Stands c launch facts n tree news held → Means c news f z → IsImpossibleWithProducts ((launch ++ facts) ++ denial f ∷ []) → pos 0 ≤ℤ z
  refuted {facts = facts} {news = news} f z s m h =
      let v = by_number (own c news) in
      let a = agrees_itself c news in
      subst (λ y. pos 0 ≤ℤ y) (m v a) (denied v a.products [] (launch ++ facts) f h (All-nil (IsMet v)) (All-append (IsMet v) launch facts (s.launched v a) (s.known v a)))

  pub told : {facts : List Fact} {n : ℕ} {o : Demand} {settled : Bool} {tree : Tree E} {news : List ℤ} {held : Keeping E} (f : Fact) (z : ℤ) → Stands c launch facts n (Claim o true settled (AtLeastZero f) tree) news held → Means c news f z → (settled ≡ true → pos 0 ≤ℤ z) → pos 0 ≤ℤ z
  told {facts = facts} {o = o} {settled = settled} f z s m d = elim (told_shown s) [ inl e ↦ d e | inr i ↦ by i.0 i.1 ]
    where
      by : (m : Manner) → IsShownInWithProducts m (claimed launch facts o true settled (AtLeastZero f)) → pos 0 ≤ℤ z
      by Plainly h = refuted f z s m h
      by ByPositive h = absurd h
      by ByNegative h = absurd h
      by ByQuotient h = absurd h

  pub told_replaced : {facts : List Fact} {n : ℕ} {o : Demand} {settled : Bool} {tree : Tree E} {news : List ℤ} {held : Keeping E} {made : List Fact} (f : Fact) (z : ℤ) → Stands c launch facts n (Claim o true settled (Replaced made f) tree) news held → Means c news f z → (settled ≡ true → pos 0 ≤ℤ z) → pos 0 ≤ℤ z
  told_replaced {facts = facts} {o = o} {settled = settled} {made = made} f z s m d = elim (told_shown s) [ inl e ↦ d e | inr i ↦ by i.0 i.1 ]
    where
      by : (m : Manner) → IsShownInWithProducts m (claimed launch facts o true settled (Replaced made f)) → pos 0 ≤ℤ z
      by Plainly h = refuted f z s m h
      by ByPositive h = absurd h
      by ByNegative h = absurd h
      by ByQuotient h = absurd h

  pub told_divided : {facts : List Fact} {n : ℕ} {o : Demand} {settled : Bool} {tree : Tree E} {news : List ℤ} {held : Keeping E} {made : List Fact} (f : Fact) → Stands c launch facts n (Claim o true settled (Divided made f) tree) news held → (settled ≡ true) ⊎ (pos 0 ≤ℤ value_of (by_number (own c news)) f)
  told_divided {facts = facts} {o = o} {settled = settled} {news = news} {made = made} f s = elim (told_shown s) [ inl e ↦ inl e | inr i ↦ inr (by i.0 i.1) ]
    where
      by : (m : Manner) → IsShownInWithProducts m (claimed launch facts o true settled (Divided made f)) → pos 0 ≤ℤ value_of (by_number (own c news)) f
      by Plainly h = absurd h
      by ByPositive h = absurd h
      by ByNegative h = absurd h
      by ByQuotient h =
          let v = by_number (own c news) in
          let a = agrees_itself c news in
          denied v a.products [] (launch ++ facts) f h (All-nil (IsMet v)) (All-append (IsMet v) launch facts (s.launched v a) (s.known v a))

  pub told_either : {facts : List Fact} {n : ℕ} {o : Demand} {settled : Bool} {tree : Tree E} {news : List ℤ} {held : Keeping E} (f g : Fact) (x y : ℤ) → Stands c launch facts n (Claim o true settled (Either f g) tree) news held → Means c news f x → Means c news g y → (settled ≡ true) ⊎ ((pos 0 ≤ℤ x) ⊎ (pos 0 ≤ℤ y))
  told_either {facts = facts} {o = o} {settled = settled} f g x y s mf mg = elim (told_shown s) [ inl e ↦ inl e | inr i ↦ inr (by i.0 i.1) ]
    where
      by : (m : Manner) → IsShownInWithProducts m (claimed launch facts o true settled (Either f g)) → (pos 0 ≤ℤ x) ⊎ (pos 0 ≤ℤ y)
      by Plainly h = absurd h
      by ByPositive h = inl (refuted f x s mf h)
      by ByNegative h = inr (refuted g y s mg h)
      by ByQuotient h = absurd h
