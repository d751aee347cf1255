-- An access is inside its buffer, and the tree has it. A load is asked for, or gives any number of its buffer's kind.
use Rattle.std.proofs.Common.{◌≡◌, ℕ, ◌<◌, Bool, true, false, cond, List, [], ◌∷◌, arith, refl, ap, ◌∙◌, subst, inl, lt-ltb}
use Rattle.std.specs.Prelude.{ℤ, pos, negsuc, ◌-ℤ◌, ◌≤ℤ◌}
use Rattle.std.proofs.lemmas.Int.{ints}
use Rattle.semantics.specs.Word.{Word, word, as_kind}
use Rattle.semantics.specs.Core.{Site, Space, Global, Local, Array}
use Rattle.semantics.specs.Memory.{extent, extent_in, element_kind, element_kind_in}
use Rattle.semantics.specs.Contents.{HoldsOf, FirstHeld}
use Rattle.semantics.specs.Evaluation.{Gives, At, Outside, within, asks as asked, load as loaded}
use Rattle.semantics.proofs.Words.{as_kind-in_kind}
use Rattle.facts.specs.Symbols.{Length, Fact, constant, minus}
use Rattle.facts.proofs.Worlds.{View, setup, length_at}
use Rattle.walk_trees.specs.Trees.{OfIndex, Tree, Touch, accesses}
use Rattle.walk_trees.specs.Walks.{State, Onward, claimed_once, at_site, claim_form}
use Rattle.walk_trees.specs.Terms.{target_at, length_in, length_form, in_length, kind_in, array_kind, access, element, load}
use Rattle.walk_trees.proofs.Holding.{fits_itself}
use Rattle.walk_trees.proofs.Shares.{keeping}
use Rattle.walk_trees.proofs.Standing.{walks, Seen, Stands, Comes, Goes, gives, asks, way_then, over_claim, over_access, past_claim, past_access, at_once, comes_from, onward, Owns, owns}
use Rattle.walk_trees.proofs.Ranges.{IsForm, IsValue, form_once, form_constant, form-minus, told_by}
use Rattle.walk_trees.proofs.Contents.{element_sound}

pub within-at : (n k : ℕ) (x : ℤ) → x ≡ pos k → k < n → within n x ≡ At k
within-at n k x e h = ap (within n) e ∙ ap (λ b. cond b (At k) Outside) (lt-ltb k n h)

module _ {E : Type 0} (c : View E) (launch : List Fact) where
  pub kind-is : (sp : Space) (b : ℕ) → element_kind_in (setup c) sp b ≡ kind_in (walks c) sp b
  kind-is Global b = refl
  kind-is Local b = refl

  length_in-means : (news : List ℤ) (sp : Space) (b : ℕ) → IsForm c news (length_in (walks c) sp b) (pos (extent_in (setup c) sp b))
  length_in-means news Global b = form_once c news (Length b) (length_at c.launch b) (λ v a. a.lengths b)
  length_in-means news Local b = form_constant c news (pos (extent_in (setup c) Local b))

  length-means : (news : List ℤ) (a : Array) → IsForm c news (length_form (walks c) a) (pos (extent (setup c) a))
  length-means news a = length_in-means news a.space a.number

  -- an index that lies in so many elements, and what goes on behind it
  pub record Lies (facts : List Fact) (n : ℕ) (tree : Tree E) (go : State E → Tree E) (news : List ℤ) (variables : Owns) (length : ℕ) (x : ℤ) : Type 0 where
    pub index : ℕ
    pub same : x ≡ pos index
    pub below : index < length
    pub comes : Comes c launch facts n tree (λ (u : Unit {0}) st. go st) news variables (λ more u. Unit {0})

  pub lies : {facts : List Fact} {n : ℕ} {news : List ℤ} (length : ℕ) (room f : Fact) (x : ℤ) (st : State E) (go : State E → Tree E) → IsForm c news room (pos length) → IsForm c news f x → Stands c launch facts n (in_length (walks c) room f st go) news (keeping st) → Lies facts n (in_length (walks c) room f st go) go news (owns st) length x
  lies {facts = facts} {n = n} {news = news} length room f x st go mr m s =
      let long : Fact = minus room (constant (pos 1)) in
      let high : Fact = minus long f in
      let s1 = past_claim c launch s in
      let s2 = past_claim c launch s1 in
      let low : pos 0 ≤ℤ x = told_by c launch OfIndex f x st (λ st'. claim_form (walks c) OfIndex true high st' go) s m.means in
      let is = form-minus c room (constant (pos 1)) (pos length) (pos 1) (pos length -ℤ pos 1) mr (form_constant c news (pos 1)) (omega (arith, ints)) in
      let left : pos 0 ≤ℤ ((pos length -ℤ pos 1) -ℤ x) = told_by c launch OfIndex high ((pos length -ℤ pos 1) -ℤ x) (claimed_once st) go s1 (form-minus c long f (pos length -ℤ pos 1) x ((pos length -ℤ pos 1) -ℤ x) is m (omega (arith, ints))).means in
      by x low left (comes_from c launch (way_then c launch (over_claim c launch) (over_claim c launch))
      (at_once c launch (λ (u : Unit {0}) st'. go st') (λ more u. Unit {0}) tt (claimed_once (claimed_once st)) tt s2))
    where
      by : (x : ℤ) → pos 0 ≤ℤ x → pos 0 ≤ℤ ((pos length -ℤ pos 1) -ℤ x) → Comes c launch facts n (in_length (walks c) room f st go) (λ (u : Unit {0}) st'. go st') news (owns st) (λ more u. Unit {0}) → Lies facts n (in_length (walks c) room f st go) go news (owns st) length x
      by (pos k) low left p = record { index = k; same = refl; below = omega (arith, ints); comes = p }
      by (negsuc k) low left p = absurd (omega (arith, ints))

  -- an access, and what goes on behind it
  pub record Inside (facts : List Fact) (n : ℕ) (tree : Tree E) (go : State E → Tree E) (news : List ℤ) (variables : Owns) (stored : Bool) (a : Array) (x : ℤ) : Type 0 where
    pub index : ℕ
    pub same : x ≡ pos index
    pub below : index < extent (setup c) a
    pub seen : Seen c (accesses facts n tree) stored a index
    pub comes : Comes c launch facts n tree (λ (u : Unit {0}) st. go st) news variables (λ more u. Unit {0})

  pub inside : (stored : Bool) (a : Array) (site : Site) {facts : List Fact} {n : ℕ} {news : List ℤ} (f : Fact) (x : ℤ) (st : State E) (go : State E → Tree E) → c.spaces a.space ≡ true → IsForm c news f x → Stands c launch facts n (access (walks c) stored a site f st go) news (keeping st) → Inside facts n (access (walks c) stored a site f st go) go news (owns st) stored a x
  inside stored a site {facts = facts} {n = n} {news = news} f x st go there m s =
      let at = at_site site st in
      let long : Fact = minus (length_form (walks c) a) (constant (pos 1)) in
      let high : Fact = minus long f in
      let room = pos (extent (setup c) a) in
      let touch : State E → Tree E = λ st'. Touch (target_at stored a site st') f st'.held (go st') in
      let s1 = past_claim c launch s in
      let s2 = past_claim c launch s1 in
      let low : pos 0 ≤ℤ x = told_by c launch OfIndex f x at (λ st'. claim_form (walks c) OfIndex true high st' touch) s m.means in
      let is = form-minus c (length_form (walks c) a) (constant (pos 1)) room (pos 1) (room -ℤ pos 1) (length-means news a) (form_constant c news (pos 1)) (omega (arith, ints)) in
      let left : pos 0 ≤ℤ ((room -ℤ pos 1) -ℤ x) = told_by c launch OfIndex high ((room -ℤ pos 1) -ℤ x) (claimed_once at) touch s1 (form-minus c long f (room -ℤ pos 1) x ((room -ℤ pos 1) -ℤ x) is m (omega (arith, ints))).means in
      let last : State E = claimed_once (claimed_once at) in
      by x low left m (comes_from c launch (way_then c launch (over_claim c launch) (way_then c launch (over_claim c launch) (over_access c launch)))
      (at_once c launch (λ (u : Unit {0}) st'. go st') (λ more u. Unit {0}) tt last tt (past_access c launch s2)))
    where
      by : (x : ℤ) → pos 0 ≤ℤ x → pos 0 ≤ℤ ((pos (extent (setup c) a) -ℤ pos 1) -ℤ x) → IsForm c news f x → Comes c launch facts n (access (walks c) stored a site f st go) (λ (u : Unit {0}) st'. go st') news (owns st) (λ more u. Unit {0}) → Inside facts n (access (walks c) stored a site f st go) go news (owns st) stored a x
      by (pos k) low left m p =
          let below : k < extent (setup c) a = omega (arith, ints) in
          record {
            index = k;
            same = refl;
            below = below;
            seen = record {
              node = record { target = target_at stored a site (claimed_once (claimed_once (at_site site st))); index = f; held = st.held; facts = facts };
              news = news;
              known = s.known;
              fit = fits_itself c news st.held s.fit;
              index = m.means;
              store = refl;
              array = refl;
              space = there;
              inside = below;
              here = inl refl;
            };
            comes = p;
          }
      by (negsuc k) low left m p = absurd (omega (arith, ints))

  -- a load, of which an answer that there is is a number that the array may hold
  pub load_sound : (answers : List Word) (a : Array) (site : Site) {facts : List Fact} {n : ℕ} {news : List ℤ} (f : Fact) (x : ℤ) (st : State E) (go : Onward E) → c.spaces a.space ≡ true → IsForm c news f x → FirstHeld (setup c) c.conditions.contents a answers → Stands c launch facts n (load (walks c) a site f st go) news (keeping st) → Goes c launch facts n (load (walks c) a site f st go) go news (owns st) (λ w more v. IsValue c more w v) (loaded (setup c) a site x answers)
  load_sound [] a site f x st go there m held s =
      let i = inside false a site f x st (λ st'. element (walks c) a st' go) there m s in
      asks a i.index site (ap (λ p. asked a p site) (within-at (extent (setup c) a) i.index x i.same i.below)) i.seen
  load_sound (w ∷ answers) a site f x st go there m held s =
      let next : State E → Tree E = λ st'. element (walks c) a st' go in
      let i = inside false a site f x st next there m s in
      let k = array_kind (walks c) a in
      let z = as_kind k w.value in
      let is : element_kind (setup c) a ≡ k = kind-is a.space a.number in
      let may : HoldsOf (setup c) c.conditions.contents a.space a.number z = subst (λ j. HoldsOf (setup c) c.conditions.contents a.space a.number (as_kind j w.value)) is held in
      gives (word k z) answers (ap (λ j. Gives (word j (as_kind j w.value)) answers) is) (as_kind-in_kind k w.value) (onward c launch i.comes (element_sound c launch a i.comes.state go z (as_kind-in_kind k w.value) may i.comes.stands))
