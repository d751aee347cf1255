-- Two items at accesses of one element, one of them a store, contradict what is shown of the pair.
use Rattle.std.proofs.Common.{◌≡◌, ◌≢◌, ℕ, ◌<◌, Bool, true, false, ◌&&◌, ◌||◌, nat_eq, List, map, Option, Some, None, refl, sym, subst, ◌∙◌, inl, inr, eq-eqb}
use Rattle.std.specs.Prelude.{◌⊎◌}
use Rattle.std.specs.List.{All}
use Rattle.std.proofs.lemmas.Bool.{and_from}
use Rattle.semantics.specs.Word.{Word}
use Rattle.semantics.specs.Core.{Space, Global, Local, Array}
use Rattle.semantics.specs.Setup.{Setup, group_of, item_count}
use Rattle.facts.specs.Launching.{launch_facts, known}
use Rattle.facts.proofs.Worlds.{Walked, Root, setup_of}
use Rattle.arrivals.specs.Paths.{Same}
use Rattle.arrivals.proofs.Meetings.{same-sym}
use Rattle.walk_trees.specs.Trees.{Target, Access, Obligation}
use Rattle.walk_trees.specs.Pairs.{Scope, Within, Across}
use Rattle.walk_trees.specs.Shown.{IsShownWithProducts}
use Rattle.walk_trees.proofs.Each.{Each, each-all, each-map, each-where}
use Rattle.walk_trees.proofs.Distinct.{locals-differ, groups-differ}
use Rattle.obligations.specs.Notes.{Notes}
use Rattle.obligations.specs.Listing.{Of}
use Rattle.obligations.specs.Meetings.{same_anchor, same_at}
use Rattle.obligations.specs.Crossings.{Crossing, crossing_obligation, all_orders, is_space, is_array, conflict, may_meet, is_fenced, crossings}
use Rattle.obligations.proofs.Nodes.{Made, at_anchor}
use Rattle.obligations.proofs.Couples.{Couple}
use Rattle.obligations.proofs.CrossingLists.{IsOf, Crossed, within-has, across-has}
use Rattle.obligations.proofs.Orders.{Twin, within-fail, across-fail}

pub same_anchor-itself : (a : Option ℕ) → same_anchor a a ≡ true
same_anchor-itself None = refl
same_anchor-itself (Some n) = eq-eqb n n refl

pub same_anchor-equal : (a b : Option ℕ) → a ≡ b → same_anchor a b ≡ true
same_anchor-equal a b e = subst (λ c. same_anchor a c ≡ true) e (same_anchor-itself a)

-- what is alike at an anchor, where the anchor and who begins at a loop are named otherwise
pub alike-moved : (n : Notes) (at : Bool → List Word) (at' : Bool → List Word) (a b : Option ℕ) (h h' k k' : Bool) → a ≡ b → h ≡ h' → k ≡ k' → Same (same_at n b) (at h') (at' k') → Same (same_at n a) (at h) (at' k)
alike-moved n at at' a b h h' k k' e f g s = subst (λ c. Same (same_at n c) (at h) (at' k)) (sym e) (subst (λ c. Same (same_at n b) (at c) (at' k)) (sym f) (subst (λ c. Same (same_at n b) (at h') (at' c)) (sym g) s))

is_space-itself : (sp : Space) → is_space sp sp ≡ true
is_space-itself Global = refl
is_space-itself Local = refl

is_array-own : (a : Array) (r : Target) → r.array ≡ a → is_array a r ≡ true
is_array-own a r e =
    subst (λ (b : Array). (is_space b.space a.space && nat_eq b.number a.number) ≡ true) (sym e)
    (and_from (is_space a.space a.space) (nat_eq a.number a.number) (is_space-itself a.space) (eq-eqb a.number a.number refl))

one_stored : (a b : Bool) → (a ≡ true) ⊎ (b ≡ true) → (a || b) ≡ true
one_stored true b h = refl
one_stored false true h = refl
one_stored false false (inl e) = e
one_stored false false (inr e) = e

other_way : {t u : Bool} → (t ≡ true) ⊎ (u ≡ true) → (u ≡ true) ⊎ (t ≡ true)
other_way (inl h) = inr h
other_way (inr h) = inl h

may-within : (fenced : Bool) (a b : Option ℕ) → (fenced ≡ true → a ≡ b) → may_meet fenced Within a b ≡ true
may-within true a b h = same_anchor-equal a b (h refl)
may-within false a b h = refl

may-across : (fenced : Bool) (a b : Option ℕ) → may_meet fenced Across a b ≡ true
may-across true a b = refl
may-across false a b = refl

-- in the order of the list
module _ {E : Type 0} (w : Walked E) (n : Notes) (i j : ℕ) (hi : i < item_count (setup_of w)) (hj : j < item_count (setup_of w)) (r q : Root) (all : List (Of (Access E))) (a : Array) (x : ℕ) (t u : Bool) (A B : Option ℕ) (h k : Bool) (p : Made (record { walked = w; item = i; place = hi; root = r }) all A h t a x) (o : Made (record { walked = w; item = j; place = hj; root = q }) all B k u a x) (stored : (t ≡ true) ⊎ (u ≡ true)) where
  abbrev s : Setup
  s = setup_of w

  abbrev fenced : Bool
  fenced = is_fenced w.kernel.body a.space

  abbrev couple : Couple E
  couple = record { walked = w; i = i; j = j; first = hi; second = hj; root = r; other = q; news = p.news; more = o.news }

  abbrev twin : Twin couple x
  twin = record { here = p.node; there = o.node; fit = p.fit; other_fit = o.fit; known = p.known; other_known = o.known; index = p.index; other_index = o.index }

  abbrev IsOneShown : Crossing E → Type 0
  IsOneShown c = IsShownWithProducts (crossing_obligation w.domain (known w.domain w.kernel.sizes w.conditions) (launch_facts w.conditions) n c)

  conflicts : conflict a p.node o.node ≡ true
  conflicts =
      let e = is_array-own a p.node.it.target p.array in
      let f = is_array-own a o.node.it.target o.array in
      and_from (is_array a p.node.it.target) (is_array a o.node.it.target && (p.node.it.target.is_store || o.node.it.target.is_store)) e
      (and_from (is_array a o.node.it.target) (p.node.it.target.is_store || o.node.it.target.is_store) f (one_stored p.node.it.target.is_store o.node.it.target.is_store (stored_there stored)))
    where
      stored_there : (t ≡ true) ⊎ (u ≡ true) → (p.node.it.target.is_store ≡ true) ⊎ (o.node.it.target.is_store ≡ true)
      stored_there (inl e) = inl (p.store ∙ e)
      stored_there (inr e) = inr (o.store ∙ e)

  orders : (sc : Scope) → may_meet fenced sc p.node.anchor o.node.anchor ≡ true → Crossed IsOneShown w.kernel.sizes w.conditions fenced a sc p.node o.node → Each IsOneShown (all_orders w.kernel.sizes w.conditions sc fenced p.node o.node)
  orders sc e l = each-where IsOneShown (conflict a p.node o.node && may_meet fenced sc p.node.anchor o.node.anchor) (all_orders w.kernel.sizes w.conditions sc fenced p.node o.node) (and_from (conflict a p.node o.node) (may_meet fenced sc p.node.anchor o.node.anchor) conflicts e) l

  within-listed : i ≢ j → group_of s i ≡ group_of s j → (fenced ≡ true → (A ≡ B) × Same (same_at n A) (at_anchor h r) (at_anchor k q)) → Crossed IsOneShown w.kernel.sizes w.conditions fenced a Within p.node o.node → ⊥
  within-listed ne g alike l =
      let d = locals-differ s i j hi hj ne g in
      within-fail couple n x twin fenced g (λ e. alike-moved n (λ b. at_anchor b r) (λ b. at_anchor b q) p.node.anchor A p.node.is_head h o.node.is_head k p.anchor p.head o.head (alike e).1) d.0 d.1 d.2
      (orders Within (may-within fenced p.node.anchor o.node.anchor (λ e. p.anchor ∙ (alike e).0 ∙ sym o.anchor)) l)

  across-listed : group_of s i ≢ group_of s j → Crossed IsOneShown w.kernel.sizes w.conditions fenced a Across p.node o.node → ⊥
  across-listed ne l =
      let d = groups-differ s i j hi hj ne in
      across-fail couple n x twin fenced d.0 d.1 d.2 (orders Across (may-across fenced p.node.anchor o.node.anchor) l)

module _ {E : Type 0} (w : Walked E) (n : Notes) (i j : ℕ) (hi : i < item_count (setup_of w)) (hj : j < item_count (setup_of w)) (r q : Root) (all : List (Of (Access E))) (shown : All IsShownWithProducts (map (crossing_obligation w.domain (known w.domain w.kernel.sizes w.conditions) (launch_facts w.conditions) n) (crossings w.kernel w.conditions all))) (a : Array) (x : ℕ) where
  abbrev make : Crossing E → Obligation
  make = crossing_obligation w.domain (known w.domain w.kernel.sizes w.conditions) (launch_facts w.conditions) n

  each : Each (λ c. IsShownWithProducts (make c)) (crossings w.kernel w.conditions all)
  each = each-map IsShownWithProducts make (crossings w.kernel w.conditions all) (each-all IsShownWithProducts (map make (crossings w.kernel w.conditions all)) shown)

  -- two items of one group; where every barrier fences the array's space, in one visit of one anchor
  pub not-within : IsOf w.kernel a → (t u : Bool) (A B : Option ℕ) (h k : Bool) → Made (record { walked = w; item = i; place = hi; root = r }) all A h t a x → Made (record { walked = w; item = j; place = hj; root = q }) all B k u a x → (t ≡ true) ⊎ (u ≡ true) → i ≢ j → group_of (setup_of w) i ≡ group_of (setup_of w) j → (is_fenced w.kernel.body a.space ≡ true → (A ≡ B) × Same (same_at n A) (at_anchor h r) (at_anchor k q)) → ⊥
  not-within is t u A B h k p o stored ne g alike = elim (within-has (λ c. IsShownWithProducts (make c)) w.kernel w.conditions all each a is p.node o.node p.here o.here) [
    | inl l ↦ within-listed w n i j hi hj r q all a x t u A B h k p o stored ne g alike l
    | inr l ↦ within-listed w n j i hj hi q r all a x u t B A k h o p (other_way stored) (λ e. ne (sym e)) (sym g) back l
  ]
    where
      back : is_fenced w.kernel.body a.space ≡ true → (B ≡ A) × Same (same_at n B) (at_anchor k q) (at_anchor h r)
      back e = (sym (alike e).0, subst (λ b. Same (same_at n b) (at_anchor k q) (at_anchor h r)) (alike e).0 (same-sym (same_at n A) (at_anchor h r) (at_anchor k q) (alike e).1))

  -- two items of two groups, which have buffers in common
  pub not-across : IsOf w.kernel a → (t u : Bool) (A B : Option ℕ) (h k : Bool) → Made (record { walked = w; item = i; place = hi; root = r }) all A h t a x → Made (record { walked = w; item = j; place = hj; root = q }) all B k u a x → (t ≡ true) ⊎ (u ≡ true) → a.space ≡ Global → group_of (setup_of w) i ≢ group_of (setup_of w) j → ⊥
  not-across is t u A B h k p o stored global ne = elim (across-has (λ c. IsShownWithProducts (make c)) w.kernel w.conditions all each a global is p.node o.node p.here o.here) [
    | inl l ↦ across-listed w n i j hi hj r q all a x t u A B h k p o stored ne l
    | inr l ↦ across-listed w n j i hj hi q r all a x u t B A k h o p (other_way stored) (λ e. ne (sym e)) l
  ]
