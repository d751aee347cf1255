-- Two items that differ in an id, and two nodes whose facts hold of them with one index: what is shown of their crossings is not so.
use Rattle.std.proofs.Common.{◌≡◌, ◌≢◌, ℕ, ◌<◌, Bool, true, false, List, [], ◌∷◌, ◌++◌, None, arith, refl, sym, subst, ◌∙◌, inl, inr, lt-ltb}
use Rattle.std.specs.Prelude.{ℤ, pos, ◌<ℤ◌}
use Rattle.std.specs.List.{All}
use Rattle.std.proofs.lemmas.Int.{ints, by_lt_z}
use Rattle.std.proofs.lemmas.List.Elements.{All-append, All-cons, All-nil}
use Rattle.semantics.specs.Setup.{Setup, along, group_of, local_id, group_id}
use Rattle.linear.specs.Linear.{value_of, IsMet}
use Rattle.linear.specs.Products.{IsMultiplicative}
use Rattle.facts.proofs.Members.{by_number-multiplicative, numbered, zero_lacks}
use Rattle.facts.specs.Symbols.{First, Second, Symbol, Local, Group, number, Fact, constant, once, minus, equals}
use Rattle.facts.specs.Launching.{each_dimension, launch_facts, known, count_range}
use Rattle.facts.proofs.Integers.{lt_true}
use Rattle.facts.proofs.Values.{value-minus, value-constant, value-once, met_equals}
use Rattle.facts.proofs.Worlds.{setup_of, Means, Knows}
use Rattle.facts.proofs.Launched.{local-below, group_id-below, count_in}
use Rattle.arrivals.specs.Paths.{Same}
use Rattle.walk_trees.specs.Held.{element_with}
use Rattle.walk_trees.specs.Trees.{Access, Manner, Plainly, ByPositive, ByNegative, ByQuotient, added, with_facts}
use Rattle.walk_trees.specs.Tests.{below}
use Rattle.walk_trees.specs.Seconds.{second_form, second_forms, element_of_two}
use Rattle.walk_trees.specs.Pairs.{Scope, Within, Across, Order, Below, Above, id, order_fact, same_group, differs}
use Rattle.walk_trees.specs.Shown.{IsShownWithProducts, IsRefutedWithProducts}
use Rattle.walk_trees.proofs.Each.{Each, each-dimension}
use Rattle.walk_trees.proofs.Made.{IsFit}
use Rattle.walk_trees.proofs.TwoElements.{two-has}
use Rattle.obligations.specs.Notes.{Notes}
use Rattle.obligations.specs.Listing.{Of}
use Rattle.obligations.specs.Meetings.{same_at}
use Rattle.obligations.specs.Crossings.{Crossing, alike_facts, scope_facts, crossing_facts, is_apart, crossing_obligation, two_orders, all_orders}
use Rattle.obligations.proofs.Nodes.{at_anchor}
use Rattle.obligations.proofs.Couples.{Couple, one, two, meant, numbers, first-agrees, copy-means, copies-met, launch-met, group-met, same-met}

-- facts that hold refute nothing that has no goal
pub refuted : (v : ℕ → ℤ) → IsMultiplicative v → (facts : List Fact) → All (IsMet v) facts → (o : Manner) → IsRefutedWithProducts (with_facts facts (added o None)) → ⊥
refuted v products facts h Plainly e = e v products (All-append (IsMet v) facts [] h (All-nil (IsMet v)))
refuted v products facts h ByPositive e = e
refuted v products facts h ByNegative e = e
refuted v products facts h ByQuotient e = e

below-met : (v : ℕ → ℤ) (s r : Symbol) → v (number s) <ℤ v (number r) → IsMet v (below (once s) (once r))
below-met v s r h = omega (arith, ints, h, value-minus v (minus (once r) (once s)) (constant (pos 1)), value-minus v (once r) (once s), value-constant v (pos 1), value-once v s, value-once v r)

-- two nodes of the items, with an index that both have
pub record Twin {E : Type 0} (c : Couple E) (x : ℕ) : Type 0 where
  pub here : Of (Access E)
  pub there : Of (Access E)
  pub fit : IsFit (one c) c.news here.it.held
  pub other_fit : IsFit (two c) c.more there.it.held
  pub known : Knows (one c) c.news here.it.facts
  pub other_known : Knows (two c) c.more there.it.facts
  pub index : Means (one c) c.news here.it.index (pos x)
  pub other_index : Means (two c) c.more there.it.index (pos x)

module _ {E : Type 0} (c : Couple E) (n : Notes) (x : ℕ) (t : Twin c x) where
  abbrev s : Setup
  s = setup_of c.walked

  abbrev m : Symbol → ℤ
  m = meant c

  abbrev v : ℕ → ℤ
  v = numbers c

  -- in one visit of their anchor what is alike there is so
  abbrev pub AreAlike : Bool → Type 0
  AreAlike alike = alike ≡ true → Same (same_at n t.here.anchor) (at_anchor t.here.is_head c.root) (at_anchor t.there.is_head c.other)

  abbrev crossing : Scope → Bool → ℕ → Order → Crossing E
  crossing sc alike d o = record { first = t.here; second = t.there; scope = sc; dimension = d; order = o; alike = alike }

  abbrev copy : Fact
  copy = second_form t.there.it.index

  first-index : value_of v t.here.it.index ≡ pos x
  first-index = t.index v (first-agrees c)

  copy-index : value_of v copy ≡ pos x
  copy-index = copy-means c t.there.it.index (pos x) t.other_index

  alike-met : (alike : Bool) → AreAlike alike → All (IsMet v) (alike_facts n t.here.anchor t.here.is_head t.there.is_head alike)
  alike-met false h = All-nil (IsMet v)
  alike-met true h = same-met c t.here.is_head t.there.is_head (same_at n t.here.anchor) (h refl)

  within-met : (alike : Bool) (d : ℕ) (o : Order) → group_of s c.i ≡ group_of s c.j → AreAlike alike → All (IsMet v) (scope_facts n Within (crossing Within alike d o))
  within-met alike d o g h = All-append (IsMet v) (each_dimension same_group) (alike_facts n t.here.anchor t.here.is_head t.there.is_head alike) (group-met c g) (alike-met alike h)

  -- the facts of the crossing hold
  crossing-met : (sc : Scope) (alike : Bool) (d : ℕ) (o : Order) → All (IsMet v) (scope_facts n sc (crossing sc alike d o)) → IsMet v (order_fact o (once (id sc First d)) (once (id sc Second d))) → All (IsMet v) (crossing_facts (launch_facts c.walked.conditions) n (crossing sc alike d o))
  crossing-met sc alike d o hs ho =
      let launch = launch_facts c.walked.conditions in
      let first = t.here.it.facts in
      let second = second_forms t.there.it.facts in
      let scope = scope_facts n sc (crossing sc alike d o) in
      let order = order_fact o (once (id sc First d)) (once (id sc Second d)) in
      let same = equals t.here.it.index copy in
      All-append (IsMet v) launch (first ++ (second ++ (scope ++ (order ∷ same)))) (launch-met c)
      (All-append (IsMet v) first (second ++ (scope ++ (order ∷ same))) (t.known v (first-agrees c))
      (All-append (IsMet v) second (scope ++ (order ∷ same)) (copies-met c t.there.it.facts t.other_known)
      (All-append (IsMet v) scope (order ∷ same) hs (All-cons (IsMet v) order same ho (met_equals v t.here.it.index copy (first-index ∙ sym copy-index))))))

  not-apart : (sc : Scope) (alike : Bool) (d : ℕ) (o : Order) → is_apart c.walked.domain (known c.walked.domain c.walked.kernel.sizes c.walked.conditions) (crossing sc alike d o) ≡ true → ⊥
  not-apart sc alike d o h =
      let w = c.walked in
      let f = minus t.here.it.index copy in
      let e = element_with w.domain (element_of_two w.domain (known w.domain w.kernel.sizes w.conditions) t.here.it.held t.there.it.held) f in
      let z : value_of v f ≡ pos 0 = omega (arith, ints, value-minus v t.here.it.index copy, first-index, copy-index) in
      zero_lacks w.domain w.lawful e h (subst (λ y. w.domain.has e y ≡ true) z (two-has w c.i c.j c.first c.second c.root c.other t.here.it.held t.there.it.held c.news c.more t.fit t.other_fit f))

  abbrev pub IsCrossingShown : Crossing E → Type 0
  IsCrossingShown r = IsShownWithProducts (crossing_obligation c.walked.domain (known c.walked.domain c.walked.kernel.sizes c.walked.conditions) (launch_facts c.walked.conditions) n r)

  fails : (sc : Scope) (alike : Bool) (d : ℕ) (o : Order) → IsCrossingShown (crossing sc alike d o) → All (IsMet v) (scope_facts n sc (crossing sc alike d o)) → IsMet v (order_fact o (once (id sc First d)) (once (id sc Second d))) → ⊥
  fails sc alike d o h hs ho = elim (h refl) [ inl e ↦ not-apart sc alike d o e | inr e ↦ refuted v (by_number-multiplicative m) (crossing_facts (launch_facts c.walked.conditions) n (crossing sc alike d o)) (crossing-met sc alike d o hs ho) e.0 e.1 ]

  two-fail : (sc : Scope) (alike : Bool) (d : ℕ) (k : Bool) → k ≡ true → Each IsCrossingShown (two_orders k t.here t.there sc alike d) → ((o : Order) → All (IsMet v) (scope_facts n sc (crossing sc alike d o))) → v (number (id sc First d)) ≢ v (number (id sc Second d)) → ⊥
  two-fail sc alike d false e h hs ne = cc
  two-fail sc alike d true e h hs ne =
      let f = id sc First d in
      let g = id sc Second d in
      by_lt_z (v (number f)) (v (number g))
      (λ l. fails sc alike d Below h.0 (hs Below) (below-met v f g l))
      (λ l. fails sc alike d Above h.1.0 (hs Above) (below-met v g f (omega (arith, ints, l, ne))))

  orders-fail : (sc : Scope) (alike : Bool) (d : ℕ) → d < 3 → differs c.walked.kernel.sizes c.walked.conditions sc d ≡ true → Each IsCrossingShown (all_orders c.walked.kernel.sizes c.walked.conditions sc alike t.here t.there) → ((o : Order) → All (IsMet v) (scope_facts n sc (crossing sc alike d o))) → v (number (id sc First d)) ≢ v (number (id sc Second d)) → ⊥
  orders-fail sc alike d l k h hs ne =
      two-fail sc alike d (differs c.walked.kernel.sizes c.walked.conditions sc d) k (each-dimension IsCrossingShown (λ d. two_orders (differs c.walked.kernel.sizes c.walked.conditions sc d) t.here t.there sc alike d) d l h) hs ne

  -- of one group, with a local id that differs
  pub within-fail : (alike : Bool) → group_of s c.i ≡ group_of s c.j → AreAlike alike → (d : ℕ) → d < 3 → local_id s c.i d ≢ local_id s c.j d → Each IsCrossingShown (all_orders c.walked.kernel.sizes c.walked.conditions Within alike t.here t.there) → ⊥
  within-fail alike g same d l ne h =
      let li = local-below s c.i c.first d l in
      let lj = local-below s c.j c.second d l in
      let first = numbered m (Local First d) in
      let second = numbered m (Local Second d) in
      orders-fail Within alike d l (lt-ltb 1 (along c.walked.kernel.sizes d 1) (omega (arith, li, lj, ne))) h (λ o. within-met alike d o g same)
      (λ e. ne (let f : pos (local_id s c.i d) ≡ pos (local_id s c.j d) = sym first ∙ e ∙ second in omega (arith, ints, f)))

  -- of two groups, with a group id that differs
  pub across-fail : (alike : Bool) (d : ℕ) → d < 3 → group_id s c.i d ≢ group_id s c.j d → Each IsCrossingShown (all_orders c.walked.kernel.sizes c.walked.conditions Across alike t.here t.there) → ⊥
  across-fail alike d l ne h =
      let gi = group_id-below s c.i c.first d l in
      let gj = group_id-below s c.j c.second d l in
      let most = (count_in c.walked.conditions c.walked.launch c.walked.meets d l).1 in
      let first = numbered m (Group First d) in
      let second = numbered m (Group Second d) in
      orders-fail Across alike d l (lt_true (pos 1) (count_range c.walked.conditions d).high (omega (arith, ints, gi, gj, ne, most))) h (λ o. All-nil (IsMet v))
      (λ e. ne (let f : pos (group_id s c.i d) ≡ pos (group_id s c.j d) = sym first ∙ e ∙ second in omega (arith, ints, f)))
