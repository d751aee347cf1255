-- Two items of a group, alike at their anchor, and two ends whose facts hold of them: what is shown of both ends is so.
use Rattle.std.proofs.Common.{◌≡◌, ℕ, true, List, [], ◌∷◌, ◌++◌, Option, Some, None, slice_index_or, arith, refl, inl, inr}
use Rattle.std.specs.Prelude.{ℤ, pos, ◌≤ℤ◌}
use Rattle.std.specs.List.{All}
use Rattle.std.proofs.lemmas.Int.{ints}
use Rattle.std.proofs.lemmas.Bool.{and_parts}
use Rattle.std.proofs.lemmas.List.Elements.{All-append, All-nil}
use Rattle.semantics.specs.Word.{Word, zero_word}
use Rattle.semantics.specs.Setup.{group_of}
use Rattle.linear.specs.Linear.{value_of, IsMet}
use Rattle.domain.specs.Members.{is_above, is_below}
use Rattle.linear.specs.Products.{IsMultiplicative}
use Rattle.facts.proofs.Members.{by_number-multiplicative}
use Rattle.facts.specs.Symbols.{Fact, minus}
use Rattle.facts.specs.Elements.{Known, is_from_zero}
use Rattle.facts.specs.Launching.{each_dimension, launch_facts, known}
use Rattle.facts.proofs.Integers.{le_test}
use Rattle.facts.proofs.Values.{value-minus, claimed}
use Rattle.facts.proofs.Worlds.{setup_of, Means, Knows, variable_at}
use Rattle.arrivals.specs.Paths.{Same}
use Rattle.arrivals.specs.Shown.{Owed, Nothing, Agreement, Never}
use Rattle.walk_trees.specs.Held.{element_with}
use Rattle.walk_trees.specs.Trees.{AtLeastZero, Ended, Manner, Plainly, ByPositive, ByNegative, ByQuotient, added, with_facts}
use Rattle.walk_trees.specs.Seconds.{second_forms, element_of_two}
use Rattle.walk_trees.specs.Pairs.{same_group}
use Rattle.walk_trees.specs.Shown.{IsShownWithProducts, IsRefutedWithProducts}
use Rattle.walk_trees.proofs.Each.{Each}
use Rattle.walk_trees.proofs.Made.{IsFit}
use Rattle.walk_trees.proofs.TwoElements.{two-has}
use Rattle.obligations.specs.Notes.{Notes}
use Rattle.obligations.specs.Listing.{Of}
use Rattle.obligations.specs.Meetings.{same_at, same_facts, group_facts, value_form, first_form, other_form, is_settled_of_two, agreement, agreements, owed_obligations}
use Rattle.obligations.proofs.Nodes.{at_anchor}
use Rattle.obligations.proofs.Couples.{meant, Couple, one, two, numbers, first-agrees, copy-means, copies-met, launch-met, group-met, same-met}
use Rattle.obligations.proofs.Orders.{refuted}

-- what is owed of two lists of variables
abbrev pub IsOwed : Notes → (here there : List Word) → Owed → Type 0
IsOwed n here there Nothing = Unit {0}
IsOwed n here there (Agreement b) = Same (n.same b) here there
IsOwed n here there Never = ⊥

from_zero : (low : Option ℤ) (z : ℤ) → is_from_zero low ≡ true → is_above low z ≡ true → pos 0 ≤ℤ z
from_zero None z h a = cc
from_zero (Some n) z h a = omega (arith, ints, le_test (pos 0) n h, le_test n z a)

-- a form that is shown by its facts is at least 0
by_facts : (v : ℕ → ℤ) → IsMultiplicative v → (facts : List Fact) (f : Fact) (o : Manner) → All (IsMet v) facts → IsRefutedWithProducts (with_facts facts (added o (Some (AtLeastZero f)))) → pos 0 ≤ℤ value_of v f
by_facts v products facts f Plainly h e = claimed v products [] facts f e (All-nil (IsMet v)) h
by_facts v products facts f ByPositive h e = absurd e
by_facts v products facts f ByNegative h e = absurd e
by_facts v products facts f ByQuotient h e = absurd e

-- two nodes of the items, at which they have come with these variables
pub record Stopped {E : Type 0} (c : Couple E) (vars others : List Word) : Type 0 where
  pub here : Of (Ended E)
  pub there : Of (Ended E)
  pub fit : IsFit (one c) c.news here.it.arrived.held
  pub other_fit : IsFit (two c) c.more there.it.arrived.held
  pub known : Knows (one c) c.news here.it.facts
  pub other_known : Knows (two c) c.more there.it.facts
  pub forms : (x : ℕ) → Means (one c) c.news (value_form here.it.arrived.variables x) (variable_at vars x)
  pub other_forms : (x : ℕ) → Means (two c) c.more (value_form there.it.arrived.variables x) (variable_at others x)

module _ {E : Type 0} (c : Couple E) (n : Notes) (vars others : List Word) (t : Stopped c vars others) (group : group_of (setup_of c.walked) c.i ≡ group_of (setup_of c.walked) c.j) (alike : Same (same_at n t.here.anchor) (at_anchor t.here.is_head c.root) (at_anchor t.there.is_head c.other)) where
  abbrev v : ℕ → ℤ
  v = numbers c

  abbrev k : Known E
  k = known c.walked.domain c.walked.kernel.sizes c.walked.conditions

  abbrev launch : List Fact
  launch = launch_facts c.walked.conditions

  abbrev facts : List Fact
  facts = launch ++ (t.here.it.facts ++ (second_forms t.there.it.facts ++ group_facts n t.here.anchor t.here.is_head t.there.is_head))

  facts-met : All (IsMet v) facts
  facts-met =
      let first = t.here.it.facts in
      let second = second_forms t.there.it.facts in
      let same = same_facts t.here.is_head t.there.is_head (same_at n t.here.anchor) in
      All-append (IsMet v) launch (first ++ (second ++ (each_dimension same_group ++ same))) (launch-met c)
      (All-append (IsMet v) first (second ++ (each_dimension same_group ++ same)) (t.known v (first-agrees c))
      (All-append (IsMet v) second (each_dimension same_group ++ same) (copies-met c t.there.it.facts t.other_known)
      (All-append (IsMet v) (each_dimension same_group) same (group-met c group) (same-met c t.here.is_head t.there.is_head (same_at n t.here.anchor) alike))))

  settled-holds : (f : Fact) → is_settled_of_two c.walked.domain k t.here t.there f ≡ true → pos 0 ≤ℤ value_of v f
  settled-holds f h =
      let w = c.walked in
      let e = element_with w.domain (element_of_two w.domain k t.here.it.arrived.held t.there.it.arrived.held) f in
      let b = w.domain.bounds_of e in
      let z = value_of v f in
      from_zero b.low z h (and_parts (is_above b.low z) (is_below b.high z) (w.lawful.bounds e z (two-has w c.i c.j c.first c.second c.root c.other t.here.it.arrived.held t.there.it.arrived.held c.news c.more t.fit t.other_fit f))).0

  -- of a form of both that is shown
  at-least : (f : Fact) → IsShownWithProducts (agreement c.walked.domain k launch n t.here t.there f) → pos 0 ≤ℤ value_of v f
  at-least f h = elim (h refl) [ inl e ↦ settled-holds f e | inr e ↦ by_facts v (by_number-multiplicative (meant c)) facts f e.0 facts-met e.1 ]

  equal-values : (x : ℕ) → IsShownWithProducts (agreement c.walked.domain k launch n t.here t.there (minus (first_form t.here x) (other_form t.there x))) → IsShownWithProducts (agreement c.walked.domain k launch n t.here t.there (minus (other_form t.there x) (first_form t.here x))) → variable_at vars x ≡ variable_at others x
  equal-values x h h' =
      let f = first_form t.here x in
      let g = other_form t.there x in
      let a : value_of v f ≡ variable_at vars x = t.forms x v (first-agrees c) in
      let b : value_of v g ≡ variable_at others x = copy-means c (value_form t.there.it.arrived.variables x) (variable_at others x) (t.other_forms x) in
      omega (arith, ints, a, b, at-least (minus f g) h, at-least (minus g f) h', value-minus v f g, value-minus v g f)

  same-words : (a b : Word) → a.kind ≡ b.kind → a.value ≡ b.value → a ≡ b
  same-words a b p q = λ i. record { kind = p i; value = q i }

  agree : ((x : ℕ) → (slice_index_or vars x zero_word).kind ≡ (slice_index_or others x zero_word).kind) → (xs : List ℕ) → Each IsShownWithProducts (agreements c.walked.domain k launch n t.here t.there xs) → Same xs vars others
  agree kinds [] h = tt
  agree kinds (x ∷ xs) h = (same-words (slice_index_or vars x zero_word) (slice_index_or others x zero_word) (kinds x) (equal-values x h.0 h.1.0), agree kinds xs h.1.1)

  -- of variables that agree the kinds are to be equal
  pub as-owed : (o : Owed) → ((b : ℕ) → o ≡ Agreement b → (x : ℕ) → (slice_index_or vars x zero_word).kind ≡ (slice_index_or others x zero_word).kind) → Each IsShownWithProducts (owed_obligations c.walked.domain k launch n t.here t.there o) → IsOwed n vars others o
  as-owed Nothing kinds h = tt
  as-owed (Agreement b) kinds h = agree (kinds b refl) (n.same b) h
  as-owed Never kinds h = elim (h.0 refl) [ inl e ↦ cc | inr e ↦ refuted v (by_number-multiplicative (meant c)) facts facts-met e.0 e.1 ]
