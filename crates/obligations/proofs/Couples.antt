-- Two items of a launch, and the numbers of both: the facts of the launch, of each, of their group and of what is alike hold.
use Rattle.std.proofs.Common.{◌≡◌, ℕ, ◌<◌, Bool, true, false, List, [], ◌∷◌, sym, ap, ◌∙◌}
use Rattle.std.specs.Prelude.{ℤ, pos}
use Rattle.std.specs.List.{All}
use Rattle.std.proofs.lemmas.List.Elements.{All-append, All-nil}
use Rattle.semantics.specs.Word.{Word}
use Rattle.semantics.specs.Setup.{along, group_of, item_count, place}
use Rattle.linear.specs.Linear.{value_of, IsMet}
use Rattle.linear.proofs.Relabelling.{relabelled-multiplicative}
use Rattle.facts.specs.Symbols as symbols
use Rattle.facts.specs.Symbols.{First, Second, Symbol, ArgumentOf, Length, Local, Group, New, Variable, AtAnchor, Turns, number, symbol_of, Fact, once, equals}
use Rattle.facts.specs.Launching.{each_dimension, launch_facts}
use Rattle.facts.proofs.Values.{value-once, met_equals}
use Rattle.facts.proofs.Members.{by_number, by_number-multiplicative, numbered}
use Rattle.facts.proofs.Worlds.{Walked, Root, setup_of, View, meaning, Agrees, Means, Knows, variable_at}
use Rattle.facts.proofs.Launched.{each_dimension-all, launch_known}
use Rattle.arrivals.specs.Paths.{Same}
use Rattle.walk_trees.specs.Pairs.{same_group}
use Rattle.walk_trees.specs.Seconds.{shifted, second, second_form, second_forms}
use Rattle.walk_trees.proofs.Seconds.{is_relabelling, second-groups, second-given, second-length, second-local, second-group, second-new, second-variable, second-at_anchor, second-turns, second-value, second-met}
use Rattle.obligations.specs.Meetings.{anchor_symbol, same_facts}
use Rattle.obligations.proofs.Nodes.{at_anchor}

-- each with where its path begins and the numbers of its new symbols
pub record Couple (E : Type 0) : Type 1 where
  pub walked : Walked E
  pub i : ℕ
  pub j : ℕ
  pub first : i < item_count (setup_of walked)
  pub second : j < item_count (setup_of walked)
  pub root : Root
  pub other : Root
  pub news : List ℤ
  pub more : List ℤ

abbrev pub one : {E : Type 0} → Couple E → View E
one c = record { walked = c.walked; item = c.i; place = c.first; root = c.root }

abbrev pub two : {E : Type 0} → Couple E → View E
two c = record { walked = c.walked; item = c.j; place = c.second; root = c.other }

-- by symbols, and by their numbers
abbrev pub meant : {E : Type 0} → Couple E → Symbol → ℤ
meant c = meaning (setup_of c.walked) c.i c.j c.root c.other c.news c.more

abbrev pub numbers : {E : Type 0} → Couple E → ℕ → ℤ
numbers c = by_number (meant c)

abbrev pub second_numbers : {E : Type 0} → Couple E → ℕ → ℤ
second_numbers c n = numbers c (second n)

module _ {E : Type 0} (c : Couple E) where
  abbrev m : Symbol → ℤ
  m = meant c

  abbrev v : ℕ → ℤ
  v = numbers c

  pub first-agrees : Agrees (one c) c.news v
  first-agrees = record {
    products = by_number-multiplicative m;
    groups = λ d. numbered m (symbols.Groups d);
    given = λ n. numbered m (ArgumentOf n);
    lengths = λ n. numbered m (Length n);
    local = λ d. numbered m (Local First d);
    group = λ d. numbered m (Group First d);
    variable = λ x. numbered m (Variable First x);
    at_anchor = λ x. numbered m (AtAnchor First x);
    turns = λ k. numbered m (Turns First k);
    new = λ k h. numbered m (New First k);
  }

  copy-is : (r : ℕ) (a : Symbol) → second r ≡ number a → v (second r) ≡ m a
  copy-is r a k = ap v k ∙ numbered m a

  pub second-agrees : Agrees (two c) c.more (second_numbers c)
  second-agrees = record {
    products = relabelled-multiplicative shifted is_relabelling (λ n. m (symbol_of n));
    groups = λ d. copy-is (number (symbols.Groups d)) (symbols.Groups d) (second-groups d);
    given = λ n. copy-is (number (ArgumentOf n)) (ArgumentOf n) (second-given n);
    lengths = λ n. copy-is (number (Length n)) (Length n) (second-length n);
    local = λ d. copy-is (number (Local First d)) (Local Second d) (second-local d);
    group = λ d. copy-is (number (Group First d)) (Group Second d) (second-group d);
    variable = λ x. copy-is (number (Variable First x)) (Variable Second x) (second-variable x);
    at_anchor = λ x. copy-is (number (AtAnchor First x)) (AtAnchor Second x) (second-at_anchor x);
    turns = λ k. copy-is (number (Turns First k)) (Turns Second k) (second-turns k);
    new = λ k h. copy-is (number (New First k)) (New Second k) (second-new k);
  }

  -- a form of the second item has its value as a copy
  pub copy-means : (f : Fact) (z : ℤ) → Means (two c) c.more f z → value_of v (second_form f) ≡ z
  copy-means f z h = second-value v f ∙ h (second_numbers c) second-agrees

  pub copies-met : (fs : List Fact) → Knows (two c) c.more fs → All (IsMet v) (second_forms fs)
  copies-met fs h = second-met v fs (h (second_numbers c) second-agrees)

  pub launch-met : All (IsMet v) (launch_facts c.walked.conditions)
  launch-met = launch_known (one c) c.news v first-agrees

  -- items of one group have the same group ids
  pub group-met : group_of (setup_of c.walked) c.i ≡ group_of (setup_of c.walked) c.j → All (IsMet v) (each_dimension same_group)
  group-met g = each_dimension-all (IsMet v) same_group (λ d l. met_equals v (once (Group First d)) (once (Group Second d))
      (value-once v (Group First d) ∙ numbered m (Group First d) ∙ ap (λ a. pos (along (place c.walked.launch.groups a) d 0)) g ∙ sym (value-once v (Group Second d) ∙ numbered m (Group Second d))))

  anchor-first : (h : Bool) (x : ℕ) → value_of v (once (anchor_symbol h First x)) ≡ variable_at (at_anchor h c.root) x
  anchor-first false x = value-once v (Variable First x) ∙ numbered m (Variable First x)
  anchor-first true x = value-once v (AtAnchor First x) ∙ numbered m (AtAnchor First x)

  anchor-second : (h : Bool) (x : ℕ) → value_of v (once (anchor_symbol h Second x)) ≡ variable_at (at_anchor h c.other) x
  anchor-second false x = value-once v (Variable Second x) ∙ numbered m (Variable Second x)
  anchor-second true x = value-once v (AtAnchor Second x) ∙ numbered m (AtAnchor Second x)

  -- what is alike at their anchor has the same values
  pub same-met : (h k : Bool) (xs : List ℕ) → Same xs (at_anchor h c.root) (at_anchor k c.other) → All (IsMet v) (same_facts h k xs)
  same-met h k [] e = All-nil (IsMet v)
  same-met h k (x ∷ xs) e =
      let f = once (anchor_symbol h First x) in
      let g = once (anchor_symbol k Second x) in
      All-append (IsMet v) (equals f g) (same_facts h k xs) (met_equals v f g (anchor-first h x ∙ ap (λ (a : Word). a.value) e.0 ∙ sym (anchor-second k x))) (same-met h k xs e.1)
