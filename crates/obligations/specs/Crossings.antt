-- What is to be shown of two accesses: that no two items make them to one element, one of them a store.
use Rattle.std.specs.Prelude.{ℕ, suc, List, [], ◌∷◌, ◌++◌, Bool, true, false, ◌&&◌, ◌||◌, nat_eq, Option, Some, None}
use Rattle.semantics.specs.Core.{Space, Global, Local, Array, Statements}
use Rattle.semantics.specs.Launch.{Three, Kernel}
use Rattle.semantics.specs.Conditions.{Conditions}
use Rattle.domain.specs.declared.Domain.{Ghosts}
use Rattle.facts.specs.Symbols.{First, Second, Fact, once, minus, equals}
use Rattle.facts.specs.Elements.{Known, lacks_zero}
use Rattle.facts.specs.Launching.{each_dimension}
use Rattle.arrivals.specs.Points.{points}
use Rattle.arrivals.specs.Races.{all_fence}
use Rattle.walk_trees.specs.Held.{element_with}
use Rattle.walk_trees.specs.Trees.{OfPair, Target, Access, Obligation}
use Rattle.walk_trees.specs.Pairs.{Scope, Within, Across, Order, Below, Above, id, order_fact, same_group, differs, where_so}
use Rattle.walk_trees.specs.Seconds.{second_form, second_forms, element_of_two}
use Rattle.obligations.specs.Notes.{Notes}
use Rattle.obligations.specs.Listing.{Of}
use Rattle.obligations.specs.Meetings.{same_anchor, same_at, same_facts}

-- two accesses that an item may make, with what tells that the items differ; `alike` says that they are of one visit of their anchor
pub record Crossing (E : Type 0) : Type 0 where
  pub first : Of (Access E)
  pub second : Of (Access E)
  pub scope : Scope
  pub dimension : ℕ
  pub order : Order
  pub alike : Bool

-- what is known of two items: of one group their group ids are equal, and in one visit of an anchor what is alike there
abbrev pub alike_facts : Notes → Option ℕ → (first second alike : Bool) → List Fact
alike_facts n a u v false = []
alike_facts n a u v true = same_facts u v (same_at n a)

abbrev pub scope_facts : {E : Type 0} → Notes → Scope → Crossing E → List Fact
scope_facts n Within x = each_dimension same_group ++ alike_facts n x.first.anchor x.first.is_head x.second.is_head x.alike
scope_facts n Across x = []

abbrev pub second_index : {E : Type 0} → Crossing E → Fact
second_index x = second_form x.second.it.index

abbrev pub crossing_facts : {E : Type 0} → (launch : List Fact) → Notes → Crossing E → List Fact
crossing_facts launch n x =
    launch ++ (x.first.it.facts ++ (second_forms x.second.it.facts ++ (scope_facts n x.scope x
    ++ (order_fact x.order (once (id x.scope First x.dimension)) (once (id x.scope Second x.dimension)) ∷ equals x.first.it.index (second_index x)))))

-- the domain alone tells that the indexes differ
abbrev pub is_apart : {E : Type 0} → Ghosts E → Known E → Crossing E → Bool
is_apart g k x = lacks_zero g (element_with g (element_of_two g k x.first.it.held x.second.it.held) (minus x.first.it.index (second_index x)))

abbrev pub crossing_obligation : {E : Type 0} → Ghosts E → Known E → (launch : List Fact) → Notes → Crossing E → Obligation
crossing_obligation g k launch n x = record { sort = OfPair; spot = x.first.it.target.spot; other = Some x.second.it.target.spot; needed = true; settled = is_apart g k x; facts = crossing_facts launch n x; goal = None }

abbrev pub two_orders : {E : Type 0} → Bool → Of (Access E) → Of (Access E) → Scope → Bool → ℕ → List (Crossing E)
two_orders true u v s alike d = record { first = u; second = v; scope = s; dimension = d; order = Below; alike = alike } ∷ record { first = u; second = v; scope = s; dimension = d; order = Above; alike = alike } ∷ []
two_orders false u v s alike d = []

abbrev pub all_orders : {E : Type 0} → Three ℕ → Conditions → Scope → Bool → Of (Access E) → Of (Access E) → List (Crossing E)
all_orders sizes c s alike u v = each_dimension (λ d. two_orders (differs sizes c s d) u v s alike d)

abbrev pub is_space : Space → Space → Bool
is_space Global Global = true
is_space Global Local = false
is_space Local Global = false
is_space Local Local = true

abbrev pub is_array : Array → Target → Bool
is_array a t = is_space t.array.space a.space && nat_eq t.array.number a.number

-- both of this array, and at least one a store
abbrev pub conflict : {E : Type 0} → Array → Of (Access E) → Of (Access E) → Bool
conflict a u v = is_array a u.it.target && (is_array a v.it.target && (u.it.target.is_store || v.it.target.is_store))

-- two items of a group are in one visit of one anchor where every barrier fences the space; else they may be anywhere. Two groups share
-- nothing of an anchor
abbrev pub may_meet : (fenced : Bool) → Scope → Option ℕ → Option ℕ → Bool
may_meet true Within a b = same_anchor a b
may_meet true Across a b = true
may_meet false s a b = true

abbrev pub with_one : {E : Type 0} → Three ℕ → Conditions → (fenced : Bool) → Array → Scope → Of (Access E) → Of (Access E) → List (Crossing E)
with_one sizes c fenced a s u v = where_so (conflict a u v && may_meet fenced s u.anchor v.anchor) (all_orders sizes c s fenced u v)

abbrev pub with_each : {E : Type 0} → Three ℕ → Conditions → (fenced : Bool) → Array → Scope → Of (Access E) → List (Of (Access E)) → List (Crossing E)
with_each sizes c fenced a s u [] = []
with_each sizes c fenced a s u (v ∷ vs) = with_one sizes c fenced a s u v ++ with_each sizes c fenced a s u vs

-- each access with itself and those behind it
abbrev pub crossings_in : {E : Type 0} → Three ℕ → Conditions → (fenced : Bool) → Array → Scope → List (Of (Access E)) → List (Crossing E)
crossings_in sizes c fenced a s [] = []
crossings_in sizes c fenced a s (u ∷ us) = with_each sizes c fenced a s u (u ∷ us) ++ crossings_in sizes c fenced a s us

abbrev pub array : Space → ℕ → Array
array sp n = record { space = sp; number = n }

-- a group's local array is its own
abbrev pub crossings_of : {E : Type 0} → Three ℕ → Conditions → (fenced : Space → Bool) → List (Of (Access E)) → Space → ℕ → List (Crossing E)
crossings_of sizes c fenced us Global n = crossings_in sizes c (fenced Global) (array Global n) Within us ++ crossings_in sizes c (fenced Global) (array Global n) Across us
crossings_of sizes c fenced us Local n = crossings_in sizes c (fenced Local) (array Local n) Within us

-- array by array, from a number on
abbrev pub crossings_from : {E A : Type 0} → Three ℕ → Conditions → (fenced : Space → Bool) → List (Of (Access E)) → Space → ℕ → List A → List (Crossing E)
crossings_from sizes c fenced us sp n [] = []
crossings_from sizes c fenced us sp n (a ∷ as') = crossings_of sizes c fenced us sp n ++ crossings_from sizes c fenced us sp (suc n) as'

-- every barrier of the kernel fences the space
abbrev pub is_fenced : Statements → Space → Bool
is_fenced body sp = all_fence sp (points body [])

-- buffers, then local arrays
abbrev pub crossings : {E : Type 0} → Kernel → Conditions → List (Of (Access E)) → List (Crossing E)
crossings k c us = crossings_from k.sizes c (is_fenced k.body) us Global 0 k.buffers ++ crossings_from k.sizes c (is_fenced k.body) us Local 0 k.arrays
