-- Ways that are joined: in place of a fork new symbols say how much each of two numbers is more than the other one. One of the two is 0,
-- and so is their product.
use Rattle.std.specs.Prelude.{ℤ, pos, negsuc, List, [], ◌∷◌, ◌++◌, Bool, true, false, ◌&&◌, int_le, Option, Some, None}
use Rattle.semantics.specs.Word.{Kind}
pub use Rattle.semantics.specs.Word.{same_kind}
use Rattle.linear.specs.Exact.{sum, multiple, fits}
use Rattle.domain.specs.declared.Domain.{Ghosts}
use Rattle.facts.specs.Symbols.{Fact, constant, minus, equals}
use Rattle.walk_trees.specs.Trees.{Tree, Know}
use Rattle.walk_trees.specs.Values.{value}
use Rattle.walk_trees.specs.Walks.{Setting, State, Onward, element_of, bounds_of, know_all, invent}
use Rattle.walk_trees.specs.Operators.{small_product}

-- an upper end leaves room for a number
abbrev pub is_open_to : ℤ → (high : Option ℤ) → Bool
is_open_to z None = true
is_open_to z (Some high) = int_le z high

-- the form is of i64, and some numbers of the elements make it at least this one
abbrev pub may_reach : {E : Type 0} → Setting E → ℤ → Fact → State E → Bool
may_reach s z f st = fits f && is_open_to z (bounds_of s st f).high

-- where ways are joined: neither is refuted by the elements. `more` is the difference of two numbers, and `less` the same the other way
-- round
abbrev pub are_joined : {E : Type 0} → Setting E → (least : ℤ) → (more less : Fact) → State E → Bool
are_joined s least more less st = s.joins && (may_reach s (pos 1) more st && may_reach s least less st)

-- a difference where it is above 0, else 0
abbrev pub excess : {E : Type 0} → Setting E → State E → (difference : Fact) → E
excess s st f = s.domain.at_least_of (s.domain.join_of (s.domain.number_of (pos 0)) (element_of s st f)) (pos 0)

-- a product is at most 0, where it is a form
abbrev pub know_product : {E : Type 0} → Option Fact → Tree E → Tree E
know_product None rest = rest
know_product (Some h) rest = Know (multiple (negsuc 0) h) rest

-- two new symbols p and q, how much the first of two numbers is more than the second one, and the second more than the first; behind their
-- bounds the fact `-1*p*q + 0`
abbrev pub invent_excesses : {E : Type 0} → Setting E → (more less : Fact) → State E → ((p q : Fact) → State E → Tree E) → Tree E
invent_excesses s more less st go =
    invent s (excess s st more) st (λ p st1. invent s (excess s st1 less) st1 (λ q st2. know_product (small_product p q) (go p q st2)))

-- the numbers differ: the difference is `p - q`, and `p + q` is at least 1
abbrev pub apart_facts : (more p q : Fact) → List Fact
apart_facts more p q = equals more (minus p q) ++ minus (sum p q) (constant (pos 1)) ∷ []

-- one way on which two numbers differ; it narrows nothing
abbrev pub told_apart : {E : Type 0} → Setting E → (more less : Fact) → State E → (State E → Tree E) → Tree E
told_apart s more less st go = invent_excesses s more less st (λ p q st'. know_all (apart_facts more p q) (go st'))

-- at most an upper end, and at least a lower one
abbrev pub under_end : {E : Type 0} → Ghosts E → (high : Option ℤ) → E → E
under_end g None e = e
under_end g (Some high) e = g.at_most_of e high

abbrev pub over_end : {E : Type 0} → Ghosts E → (low : Option ℤ) → E → E
over_end g None e = e
over_end g (Some low) e = g.at_least_of e low

-- of the less of two numbers, or of the greater one
abbrev pub picked_element : {E : Type 0} → Setting E → (is_greater : Bool) → State E → Fact → Fact → E
picked_element s false st x y = under_end s.domain (bounds_of s st y).high (under_end s.domain (bounds_of s st x).high (s.domain.join_of (element_of s st x) (element_of s st y)))
picked_element s true st x y = over_end s.domain (bounds_of s st y).low (over_end s.domain (bounds_of s st x).low (s.domain.join_of (element_of s st x) (element_of s st y)))

-- of the less m of x and y: `y = m + p`, `x = m + q`; of the greater one: `x = m - p`, `y = m - q`
abbrev pub picked_facts : (is_greater : Bool) → (x y m p q : Fact) → List Fact
picked_facts false x y m p q = equals y (sum m p) ++ equals x (sum m q)
picked_facts true x y m p q = equals x (minus m p) ++ equals y (minus m q)

-- the less or the greater of two numbers of a kind: three new symbols, first it, then p, how much y is more than x, then q, how much x is
-- more than y
abbrev pub pick_joined : {E : Type 0} → Setting E → (is_greater : Bool) → Kind → Fact → Fact → State E → Onward E → Tree E
pick_joined s g k x y st go =
    invent s (picked_element s g st x y) st (λ m st1.
    invent_excesses s (minus y x) (minus x y) st1 (λ p q st2. know_all (picked_facts g x y m p q) (go (value k m) st2)))
