-- What becomes of the values of operands, and two terms in turn.
use Rattle.std.specs.Prelude.{ℕ, pos, false}
use Rattle.semantics.specs.Word.{Kind, Operator, UnaryOperator, Direction, Relation}
use Rattle.semantics.specs.Core.{Site, Term}
use Rattle.facts.specs.Symbols.{constant}
use Rattle.walk_trees.specs.Trees.{Tree}
use Rattle.walk_trees.specs.Values.{Value}
use Rattle.walk_trees.specs.Walks.{Setting, State, Onward, at_site, unknown, brought, both_brought}
use Rattle.walk_trees.specs.Tests.{Outcomes, split}
use Rattle.walk_trees.specs.Operators.{unary, binary}
use Rattle.walk_trees.specs.Shifts.{shifted}
use Rattle.walk_trees.specs.Terms.{in_length, walk}
use Rattle.path_steps.specs.Paths.{Followed, collect}
use Rattle.path_steps.specs.Halts.{Ended}
use Rattle.path_steps.specs.declared.halt.Halt.{Halt}

-- at the operator's site
abbrev pub unary_at : {E : Type 0} → Setting E → UnaryOperator → Kind → Site → Value → State E → Onward E → Tree E
unary_at s op k site x st go = unary s op k x (at_site site st) go

abbrev pub brought_at : {E : Type 0} → Setting E → Kind → Site → Value → State E → Onward E → Tree E
brought_at s k site x st go = brought s k x (at_site site st) go

abbrev pub binary_at : {E : Type 0} → Setting E → Operator → Kind → Site → (left right : Value) → State E → Onward E → Tree E
binary_at s op k site x y st go = both_brought s k x y (at_site site st) (λ x' y' st'. binary s op k x'.form y'.form st' go)

abbrev pub compare_values : {E : Type 0} → Setting E → Relation → Kind → (left right : Value) → State E → Outcomes E → Tree E
compare_values s r k x y st go = both_brought s k x y st (λ x' y' st'. split s false r x'.form y'.form st' go)

-- the left one is brought to the kind
abbrev pub shift_values : {E : Type 0} → Setting E → Direction → Kind → (left count : Value) → State E → Onward E → Tree E
shift_values s d k x y st go = brought s k x st (λ x' st'. shifted s d k x'.form y.form st' go)

abbrev pub within_at : {E : Type 0} → Setting E → Site → (length : ℕ) → Value → State E → Onward E → Tree E
within_at s site n x st go = in_length s (constant (pos n)) x.form (at_site site st) (λ st'. go x st')

-- any number of a kind, behind a term
abbrev pub unknown_behind : {E : Type 0} → Setting E → Kind → Term → State E → Onward E → Tree E
unknown_behind s k e st go = (walk s e).value st (λ z st'. unknown s k st' go)

-- the left one first
abbrev pub both_values : {E : Type 0} → Setting E → (left right : Term) → State E → (Value → Value → State E → Tree E) → Tree E
both_values s a b st go = (walk s a).value st (λ x st1. (walk s b).value st1 (λ y st2. go x y st2))

-- a step with two answers went no further
abbrev pub HaltsTwo : {E A B : Type 0} → (from to : Followed E) → Halt → (State E → (A → B → State E → Tree E) → Tree E) → Type 0
HaltsTwo {E} {A} {B} from to h walk = (go : A → B → State E → Tree E) → Ended to.found h (collect from.found (walk from.state go))
