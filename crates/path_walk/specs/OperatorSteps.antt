-- Steps of operators, each from where the walk stands.
use Rattle.std.specs.Prelude.{ℕ, ℤ, cond}
use Rattle.semantics.specs.Word.{Kind, Direction}
use Rattle.facts.specs.Symbols.{Fact}
use Rattle.walk_trees.specs.Trees.{Tree}
use Rattle.walk_trees.specs.Values.{value}
use Rattle.walk_trees.specs.Walks.{Setting, State, Onward}
use Rattle.walk_trees.specs.Quotients.{quotient}
use Rattle.walk_trees.specs.Bits.{meet, join, differ, bits_from}
use Rattle.walk_trees.specs.Shifts.{by_term}
use Rattle.walk_trees.specs.Operators.{are_from_zero, masked_by}

-- the quotient without what it leaves
abbrev pub quotient_alone : {E : Type 0} → Setting E → Kind → Fact → (divisor : ℤ) → State E → (Fact → State E → Tree E) → Tree E
quotient_alone s k x c st go = quotient s k x c st (λ q r st'. go q st')

-- by what is known of the operands there
abbrev pub masked_here : {E : Type 0} → Setting E → Kind → Fact → Fact → State E → (Fact → State E → Tree E) → Tree E
masked_here s k x y st go = masked_by s (are_from_zero s st x y) k x y st go

-- bits that are no remainder
abbrev pub met_or_masked : {E : Type 0} → Setting E → Kind → Fact → Fact → State E → (Fact → State E → Tree E) → Tree E
met_or_masked s k x y st go = cond s.is_wide (meet s k x y st go) (masked_here s k x y st go)

-- as values
abbrev pub joined_value : {E : Type 0} → Setting E → Kind → Fact → Fact → State E → Onward E → Tree E
joined_value s k x y st go = join s k x y st (λ f st'. go (value k f) st')

abbrev pub differing_value : {E : Type 0} → Setting E → Kind → Fact → Fact → State E → Onward E → Tree E
differing_value s k x y st go = differ s k x y st (λ f st'. go (value k f) st')

abbrev pub quotient_value : {E : Type 0} → Setting E → Kind → ℕ → Fact → State E → Onward E → Tree E
quotient_value s k n x st go = bits_from s k x n st (λ q st'. go (value k q) st')

abbrev pub termed_value : {E : Type 0} → Setting E → Direction → Kind → Fact → State E → Onward E → Tree E
termed_value s d k x st go = by_term s d k x st (λ r st'. go (value k r) st')
