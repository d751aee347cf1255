-- Quotients by forms, by what a path has of them.
use Rattle.std.specs.Prelude.{Option}
use Rattle.semantics.specs.Word.{Kind}
use Rattle.facts.specs.Symbols.{Fact}
use Rattle.walk_trees.specs.Trees.{Tree}
use Rattle.walk_trees.specs.Walks.{Setting, State, newest}
use Rattle.walk_trees.specs.Shares.{Shared, shared_of}
use Rattle.walk_trees.specs.Operators.{small_product}
use Rattle.walk_trees.specs.SharedQuotients as sharing

-- a new one, by the product of the next new symbol and the divisor
abbrev pub made : {E : Type 0} → Setting E → Kind → (dividend divisor : Fact) → State E → (Option Shared → State E → Tree E) → Tree E
made s k x y st go = sharing.made s (small_product (newest st) y) k x y st go

-- the latest, else a new one
abbrev pub found_or_made : {E : Type 0} → Setting E → Kind → (dividend divisor : Fact) → State E → (Option Shared → State E → Tree E) → Tree E
found_or_made s k x y st go = sharing.found_or_made s (shared_of x y st.quotients) (small_product (newest st) y) k x y st go
