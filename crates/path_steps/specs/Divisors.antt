-- The claims of a divisor, of a quotient and of a dividend, each alone.
use Rattle.std.specs.Prelude.{pos, negsuc, ◌+◌, Bool, ◌&&◌, ◌||◌, true}
use Rattle.semantics.specs.Word.{Kind, Uint}
use Rattle.facts.specs.Symbols.{Fact}
use Rattle.facts.specs.Elements as elements
use Rattle.walk_trees.specs.Trees.{OfDivisor, OfQuotient, OfRange, Tree}
use Rattle.walk_trees.specs.Covered.{is_uint}
use Rattle.walk_trees.specs.Walks.{Setting, State, bounds_of, claim, claim_form}
use Rattle.walk_trees.specs.Operators.{lacks, divisor_goal, quotient_goal}

abbrev pub claim_nonzero : {E : Type 0} → Setting E → Fact → State E → (State E → Tree E) → Tree E
claim_nonzero s y st go = claim OfDivisor true (lacks (bounds_of s st y) (pos 0)) (divisor_goal y) st go

abbrev pub claim_overflow : {E : Type 0} → Setting E → (dividend divisor : Fact) → State E → (State E → Tree E) → Tree E
claim_overflow s x y st go = claim OfQuotient true (lacks (bounds_of s st y) (negsuc 0) || lacks (bounds_of s st x) (negsuc 2147483647)) (quotient_goal x y) st go

-- a dividend that is known to be at least 0; in the wide walk a `uint` is
abbrev pub is_from_zero : {E : Type 0} → Setting E → State E → Kind → Fact → Bool
is_from_zero s st k x = (s.is_wide && is_uint k) || elements.is_from_zero (bounds_of s st x).low

-- that a form is not negative, which is needed where it has an entry; and whether it has
abbrev pub claim_natural : {E : Type 0} → Setting E → Fact → State E → (Bool → State E → Tree E) → Tree E
claim_natural s x st go = claim_form s (OfRange Uint) (s.has_entry (st.claims + 1)) x st (λ st'. go (s.has_entry (st.claims + 1)) st')
