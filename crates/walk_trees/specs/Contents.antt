-- What lines of the conditions say that a buffer holds: facts of a loaded value, and what is owed of a stored one.
use Rattle.std.specs.Prelude.{ℕ, negsuc, List, [], ◌∷◌, Bool, true, false, cond, Option, Some, None, nat_eq}
use Rattle.semantics.specs.Core.{Space, Global, Local, Array}
use Rattle.facts.specs.Symbols.{Fact, constant, minus}
use Rattle.facts.specs.Launching.{BufferBound, difference}
use Rattle.walk_trees.specs.Held.{narrow}
use Rattle.walk_trees.specs.Trees.{OfContent, Tree, Know}
use Rattle.walk_trees.specs.Walks.{Setting, State, holding, claim_form}

-- the lines of a buffer, by its number
abbrev pub of_buffer : ℕ → List BufferBound → List BufferBound
of_buffer b [] = []
of_buffer b (x ∷ xs) = cond (nat_eq x.buffer b) (x ∷ of_buffer b xs) (of_buffer b xs)

abbrev pub contents_in : {E : Type 0} → Setting E → Space → ℕ → List BufferBound
contents_in s Global b = of_buffer b s.contents
contents_in s Local b = []

abbrev pub contents_of : {E : Type 0} → Setting E → Array → List BufferBound
contents_of s a = contents_in s a.space a.number

-- what a line says of a number that the buffer holds; where its sum has no form, nothing
abbrev pub content_fact : BufferBound → Fact → Fact
content_fact x f = cond x.is_upper (difference x.sum (Some f)) (difference (Some f) x.sum)

-- facts that narrow
abbrev pub know_contents : {E : Type 0} → Setting E → List BufferBound → Fact → State E → (State E → Tree E) → Tree E
know_contents s [] f st go = go st
know_contents s (x ∷ xs) f st go = Know (content_fact x f) (know_contents s xs f (holding (narrow s.domain s.known (content_fact x f) st.held) st) go)

-- what is owed of a number that is stored; where the sum has no form, what is never so
abbrev pub content_owed : (is_upper : Bool) → (sum : Option Fact) → Fact → Fact
content_owed is_upper None f = constant (negsuc 0)
content_owed true (Some g) f = minus g f
content_owed false (Some g) f = minus f g

abbrev pub claim_contents : {E : Type 0} → Setting E → List BufferBound → Fact → State E → (State E → Tree E) → Tree E
claim_contents s [] f st go = go st
claim_contents s (x ∷ xs) f st go = claim_form s OfContent true (content_owed x.is_upper x.sum f) st (λ st'. claim_contents s xs f st' go)
