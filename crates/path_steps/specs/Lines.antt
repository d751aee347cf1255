-- What lines of the conditions owe of a stored number, line by line.
use Rattle.std.specs.Prelude.{Bool, true, false, List}
use Rattle.semantics.specs.Word.{Kind}
use Rattle.semantics.specs.Core.{Site}
use Rattle.facts.specs.Symbols.{Fact}
use Rattle.facts.specs.Launching.{BufferBound}
use Rattle.walk_trees.specs.Trees.{OfContent, Tree}
use Rattle.walk_trees.specs.Values.{Value}
use Rattle.walk_trees.specs.Walks.{Setting, State, at_site, brought, claim_form}
use Rattle.walk_trees.specs.Contents.{content_owed, claim_contents}

-- a claim, where it is asked for
abbrev pub claim_where : {E : Type 0} → Setting E → Bool → BufferBound → Fact → State E → (State E → Tree E) → Tree E
claim_where s true x f st go = claim_form s OfContent true (content_owed x.is_upper x.sum f) st go
claim_where s false x f st go = go st

-- whether there are lines or not: the value is brought to a kind at its site, and keeps them
abbrev pub keep : {E : Type 0} → Setting E → List BufferBound → Kind → Site → Value → State E → (State E → Tree E) → Tree E
keep s xs k site v st go = brought s k v (at_site site st) (λ v' st'. claim_contents s xs v'.form st' go)
