-- All that several paths found, one after the other; and a path before its first step.
use Rattle.std.specs.Prelude.{ℕ, List, [], ◌++◌, ◌∷◌, true}
use Rattle.facts.specs.Symbols.{Fact}
use Rattle.walk_trees.specs.Trees.{Access, Ended}
use Rattle.path_steps.specs.Paths.{Choice, Claimed, Found}
use Rattle.path_steps.specs.View.{followed}
use Rattle.path_steps.specs.declared.path.Path.{Path}

abbrev pub all_claims : {E : Type 0} → List (Path E) → List Claimed
all_claims [] = []
all_claims (p ∷ ps) = (followed p).found.claims ++ all_claims ps

abbrev pub all_accesses : {E : Type 0} → List (Path E) → List (Access E)
all_accesses [] = []
all_accesses (p ∷ ps) = (followed p).found.accesses ++ all_accesses ps

abbrev pub all_ends : {E : Type 0} → List (Path E) → List (Ended E)
all_ends [] = []
all_ends (p ∷ ps) = (followed p).found.ends ++ all_ends ps

-- where so much is known, with so many claims before it, along these choices
abbrev pub begun : {E : Type 0} → List Fact → (claims : ℕ) → List Choice → Found E
begun facts n cs = record { facts = facts; claims = []; accesses = []; ends = []; count = n; taken = []; left = cs; is_fit = true; is_few = true }
