-- Statements and standings behind others.
use Rattle.std.proofs.Common.{◌≡◌, List, [], ◌∷◌, ◌++◌, map, Option, None, Some, option_map, is_some, refl, ap}
use Rattle.std.proofs.lemmas.List.{drop-map, take-map, length-map}
use Rattle.semantics.specs.Core as core
use Rattle.core_code.specs.View.{statement, statements}
use Rattle.core_code.specs.declared.tree.Statement.{Statement}
use Rattle.kernel_names.specs.View.{standing}
use Rattle.kernel_names.specs.declared.Standing.{Standing}
use Rattle.opencl_core.specs.Rooms.{single, join}

pub statements-snoc : (a : List Statement) (s : Statement) → statements (a ++ s ∷ []) ≡ join (statements a) (single (statement s))
statements-snoc [] s = refl
statements-snoc (x ∷ xs) s = ap (core.one (statement x)) (statements-snoc xs s)

pub standings-behind : (a b : List Standing) (s : Standing) → map standing ((a ++ s ∷ []) ++ b) ≡ map standing a ++ standing s ∷ map standing b
standings-behind [] b s = refl
standings-behind (x ∷ xs) b s = ap (λ l. standing x ∷ l) (standings-behind xs b s)

pub ruleset placed_behind = (statements-snoc)

pub some-mapped : {A B : Type 0} → (f : A → B) (o : Option A) → is_some (option_map f o) ≡ is_some o
some-mapped f None = refl
some-mapped f (Some a) = refl

pub ruleset kept = (drop-map, take-map, length-map, some-mapped)

pub ruleset behind_others = (statements-snoc, standings-behind)
