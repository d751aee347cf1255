-- How far the walk of all paths of a tree has come.
use Rattle.std.specs.Prelude.{◌≡◌, ℕ, List, [], ◌++◌, length, Option, None}
use Rattle.facts.specs.Symbols.{Fact}
use Rattle.walk_trees.specs.Fitting.{tree_fits}
use Rattle.walk_trees.specs.Trees.{Tree, after}
use Rattle.path_steps.specs.Paths.{Choice}
use Rattle.path_steps.specs.Turns.{from, rest_of, listed_claims, listed_accesses, listed_ends}
use Rattle.path_steps.specs.declared.path.Path.{Path}
use Rattle.walk.specs.Paths.{all_claims, all_accesses, all_ends}
use Rattle.walk.specs.Behind.{rest_fits, IsRightNext}

-- what these paths found, so many of which came to an end, and what is left from the next choices on, is the tree, in front of which n
-- claims stand. Behind the last path stand as many claims as it counted
pub record Walked {E : Type 0} (facts : List Fact) (n : ℕ) (t : Tree E) (found : List (Path E)) (so_many count : ℕ) (next : Option (List Choice)) : Type 0 where
  pub claims : all_claims found ++ rest_of listed_claims facts n t next ≡ from listed_claims facts [] n t
  pub accesses : all_accesses found ++ rest_of listed_accesses facts n t next ≡ from listed_accesses facts [] n t
  pub ends : all_ends found ++ rest_of listed_ends facts n t next ≡ from listed_ends facts [] n t
  pub counted : so_many ≡ length (all_ends found)
  pub right : IsRightNext next n t
  pub fit : rest_fits n t next ≡ tree_fits n t
  pub last : next ≡ None → count ≡ after n t
