-- What is left of a tree where these choices come next.
use Rattle.std.specs.Prelude.{ℕ, suc, ◌+◌, List, [], Bool, true, ◌&&◌, Option, None, Some}
use Rattle.linear.specs.Exact.{fits}
use Rattle.walk_trees.specs.Fitting.{goal_fits}
use Rattle.walk_trees.specs.Trees.{Tree, Leaf, Dead, Claim, Know, Touch, Fork, after}
use Rattle.path_steps.specs.Paths.{Choice, front, behind, by_choice}
use Rattle.path_steps.specs.Turns.{AreRight}

-- how many paths there are from these choices on, also those along which nobody goes on
abbrev pub paths_from : {E : Type 0} → List Choice → ℕ → Tree E → ℕ
paths_from cs n (Leaf e) = 1
paths_from cs n Dead = 1
paths_from cs n (Claim o needed settled g rest) = paths_from cs (suc n) rest
paths_from cs n (Know f rest) = paths_from cs n rest
paths_from cs n (Touch t i h rest) = paths_from cs n rest
paths_from cs n (Fork a b) = by_choice (front cs) (paths_from (behind cs) n a + paths_from [] (after n a) (b (after n a))) (λ k. paths_from (behind cs) k (b k))

abbrev pub paths_left : {E : Type 0} → ℕ → Tree E → Option (List Choice) → ℕ
paths_left n t None = 0
paths_left n t (Some cs) = paths_from cs n t

-- all forms along those paths are of i64
abbrev pub fits_from : {E : Type 0} → List Choice → ℕ → Tree E → Bool
fits_from cs n (Leaf e) = true
fits_from cs n Dead = true
fits_from cs n (Claim o needed settled g rest) = goal_fits g && fits_from cs (suc n) rest
fits_from cs n (Know f rest) = fits f && fits_from cs n rest
fits_from cs n (Touch t i h rest) = fits i && fits_from cs n rest
fits_from cs n (Fork a b) = by_choice (front cs) (fits_from (behind cs) n a && fits_from [] (after n a) (b (after n a))) (λ k. fits_from (behind cs) k (b k))

abbrev pub rest_fits : {E : Type 0} → ℕ → Tree E → Option (List Choice) → Bool
rest_fits n t None = true
rest_fits n t (Some cs) = fits_from cs n t

-- the numbers of the next choices are those of the claims before them
abbrev pub IsRightNext : {E : Type 0} → Option (List Choice) → ℕ → Tree E → Type 0
IsRightNext None n t = Unit {0}
IsRightNext (Some cs) n t = AreRight cs n t
