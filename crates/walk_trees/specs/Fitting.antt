-- Whether all forms that are made to show what there is to show are of i64.
use Rattle.std.specs.Prelude.{ℕ, suc, List, [], ◌∷◌, Bool, true, ◌&&◌}
use Rattle.linear.specs.Exact.{fits}
use Rattle.facts.specs.Symbols.{Fact, minus, denial}
use Rattle.walk_trees.specs.Trees.{Goal, AtLeastZero, Either, Replaced, Divided, Tree, Leaf, Dead, Claim, Know, Touch, Fork, after}

abbrev pub all_fit : List Fact → Bool
all_fit [] = true
all_fit (f ∷ fs) = fits f && all_fit fs

abbrev pub goal_fits : Goal → Bool
goal_fits (AtLeastZero f) = fits f
goal_fits (Either p n) = fits p && fits n
goal_fits (Replaced made f) = all_fit made && fits f
goal_fits (Divided made f) = all_fit made && fits f

-- what denies a goal, whichever way it is shown
abbrev pub denials_fit : Goal → Bool
denials_fit (AtLeastZero f) = fits (denial f)
denials_fit (Either p n) = fits (denial p) && fits (denial n)
denials_fit (Replaced made f) = fits (denial f)
denials_fit (Divided made f) = fits (denial f)

-- of a tree in front of which n claims stand: its facts, its goals and the indexes of its accesses
abbrev pub tree_fits : {E : Type 0} → ℕ → Tree E → Bool
tree_fits n (Leaf e) = true
tree_fits n Dead = true
tree_fits n (Claim o needed settled g rest) = goal_fits g && tree_fits (suc n) rest
tree_fits n (Know f rest) = fits f && tree_fits n rest
tree_fits n (Touch t i h rest) = fits i && tree_fits n rest
tree_fits n (Fork first second) = tree_fits n first && tree_fits (after n first) (second (after n first))

-- what denies its claims
abbrev pub tree_denials_fit : {E : Type 0} → ℕ → Tree E → Bool
tree_denials_fit n (Leaf e) = true
tree_denials_fit n Dead = true
tree_denials_fit n (Claim o needed settled g rest) = denials_fit g && tree_denials_fit (suc n) rest
tree_denials_fit n (Know f rest) = tree_denials_fit n rest
tree_denials_fit n (Touch t i h rest) = tree_denials_fit n rest
tree_denials_fit n (Fork first second) = tree_denials_fit n first && tree_denials_fit (after n first) (second (after n first))

-- both differences of a pair's indexes
abbrev pub differences_fit : Fact → Fact → Bool
differences_fit f g = fits (minus f g) && fits (minus g f)
