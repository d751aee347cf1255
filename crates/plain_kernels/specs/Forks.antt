-- Whether a tree of what an item does forks.
use Rattle.std.specs.Prelude.{Bool, true, false}
use Rattle.walk_trees.specs.Trees.{Tree, Leaf, Dead, Claim, Know, Touch, Fork}

-- there is a test
abbrev pub has_fork : {E : Type 0} → Tree E → Bool
has_fork (Leaf e) = false
has_fork Dead = false
has_fork (Claim o needed settled g rest) = has_fork rest
has_fork (Know f rest) = has_fork rest
has_fork (Touch t i h rest) = has_fork rest
has_fork (Fork first second) = true
