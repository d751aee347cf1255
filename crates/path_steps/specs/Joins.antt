-- Parts of ways that are joined, as steps.
use Rattle.std.specs.Prelude.{ℤ, pos, List, Bool, true, false}
use Rattle.linear.specs.Exact.{sum}
use Rattle.facts.specs.Symbols.{Fact, minus}
use Rattle.walk_trees.specs.Trees.{Tree}
use Rattle.walk_trees.specs.Walks.{State, know_all}

-- facts, one after another
abbrev pub told : {E : Type 0} → List Fact → State E → (State E → Tree E) → Tree E
told fs st go = know_all fs (go st)

-- the least difference of two numbers that are apart, and of two that need not be
abbrev pub reach : (are_apart : Bool) → ℤ
reach true = pos 1
reach false = pos 0

-- a number less another one, or with it
abbrev pub distance : (is_down : Bool) → Fact → Fact → Fact
distance true m p = minus m p
distance false m p = sum m p

-- one of two numbers
abbrev pub nearer : (is_first : Bool) → Fact → Fact → Fact
nearer true x y = x
nearer false x y = y
