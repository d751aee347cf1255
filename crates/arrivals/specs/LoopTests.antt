-- Where an item comes to the test of a loop, and where that was true and it enters the loop's body.
use Rattle.std.specs.Prelude.{ℕ, Bool, true, ◌||◌, List, ◌∷◌, ◌≡◌, ◌⊎◌}
use Rattle.semantics.specs.Core.{Statement, Set, Store, If, Loop, Barrier, Return, Break, Continue}
use Rattle.arrivals.specs.Loops.{have_barrier}
use Rattle.arrivals.specs.Trees.{Step, Enters, Tree, Comes, Takes, Fork, Leaf}

-- the statement is the loop of that number, which holds a barrier, and has turned or not. A loop without one is tested at its head
abbrev pub IsTest : ℕ → (again : Bool) → Statement → (turned : Bool) → Type 0
IsTest n a (Set m x e) b = ⊥
IsTest n a (Store m y site k e) b = ⊥
IsTest n a (If m e yeses noes) b = ⊥
IsTest n a (Loop m e body update) b = (m ≡ n) × ((b ≡ a) × ((have_barrier body || have_barrier update) ≡ true))
IsTest n a (Barrier m l g) b = ⊥
IsTest n a (Return m) b = ⊥
IsTest n a (Break m k) b = ⊥
IsTest n a (Continue m k) b = ⊥

-- the path ends in front of the body of the loop of that number
abbrev pub IsEntering : ℕ → (end path : List Step) → Tree → Type 0
IsEntering n end path (Comes s rest) = IsEntering n end path rest
IsEntering n end path (Takes st rest) = ((st ≡ Enters n) × (end ≡ path)) ⊎ IsEntering n end (st ∷ path) rest
IsEntering n end path (Fork left right) = IsEntering n end path left ⊎ IsEntering n end path right
IsEntering n end path (Leaf stop t) = ⊥
