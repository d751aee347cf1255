-- All paths of a tree in turn: what each notes, and the choices of the next one.
use Rattle.std.specs.Prelude.{◌≡◌, ℕ, suc, List, [], ◌∷◌, ◌++◌, Bool, true, ◌&&◌, Option, Some, None}
use Rattle.linear.specs.Exact.{fits}
use Rattle.facts.specs.Symbols.{Fact}
use Rattle.walk_trees.specs.Held.{Held}
use Rattle.walk_trees.specs.Trees.{Demand, Goal, Target, Tree, Leaf, Dead, Claim, Know, Touch, Fork, Access, Ended, Obligation, claimed, after}
use Rattle.walk_trees.specs.Values.{Arrived}
use Rattle.path_steps.specs.Paths.{Choice, First, Other, front, behind, by_choice, is_goal_fit, Claimed}

-- what is listed of a tree: of each claim, of each access, of each end
pub record Listed (E A : Type 0) : Type 0 where
  pub of_claim : (facts : List Fact) → Demand → (needed settled : Bool) → Goal → List A
  pub of_access : (facts : List Fact) → Target → Fact → Held E → List A
  pub of_end : (facts : List Fact) → Arrived E → List A

-- where no choice is left
abbrev pub if_new : {A : Type 0} → List Choice → List A → List A
if_new [] xs = xs
if_new (c ∷ cs) xs = []

-- along one path: from these choices on, in front of which n claims stand
abbrev pub along : {E A : Type 0} → Listed E A → (facts : List Fact) → List Choice → ℕ → Tree E → List A
along w facts cs n (Leaf e) = if_new cs (w.of_end facts e)
along w facts cs n Dead = []
along w facts cs n (Claim o needed settled g rest) = if_new cs (w.of_claim facts o needed settled g) ++ along w facts cs (suc n) rest
along w facts cs n (Know f rest) = along w (facts ++ f ∷ []) cs n rest
along w facts cs n (Touch t i h rest) = if_new cs (w.of_access facts t i h) ++ along w facts cs n rest
along w facts cs n (Fork a b) = by_choice (front cs) (along w facts (behind cs) n a) (λ k. along w facts (behind cs) k (b k))

-- along this path and all that come after it
abbrev pub from : {E A : Type 0} → Listed E A → (facts : List Fact) → List Choice → ℕ → Tree E → List A
from w facts cs n (Leaf e) = if_new cs (w.of_end facts e)
from w facts cs n Dead = []
from w facts cs n (Claim o needed settled g rest) = if_new cs (w.of_claim facts o needed settled g) ++ from w facts cs (suc n) rest
from w facts cs n (Know f rest) = from w (facts ++ f ∷ []) cs n rest
from w facts cs n (Touch t i h rest) = if_new cs (w.of_access facts t i h) ++ from w facts cs n rest
from w facts cs n (Fork a b) = by_choice (front cs) (from w facts (behind cs) n a ++ from w facts [] (after n a) (b (after n a))) (λ k. from w facts (behind cs) k (b k))

-- the choices that are taken in a tree, and how many claims stand before the end
abbrev pub taken_in : {E : Type 0} → List Choice → Tree E → List Choice
taken_in cs (Leaf e) = []
taken_in cs Dead = []
taken_in cs (Claim o needed settled g rest) = taken_in cs rest
taken_in cs (Know f rest) = taken_in cs rest
taken_in cs (Touch t i h rest) = taken_in cs rest
taken_in cs (Fork a b) = by_choice (front cs) (First ∷ taken_in (behind cs) a) (λ k. Other k ∷ taken_in (behind cs) (b k))

abbrev pub count_in : {E : Type 0} → List Choice → ℕ → Tree E → ℕ
count_in cs n (Leaf e) = n
count_in cs n Dead = n
count_in cs n (Claim o needed settled g rest) = count_in cs (suc n) rest
count_in cs n (Know f rest) = count_in cs n rest
count_in cs n (Touch t i h rest) = count_in cs n rest
count_in cs n (Fork a b) = by_choice (front cs) (count_in (behind cs) n a) (λ k. count_in (behind cs) k (b k))

-- the last first way becomes the other one, and what came behind it is dropped
abbrev pub turned : Choice → Option (List Choice) → ℕ → Option (List Choice)
turned c (Some cs) n = Some (c ∷ cs)
turned First None n = Some (Other n ∷ [])
turned (Other k) None n = None

-- after a path along these choices, at whose end so many claims stand
abbrev pub next_choices : List Choice → ℕ → Option (List Choice)
next_choices [] n = None
next_choices (c ∷ cs) n = turned c (next_choices cs n) n

-- what is listed along the paths from the next one on
abbrev pub rest_of : {E A : Type 0} → Listed E A → (facts : List Fact) → ℕ → Tree E → Option (List Choice) → List A
rest_of w facts n t None = []
rest_of w facts n t (Some cs) = from w facts cs n t

abbrev pub RightAt : Choice → (first : Type 0) → ℕ → (other : ℕ → Type 0) → Type 0
RightAt First p m q = p
RightAt (Other k) p m q = (k ≡ m) × q k

-- the number of each other way is that of the claims before it: what stands before the fork, and the first way
abbrev pub AreRight : {E : Type 0} → List Choice → ℕ → Tree E → Type 0
AreRight cs n (Leaf e) = Unit {0}
AreRight cs n Dead = Unit {0}
AreRight cs n (Claim o needed settled g rest) = AreRight cs (suc n) rest
AreRight cs n (Know f rest) = AreRight cs n rest
AreRight cs n (Touch t i h rest) = AreRight cs n rest
AreRight cs n (Fork a b) = RightAt (front cs) (AreRight (behind cs) n a) (after n a) (λ k. AreRight (behind cs) k (b k))

abbrev pub listed_claims : {E : Type 0} → Listed E Claimed
listed_claims = record { of_claim = λ facts o needed settled g. record { demand = o; needed = needed; settled = settled; goal = g; facts = facts } ∷ []; of_access = λ facts t i h. []; of_end = λ facts e. [] }

abbrev pub listed_accesses : {E : Type 0} → Listed E (Access E)
listed_accesses = record { of_claim = λ facts o needed settled g. []; of_access = λ facts t i h. record { target = t; index = i; held = h; facts = facts } ∷ []; of_end = λ facts e. [] }

abbrev pub listed_ends : {E : Type 0} → Listed E (Ended E)
listed_ends = record { of_claim = λ facts o needed settled g. []; of_access = λ facts t i h. []; of_end = λ facts e. record { arrived = e; facts = facts } ∷ [] }

-- a claim as an obligation, with the facts of the launch
abbrev pub obliged : (launch : List Fact) → Claimed → Obligation
obliged launch c = claimed launch c.facts c.demand c.needed c.settled c.goal

-- all forms of a tree, in front of which n claims stand, are of `i64`
abbrev pub is_tree_fit : {E : Type 0} → ℕ → Tree E → Bool
is_tree_fit n (Leaf e) = true
is_tree_fit n Dead = true
is_tree_fit n (Claim o needed settled g rest) = is_goal_fit g && is_tree_fit (suc n) rest
is_tree_fit n (Know f rest) = fits f && is_tree_fit n rest
is_tree_fit n (Touch t i h rest) = fits i && is_tree_fit n rest
is_tree_fit n (Fork a b) = is_tree_fit n a && is_tree_fit (after n a) (b (after n a))
