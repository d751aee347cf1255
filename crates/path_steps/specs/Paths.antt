-- One path of a tree at a time: a list of choices, and what is found along them.
use Rattle.std.specs.Prelude.{ℕ, suc, List, [], ◌∷◌, ◌++◌, Bool, true, false, ◌&&◌, nat_lt}
use Rattle.linear.specs.Exact.{fits}
use Rattle.facts.specs.Symbols.{Fact}
use Rattle.walk_trees.specs.Held as held
use Rattle.walk_trees.specs.Held.{Held, with_new, no_held}
use Rattle.walk_trees.specs.Fitting.{goal_fits}
use Rattle.walk_trees.specs.Trees.{Sort, Spot, Demand, Goal, Target, Tree, Leaf, Dead, Claim, Know, Touch, Fork, Access, Ended}
use Rattle.arrivals.specs.Trees.{Stop, Turns}
use Rattle.walk_trees.specs.Values.{Value, Arrived}
use Rattle.walk_trees.specs.Shares.{Shared}
use Rattle.walk_trees.specs.Walks.{State, claimed_once, counted, holding, with_rank, with_quotient, arrived, stand, demand, fork, fork_unless}
use Rattle.walk_trees.specs.Statements.{spot_of}

-- the way that is taken at a fork: the first one, or the other one, with the number of claims before it
pub data Choice : Type 0 where
  First : Choice
  Other : (claims : ℕ) → Choice

-- a claim, with the item's facts before it
pub record Claimed : Type 0 where
  pub demand : Demand
  pub needed : Bool
  pub settled : Bool
  pub goal : Goal
  pub facts : List Fact

-- what is found along a path: facts, claims, accesses, ends, and how many claims stand before the place; the choices
-- that were taken, and those that are left. A claim, an access or an end is noted where no choice is left: before that it stands on another
-- path. All forms were of `i64`, and no claim was the 65,537th or a later one
pub record Found (E : Type 0) : Type 0 where
  pub facts : List Fact
  pub claims : List Claimed
  pub accesses : List (Access E)
  pub ends : List (Ended E)
  pub count : ℕ
  pub taken : List Choice
  pub left : List Choice
  pub is_fit : Bool
  pub is_few : Bool

abbrev pub noted : {A : Type 0} → (left : List Choice) → A → List A → List A
noted [] x xs = xs ++ x ∷ []
noted (c ∷ cs) x xs = xs

abbrev pub is_goal_fit : Goal → Bool
is_goal_fit g = goal_fits g

abbrev pub most_claims : ℕ
most_claims = 65536

abbrev pub add_claim : {E : Type 0} → Found E → Demand → (needed settled : Bool) → Goal → Found E
add_claim m o needed settled g = record { facts = m.facts; claims = noted m.left (record { demand = o; needed = needed; settled = settled; goal = g; facts = m.facts }) m.claims; accesses = m.accesses; ends = m.ends; count = suc m.count; taken = m.taken; left = m.left; is_fit = m.is_fit && is_goal_fit g; is_few = m.is_few && nat_lt m.count most_claims }

abbrev pub add_fact : {E : Type 0} → Found E → Fact → Found E
add_fact m f = record { facts = m.facts ++ f ∷ []; claims = m.claims; accesses = m.accesses; ends = m.ends; count = m.count; taken = m.taken; left = m.left; is_fit = m.is_fit && fits f; is_few = m.is_few }

abbrev pub add_access : {E : Type 0} → Found E → Target → Fact → Held E → Found E
add_access m t i h = record { facts = m.facts; claims = m.claims; accesses = noted m.left (record { target = t; index = i; held = h; facts = m.facts }) m.accesses; ends = m.ends; count = m.count; taken = m.taken; left = m.left; is_fit = m.is_fit && fits i; is_few = m.is_few }

abbrev pub add_leaf : {E : Type 0} → Found E → Arrived E → Found E
add_leaf m e = record { facts = m.facts; claims = m.claims; accesses = m.accesses; ends = noted m.left (record { arrived = e; facts = m.facts }) m.ends; count = m.count; taken = m.taken; left = m.left; is_fit = m.is_fit; is_few = m.is_few }

abbrev pub behind : List Choice → List Choice
behind [] = []
behind (c ∷ cs) = cs

abbrev pub take_first : {E : Type 0} → Found E → Found E
take_first m = record { facts = m.facts; claims = m.claims; accesses = m.accesses; ends = m.ends; count = m.count; taken = m.taken ++ First ∷ []; left = behind m.left; is_fit = m.is_fit; is_few = m.is_few }

abbrev pub take_other : {E : Type 0} → ℕ → Found E → Found E
take_other n m = record { facts = m.facts; claims = m.claims; accesses = m.accesses; ends = m.ends; count = n; taken = m.taken ++ Other n ∷ []; left = behind m.left; is_fit = m.is_fit; is_few = m.is_few }

-- the choice in front; past the end the first way
abbrev pub front : List Choice → Choice
front [] = First
front (c ∷ cs) = c

abbrev pub by_choice : {A : Type 0} → Choice → (first : A) → (other : ℕ → A) → A
by_choice First x y = x
by_choice (Other n) x y = y n

-- what is found to the end of the path
unfoldable pub collect : {E : Type 0} → Found E → Tree E → Found E
collect m (Leaf e) = add_leaf m e
collect m Dead = m
collect m (Claim o needed settled g rest) = collect (add_claim m o needed settled g) rest
collect m (Know f rest) = collect (add_fact m f) rest
collect m (Touch t i h rest) = collect (add_access m t i h) rest
collect m (Fork first second) = by_choice (front m.left) (collect (take_first m) first) (λ n. collect (take_other n m) (second n))

-- with the state of the walk
pub record Followed (E : Type 0) : Type 0 where
  pub found : Found E
  pub state : State E

-- before the first step
abbrev pub opening : {E : Type 0} → List Fact → List Value → List Choice → Followed E
opening facts values cs = record {
  found = record { facts = facts; claims = []; accesses = []; ends = []; count = 0; taken = []; left = cs; is_fit = true; is_few = true };
  state = record { claims = 0; variables = values; ranks = []; quotients = []; held = no_held; at = spot_of 0 };
}

abbrev pub with_claim : {E : Type 0} → Followed E → Sort → (needed settled : Bool) → Goal → Followed E
with_claim m o needed settled g = record { found = add_claim m.found (demand o m.state) needed settled g; state = claimed_once m.state }

abbrev pub with_fact : {E : Type 0} → Followed E → Fact → Followed E
with_fact m f = record { found = add_fact m.found f; state = m.state }

abbrev pub with_element : {E : Type 0} → Followed E → E → Followed E
with_element m e = record { found = m.found; state = holding (with_new e m.state.held) m.state }

abbrev pub with_narrowed : {E : Type 0} → Followed E → ℕ → E → Followed E
with_narrowed m s e = record { found = m.found; state = holding (held.with_narrowed s e m.state.held) m.state }

abbrev pub with_held : {E : Type 0} → Followed E → Held E → Followed E
with_held m h = record { found = m.found; state = holding h m.state }

abbrev pub with_access : {E : Type 0} → Followed E → Target → Fact → Followed E
with_access m t i = record { found = add_access m.found t i m.state.held; state = m.state }

-- what is found where the path stops
abbrev pub stopped : {E : Type 0} → Followed E → Stop → Turns → Found E
stopped m stop turns = add_leaf m.found (arrived stop turns m.state)

abbrev pub with_ranked : {E : Type 0} → Followed E → ℕ → Fact → Followed E
with_ranked m n f = record { found = m.found; state = with_rank n f m.state }

abbrev pub with_shared : {E : Type 0} → Followed E → Shared → Followed E
with_shared m q = record { found = m.found; state = with_quotient q m.state }

abbrev pub with_spot : {E : Type 0} → Followed E → Spot → Followed E
with_spot m p = record { found = m.found; state = stand p m.state }

-- the way that is taken, and where it leads
abbrev pub is_first : Choice → Bool
is_first First = true
is_first (Other n) = false

abbrev pub with_choice : {E : Type 0} → Followed E → Choice → Followed E
with_choice m First = record { found = take_first m.found; state = m.state }
with_choice m (Other n) = record { found = take_other n m.found; state = counted n m.state }

-- a fork as a step that answers which way is taken
abbrev pub choosing : {E : Type 0} → State E → (Bool → State E → Tree E) → Tree E
choosing st go = fork st (go true) (go false)

-- so is a test, of which ways may be left out
abbrev pub choosing_unless : {E : Type 0} → (first_is_out second_is_out : Bool) → State E → (Bool → State E → Tree E) → Tree E
choosing_unless out none st go = fork_unless out none st (go true) (go false)
