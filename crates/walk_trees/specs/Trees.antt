-- The tree of what an item does from a place on: claims that are to be shown, facts that hold from there on, and accesses, in the
-- order in which an item meets them, with a fork for each test.
use Rattle.std.specs.Prelude.{ℕ, suc, ◌+◌, List, [], ◌∷◌, ◌++◌, Bool, Option, Some, None}
use Rattle.semantics.specs.Core.{Array, Site}
use Rattle.semantics.specs.Word.{Kind}
use Rattle.facts.specs.Symbols.{Fact, denial}
use Rattle.walk_trees.specs.Held.{Held}
use Rattle.walk_trees.specs.Values.{Arrived}

-- what is to be shown: an end of a kind's range, a place in an array, that a divisor is not 0, that a quotient is an `int`, that a loop's
-- ranking is as it was said, that a fact or a congruence of a place holds where an item comes to it, that a store keeps what its buffer
-- holds; of two items, that they do not meet in an element, that they have a variable alike at a barrier, or that they do not come to two
-- stops
pub data Sort : Type 0 where
  OfRange : (kind : Kind) → Sort
  OfIndex : Sort
  OfDivisor : Sort
  OfQuotient : Sort
  OfRanking : Sort
  OfFact : Sort
  OfCongruence : Sort
  OfContent : Sort
  OfPair : Sort
  OfSame : Sort
  OfMeeting : Sort

-- a place in the source: the number of a statement, and a site in it
pub record Spot : Type 0 where
  pub statement : ℕ
  pub site : Site

-- what is to be shown, and where the kernel asks for it
pub record Demand : Type 0 where
  pub sort : Sort
  pub spot : Spot

-- what a claim says: that a form is at least 0; of a divisor, that one of two is: one where it is positive, one where it is negative; of
-- what is said of a place or a loop, that a form is at least 0 that is put together of others; of a congruence likewise, with a
-- quotient that is named
pub data Goal : Type 0 where
  AtLeastZero : (form : Fact) → Goal
  Either : (positive negative : Fact) → Goal
  Replaced : (made : List Fact) (form : Fact) → Goal
  Divided : (made : List Fact) (form : Fact) → Goal

-- which access it is: a store or a load, of an array, and where the array is named
pub record Target : Type 0 where
  pub is_store : Bool
  pub array : Array
  pub spot : Spot

-- a path ends, or nobody goes on along it. Behind a fork stands first what an item does whose test comes out the first way, then, by
-- the number of claims before it, what it does otherwise. An access has what the domain held before it
pub data Tree (E : Type 0) : Type 0 where
  Leaf : (end : Arrived E) → Tree E
  Dead : Tree E
  Claim : (demand : Demand) (needed settled : Bool) (goal : Goal) (rest : Tree E) → Tree E
  Know : (fact : Fact) (rest : Tree E) → Tree E
  Touch : (target : Target) (index : Fact) (held : Held E) (rest : Tree E) → Tree E
  Fork : (first : Tree E) (second : (claims : ℕ) → Tree E) → Tree E

-- how many claims stand before the end of a tree, in front of which n stand
abbrev pub after : {E : Type 0} → ℕ → Tree E → ℕ
after n (Leaf e) = n
after n Dead = n
after n (Claim o needed settled g rest) = after (suc n) rest
after n (Know f rest) = after n rest
after n (Touch t i h rest) = after n rest
after n (Fork first second) = after (after n first) (second (after n first))

-- how many paths come to an end
abbrev pub leaves : {E : Type 0} → ℕ → Tree E → ℕ
leaves n (Leaf e) = 1
leaves n Dead = 0
leaves n (Claim o needed settled g rest) = leaves (suc n) rest
leaves n (Know f rest) = leaves n rest
leaves n (Touch t i h rest) = leaves n rest
leaves n (Fork first second) = leaves n first + leaves (after n first) (second (after n first))

-- one item's part of what is to be shown, or a pair's, which is asked for at two spots: where it is needed and not settled by the domain,
-- its facts are to be impossible together with what denies the goal; of a pair, by themselves
pub record Obligation : Type 0 where
  pub sort : Sort
  pub spot : Spot
  pub other : Option Spot
  pub needed : Bool
  pub settled : Bool
  pub facts : List Fact
  pub goal : Option Goal

-- an access, with the facts before it
pub record Access (E : Type 0) : Type 0 where
  pub target : Target
  pub index : Fact
  pub held : Held E
  pub facts : List Fact

-- an end of a path, with the facts before it
pub record Ended (E : Type 0) : Type 0 where
  pub arrived : Arrived E
  pub facts : List Fact

abbrev pub claimed : (launch facts : List Fact) → Demand → (needed settled : Bool) → Goal → Obligation
claimed launch facts o needed settled g = record { sort = o.sort; spot = o.spot; other = None; needed = needed; settled = settled; facts = launch ++ facts; goal = Some g }

-- the claims of a tree, in front of which n stand, each with the facts of the launch and those of the item up to it
abbrev pub claims : {E : Type 0} → (launch facts : List Fact) → ℕ → Tree E → List Obligation
claims launch facts n (Leaf e) = []
claims launch facts n Dead = []
claims launch facts n (Claim o needed settled g rest) = claimed launch facts o needed settled g ∷ claims launch facts (suc n) rest
claims launch facts n (Know f rest) = claims launch (facts ++ f ∷ []) n rest
claims launch facts n (Touch t i h rest) = claims launch facts n rest
claims launch facts n (Fork first second) = claims launch facts n first ++ claims launch facts (after n first) (second (after n first))

abbrev pub accesses : {E : Type 0} → (facts : List Fact) → ℕ → Tree E → List (Access E)
accesses facts n (Leaf e) = []
accesses facts n Dead = []
accesses facts n (Claim o needed settled g rest) = accesses facts (suc n) rest
accesses facts n (Know f rest) = accesses (facts ++ f ∷ []) n rest
accesses facts n (Touch t i h rest) = record { target = t; index = i; held = h; facts = facts } ∷ accesses facts n rest
accesses facts n (Fork first second) = accesses facts n first ++ accesses facts (after n first) (second (after n first))

-- where paths end, in their order
abbrev pub ends : {E : Type 0} → (facts : List Fact) → ℕ → Tree E → List (Ended E)
ends facts n (Leaf e) = record { arrived = e; facts = facts } ∷ []
ends facts n Dead = []
ends facts n (Claim o needed settled g rest) = ends facts (suc n) rest
ends facts n (Know f rest) = ends (facts ++ f ∷ []) n rest
ends facts n (Touch t i h rest) = ends facts n rest
ends facts n (Fork first second) = ends facts n first ++ ends facts (after n first) (second (after n first))

-- how an entry shows an obligation: by its facts; a divisor by what is so where it is positive, or where it is negative; a congruence by a
-- quotient
pub data Manner : Type 0 where
  Plainly : Manner
  ByPositive : Manner
  ByNegative : Manner
  ByQuotient : Manner

-- the fact that a manner adds to those of an obligation; none where the manner does not fit
abbrev pub added : Manner → Option Goal → Option (List Fact)
added Plainly None = Some []
added Plainly (Some (AtLeastZero f)) = Some (denial f ∷ [])
added Plainly (Some (Either p n)) = None
added Plainly (Some (Replaced made f)) = Some (denial f ∷ [])
added Plainly (Some (Divided made f)) = None
added ByPositive None = None
added ByPositive (Some (AtLeastZero f)) = None
added ByPositive (Some (Either p n)) = Some (denial p ∷ [])
added ByPositive (Some (Replaced made f)) = None
added ByPositive (Some (Divided made f)) = None
added ByNegative None = None
added ByNegative (Some (AtLeastZero f)) = None
added ByNegative (Some (Either p n)) = Some (denial n ∷ [])
added ByNegative (Some (Replaced made f)) = None
added ByNegative (Some (Divided made f)) = None
added ByQuotient None = None
added ByQuotient (Some (AtLeastZero f)) = None
added ByQuotient (Some (Either p n)) = None
added ByQuotient (Some (Replaced made f)) = None
added ByQuotient (Some (Divided made f)) = Some (denial f ∷ [])

abbrev pub with_facts : List Fact → Option (List Fact) → Option (List Fact)
with_facts facts None = None
with_facts facts (Some more) = Some (facts ++ more)

-- all facts that are impossible where an obligation is shown in that manner
abbrev pub facts_by : Manner → Obligation → Option (List Fact)
facts_by m o = with_facts o.facts (added m o.goal)
