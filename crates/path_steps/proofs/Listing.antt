-- What is listed from the first choice on is the tree's.
use Rattle.std.proofs.Common.{◌≡◌, ℕ, suc, ◌+◌, List, [], ◌∷◌, ◌++◌, map, length, refl, ap, ◌∙◌}
use Rattle.std.proofs.lemmas.List.{map-append, length-append}
use Rattle.facts.specs.Symbols.{Fact}
use Rattle.walk_trees.specs.Trees.{Tree, Leaf, Dead, Claim, Know, Touch, Fork, after, leaves, claims, accesses, ends}
use Rattle.path_steps.specs.Turns.{from, listed_claims, listed_accesses, listed_ends, obliged}

pub tree_claims : {E : Type 0} (launch facts : List Fact) (n : ℕ) (t : Tree E) → map (obliged launch) (from listed_claims facts [] n t) ≡ claims launch facts n t
tree_claims launch facts n (Leaf end) = refl
tree_claims launch facts n Dead = refl
tree_claims launch facts n (Claim o needed settled g rest) = ap (λ l. obliged launch (record { demand = o; needed = needed; settled = settled; goal = g; facts = facts }) ∷ l) (tree_claims launch facts (suc n) rest)
tree_claims launch facts n (Know f rest) = tree_claims launch (facts ++ f ∷ []) n rest
tree_claims launch facts n (Touch t i h rest) = tree_claims launch facts n rest
tree_claims launch facts n (Fork a b) =
    map-append (obliged launch) (from listed_claims facts [] n a) (from listed_claims facts [] (after n a) (b (after n a)))
    ∙ (λ i. tree_claims launch facts n a i ++ tree_claims launch facts (after n a) (b (after n a)) i)

pub tree_accesses : {E : Type 0} (facts : List Fact) (n : ℕ) (t : Tree E) → from listed_accesses facts [] n t ≡ accesses facts n t
tree_accesses facts n (Leaf end) = refl
tree_accesses facts n Dead = refl
tree_accesses facts n (Claim o needed settled g rest) = tree_accesses facts (suc n) rest
tree_accesses facts n (Know f rest) = tree_accesses (facts ++ f ∷ []) n rest
tree_accesses facts n (Touch t i h rest) = ap (λ l. record { target = t; index = i; held = h; facts = facts } ∷ l) (tree_accesses facts n rest)
tree_accesses facts n (Fork a b) = λ i. tree_accesses facts n a i ++ tree_accesses facts (after n a) (b (after n a)) i

pub tree_ends : {E : Type 0} (facts : List Fact) (n : ℕ) (t : Tree E) → from listed_ends facts [] n t ≡ ends facts n t
tree_ends facts n (Leaf end) = refl
tree_ends facts n Dead = refl
tree_ends facts n (Claim o needed settled g rest) = tree_ends facts (suc n) rest
tree_ends facts n (Know f rest) = tree_ends (facts ++ f ∷ []) n rest
tree_ends facts n (Touch t i h rest) = tree_ends facts n rest
tree_ends facts n (Fork a b) = λ i. tree_ends facts n a i ++ tree_ends facts (after n a) (b (after n a)) i

-- as many as there are leaves
pub ends_counted : {E : Type 0} (facts : List Fact) (n : ℕ) (t : Tree E) → length (ends facts n t) ≡ leaves n t
ends_counted facts n (Leaf end) = refl
ends_counted facts n Dead = refl
ends_counted facts n (Claim o needed settled g rest) = ends_counted facts (suc n) rest
ends_counted facts n (Know f rest) = ends_counted (facts ++ f ∷ []) n rest
ends_counted facts n (Touch t i h rest) = ends_counted facts n rest
ends_counted facts n (Fork a b) =
    length-append (ends facts n a) (ends facts (after n a) (b (after n a)))
    ∙ (λ i. ends_counted facts n a i + ends_counted facts (after n a) (b (after n a)) i)
