-- Whether the forms of what is left of a tree are of i64.
use Rattle.std.proofs.Common.{◌≡◌, ℕ, suc, List, [], ◌∷◌, Bool, true, false, ◌&&◌, refl, sym, ap, ◌∙◌}
use Rattle.std.specs.Prelude.{Option, Some, None}
use Rattle.linear.specs.Exact.{fits}
use Rattle.facts.specs.Symbols.{Fact}
use Rattle.walk_trees.specs.Fitting.{goal_fits, tree_fits}
use Rattle.walk_trees.specs.Trees.{Goal, Tree, Leaf, Dead, Claim, Know, Touch, Fork, after}
use Rattle.path_steps.specs.Paths.{Choice, First, Other, front, behind, by_choice, is_goal_fit, Found, collect, add_claim, add_fact, add_access, take_first, take_other}
use Rattle.path_steps.specs.Turns.{taken_in, count_in, turned, next_choices, RightAt, AreRight, is_tree_fit}
use Rattle.path_steps.proofs.Turning.{ended}
use Rattle.walk.specs.Behind.{fits_from, rest_fits}

left_true : (a b : Bool) → (a && b) ≡ true → a ≡ true
left_true true b h = refl
left_true false b h = h

right_true : (a b : Bool) → (a && b) ≡ true → b ≡ true
right_true true b h = h
right_true false b h = absurd cc

true_and : (a b : Bool) → a ≡ true → (a && b) ≡ b
true_and true b e = refl
true_and false b e = absurd cc

-- both say the same
pub tree_same : {E : Type 0} (n : ℕ) (t : Tree E) → is_tree_fit n t ≡ tree_fits n t
tree_same n (Leaf end) = refl
tree_same n Dead = refl
tree_same n (Claim o needed settled g rest) = ap (λ b. goal_fits g && b) (tree_same (suc n) rest)
tree_same n (Know f rest) = ap (λ b. fits f && b) (tree_same n rest)
tree_same n (Touch t i h rest) = ap (λ b. fits i && b) (tree_same n rest)
tree_same n (Fork a b) = λ i. tree_same n a i && tree_same (after n a) (b (after n a)) i

-- from the first choices on it is the whole tree
pub all_fits : {E : Type 0} (n : ℕ) (t : Tree E) → fits_from [] n t ≡ tree_fits n t
all_fits n (Leaf end) = refl
all_fits n Dead = refl
all_fits n (Claim o needed settled g rest) = ap (λ b. goal_fits g && b) (all_fits (suc n) rest)
all_fits n (Know f rest) = ap (λ b. fits f && b) (all_fits n rest)
all_fits n (Touch t i h rest) = ap (λ b. fits i && b) (all_fits n rest)
all_fits n (Fork a b) = λ i. all_fits n a i && all_fits (after n a) (b (after n a)) i

-- where all forms to the end fit, those before it do
pub fit_before : {E : Type 0} (m : Found E) (t : Tree E) → (collect m t).is_fit ≡ true → m.is_fit ≡ true
unfolding collect
fit_before m (Leaf end) h = h
fit_before m Dead h = h
fit_before m (Claim o needed settled g rest) h = left_true m.is_fit (is_goal_fit g) (fit_before (add_claim m o needed settled g) rest h)
fit_before m (Know f rest) h = left_true m.is_fit (fits f) (fit_before (add_fact m f) rest h)
fit_before m (Touch t i k rest) h = left_true m.is_fit (fits i) (fit_before (add_access m t i k) rest h)
fit_before m (Fork a b) h = at (front m.left) h (fit_before (take_first m) a) (λ k. fit_before (take_other k m) (b k))
  where
    at : (c : Choice) → (by_choice c (collect (take_first m) a) (λ k. collect (take_other k m) (b k))).is_fit ≡ true →
        ((collect (take_first m) a).is_fit ≡ true → m.is_fit ≡ true) → ((k : ℕ) → (collect (take_other k m) (b k)).is_fit ≡ true → m.is_fit ≡ true) → m.is_fit ≡ true
    at First h f g = f h
    at (Other k) h f g = g k h

claim_rest : {E : Type 0} (n : ℕ) (o : _) (needed settled : Bool) (g : Goal) (rest : Tree E) (x : Option (List Choice)) → goal_fits g ≡ true → rest_fits n (Claim o needed settled g rest) x ≡ rest_fits (suc n) rest x
claim_rest n o needed settled g rest None h = refl
claim_rest n o needed settled g rest (Some cs) h = true_and (goal_fits g) (fits_from cs (suc n) rest) h

fact_rest : {E : Type 0} (n : ℕ) (f : Fact) (rest : Tree E) (x : Option (List Choice)) → fits f ≡ true → rest_fits n (Know f rest) x ≡ rest_fits n rest x
fact_rest n f rest None h = refl
fact_rest n f rest (Some cs) h = true_and (fits f) (fits_from cs n rest) h

access_rest : {E : Type 0} (n : ℕ) (t : _) (i : Fact) (k : _) (rest : Tree E) (x : Option (List Choice)) → fits i ≡ true → rest_fits n (Touch t i k rest) x ≡ rest_fits n rest x
access_rest n t i k rest None h = refl
access_rest n t i k rest (Some cs) h = true_and (fits i) (fits_from cs n rest) h

other_rest : {E : Type 0} (n : ℕ) (a : Tree E) (b : ℕ → Tree E) (k : ℕ) (x : Option (List Choice)) (m : ℕ) → rest_fits n (Fork a b) (turned (Other k) x m) ≡ rest_fits k (b k) x
other_rest n a b k None m = refl
other_rest n a b k (Some cs) m = refl

-- where all forms along a path fit, what is left decides
pub rest_decides : {E : Type 0} (m : Found E) (t : Tree E) → (collect m t).is_fit ≡ true → AreRight m.left m.count t → rest_fits m.count t (next_choices (taken_in m.left t) (count_in m.left m.count t)) ≡ fits_from m.left m.count t
unfolding collect
rest_decides m (Leaf end) h r = refl
rest_decides m Dead h r = refl
rest_decides m (Claim o needed settled g rest) h r =
    let f = right_true m.is_fit (is_goal_fit g) (fit_before (add_claim m o needed settled g) rest h) in
    claim_rest m.count o needed settled g rest (next_choices (taken_in m.left rest) (count_in m.left (suc m.count) rest)) f
    ∙ rest_decides (add_claim m o needed settled g) rest h r ∙ sym (true_and (goal_fits g) (fits_from m.left (suc m.count) rest) f)
rest_decides m (Know x rest) h r =
    let f = right_true m.is_fit (fits x) (fit_before (add_fact m x) rest h) in
    fact_rest m.count x rest (next_choices (taken_in m.left rest) (count_in m.left m.count rest)) f
    ∙ rest_decides (add_fact m x) rest h r ∙ sym (true_and (fits x) (fits_from m.left m.count rest) f)
rest_decides m (Touch t x k rest) h r =
    let f = right_true m.is_fit (fits x) (fit_before (add_access m t x k) rest h) in
    access_rest m.count t x k rest (next_choices (taken_in m.left rest) (count_in m.left m.count rest)) f
    ∙ rest_decides (add_access m t x k) rest h r ∙ sym (true_and (fits x) (fits_from m.left m.count rest) f)
rest_decides m (Fork a b) h r = at (front m.left) h r (λ h' r'. rest_decides (take_first m) a h' r') (λ k h' r'. rest_decides (take_other k m) (b k) h' r')
  where
    first : (x : Option (List Choice)) → x ≡ next_choices (taken_in (behind m.left) a) (count_in (behind m.left) m.count a) → AreRight (behind m.left) m.count a →
        rest_fits m.count a x ≡ fits_from (behind m.left) m.count a →
        rest_fits m.count (Fork a b) (turned First x (count_in (behind m.left) m.count a)) ≡ (fits_from (behind m.left) m.count a && fits_from [] (after m.count a) (b (after m.count a)))
    first None e r h =
        ap (λ k. fits_from [] k (b k)) (ended (behind m.left) m.count a (sym e) r)
        ∙ sym (true_and (fits_from (behind m.left) m.count a) (fits_from [] (after m.count a) (b (after m.count a))) (sym h))
    first (Some es) e r h = ap (λ c. c && fits_from [] (after m.count a) (b (after m.count a))) h

    at : (c : Choice) → (by_choice c (collect (take_first m) a) (λ k. collect (take_other k m) (b k))).is_fit ≡ true →
        RightAt c (AreRight (behind m.left) m.count a) (after m.count a) (λ k. AreRight (behind m.left) k (b k)) →
        ((collect (take_first m) a).is_fit ≡ true → AreRight (behind m.left) m.count a → rest_fits m.count a (next_choices (taken_in (behind m.left) a) (count_in (behind m.left) m.count a)) ≡ fits_from (behind m.left) m.count a) →
        ((k : ℕ) → (collect (take_other k m) (b k)).is_fit ≡ true → AreRight (behind m.left) k (b k) → rest_fits k (b k) (next_choices (taken_in (behind m.left) (b k)) (count_in (behind m.left) k (b k))) ≡ fits_from (behind m.left) k (b k)) →
        rest_fits m.count (Fork a b) (next_choices (by_choice c (First ∷ taken_in (behind m.left) a) (λ k. Other k ∷ taken_in (behind m.left) (b k))) (by_choice c (count_in (behind m.left) m.count a) (λ k. count_in (behind m.left) k (b k))))
        ≡ by_choice c (fits_from (behind m.left) m.count a && fits_from [] (after m.count a) (b (after m.count a))) (λ k. fits_from (behind m.left) k (b k))
    at First h r f g = first (next_choices (taken_in (behind m.left) a) (count_in (behind m.left) m.count a)) refl r (f h r)
    at (Other k) h r f g = other_rest m.count a b k (next_choices (taken_in (behind m.left) (b k)) (count_in (behind m.left) k (b k))) (count_in (behind m.left) k (b k)) ∙ g k h r.1
