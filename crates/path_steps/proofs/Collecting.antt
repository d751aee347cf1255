-- What is found along a path is what is listed along it; what a path has too many of or too large, the tree has.
use Rattle.std.proofs.Common.{◌≡◌, ◌<◌, ◌≤◌, ℕ, suc, Bool, true, false, ◌&&◌, nat_lt, List, [], ◌∷◌, ◌++◌, refl, sym, ap, subst, ◌∙◌, append-nil, arith}
use Rattle.std.proofs.lemmas.Bool.Decides.{nat_tests}
use Rattle.std.proofs.lemmas.List.{append_assoc}
use Rattle.linear.specs.Exact.{fits}
use Rattle.facts.proofs.Tests.{and_left, and_right}
use Rattle.walk_trees.specs.Trees.{Tree, Leaf, Dead, Claim, Know, Touch, Fork, after}
use Rattle.path_steps.specs.Paths.{Choice, First, Other, front, behind, by_choice, noted, is_goal_fit, Found, collect, add_claim, add_fact, add_access, take_first, take_other}
use Rattle.path_steps.specs.Turns.{if_new, along, taken_in, count_in, RightAt, AreRight, listed_claims, listed_accesses, listed_ends, is_tree_fit}

noted_in : {A : Type 0} (cs : List Choice) (x : A) (xs rest : List A) → noted cs x xs ++ rest ≡ xs ++ (if_new cs (x ∷ []) ++ rest)
noted_in [] x xs rest = append_assoc xs (x ∷ []) rest
noted_in (c ∷ cs) x xs rest = refl

nothing : {A : Type 0} (cs : List Choice) (rest : List A) → rest ≡ if_new cs [] ++ rest
nothing [] rest = refl
nothing (c ∷ cs) rest = refl

no_new : {A : Type 0} (cs : List Choice) → [] ≡ if_new {A = A} cs []
no_new [] = refl
no_new (c ∷ cs) = refl

noted_here : {A : Type 0} (cs : List Choice) (x : A) (xs : List A) → noted cs x xs ≡ xs ++ if_new cs (x ∷ [])
noted_here [] x xs = refl
noted_here (c ∷ cs) x xs = sym (append-nil xs)

pub found_claims : {E : Type 0} (m : Found E) (t : Tree E) → (collect m t).claims ≡ m.claims ++ along listed_claims m.facts m.left m.count t
unfolding collect
found_claims m (Leaf end) = sym (append-nil m.claims) ∙ ap (λ l. m.claims ++ l) (no_new m.left)
found_claims m Dead = sym (append-nil m.claims)
found_claims m (Claim o needed settled g rest) = found_claims (add_claim m o needed settled g) rest ∙ noted_in m.left (record { demand = o; needed = needed; settled = settled; goal = g; facts = m.facts }) m.claims (along listed_claims m.facts m.left (suc m.count) rest)
found_claims m (Know f rest) = found_claims (add_fact m f) rest
found_claims m (Touch t i h rest) = found_claims (add_access m t i h) rest ∙ ap (λ l. m.claims ++ l) (nothing m.left (along listed_claims m.facts m.left m.count rest))
found_claims m (Fork a b) = at (front m.left) (found_claims (take_first m) a) (λ k. found_claims (take_other k m) (b k))
  where
    at : (c : Choice) → (collect (take_first m) a).claims ≡ m.claims ++ along listed_claims m.facts (behind m.left) m.count a →
        ((k : ℕ) → (collect (take_other k m) (b k)).claims ≡ m.claims ++ along listed_claims m.facts (behind m.left) k (b k)) →
        (by_choice c (collect (take_first m) a) (λ k. collect (take_other k m) (b k))).claims ≡ m.claims ++ by_choice c (along listed_claims m.facts (behind m.left) m.count a) (λ k. along listed_claims m.facts (behind m.left) k (b k))
    at First f g = f
    at (Other k) f g = g k

pub found_accesses : {E : Type 0} (m : Found E) (t : Tree E) → (collect m t).accesses ≡ m.accesses ++ along listed_accesses m.facts m.left m.count t
unfolding collect
found_accesses m (Leaf end) = sym (append-nil m.accesses) ∙ ap (λ l. m.accesses ++ l) (no_new m.left)
found_accesses m Dead = sym (append-nil m.accesses)
found_accesses m (Claim o needed settled g rest) = found_accesses (add_claim m o needed settled g) rest ∙ ap (λ l. m.accesses ++ l) (nothing m.left (along listed_accesses m.facts m.left (suc m.count) rest))
found_accesses m (Know f rest) = found_accesses (add_fact m f) rest
found_accesses m (Touch t i h rest) = found_accesses (add_access m t i h) rest ∙ noted_in m.left (record { target = t; index = i; held = h; facts = m.facts }) m.accesses (along listed_accesses m.facts m.left m.count rest)
found_accesses m (Fork a b) = at (front m.left) (found_accesses (take_first m) a) (λ k. found_accesses (take_other k m) (b k))
  where
    at : (c : Choice) → (collect (take_first m) a).accesses ≡ m.accesses ++ along listed_accesses m.facts (behind m.left) m.count a →
        ((k : ℕ) → (collect (take_other k m) (b k)).accesses ≡ m.accesses ++ along listed_accesses m.facts (behind m.left) k (b k)) →
        (by_choice c (collect (take_first m) a) (λ k. collect (take_other k m) (b k))).accesses ≡ m.accesses ++ by_choice c (along listed_accesses m.facts (behind m.left) m.count a) (λ k. along listed_accesses m.facts (behind m.left) k (b k))
    at First f g = f
    at (Other k) f g = g k

pub found_ends : {E : Type 0} (m : Found E) (t : Tree E) → (collect m t).ends ≡ m.ends ++ along listed_ends m.facts m.left m.count t
unfolding collect
found_ends m (Leaf end) = noted_here m.left (record { arrived = end; facts = m.facts }) m.ends
found_ends m Dead = sym (append-nil m.ends)
found_ends m (Claim o needed settled g rest) = found_ends (add_claim m o needed settled g) rest ∙ ap (λ l. m.ends ++ l) (nothing m.left (along listed_ends m.facts m.left (suc m.count) rest))
found_ends m (Know f rest) = found_ends (add_fact m f) rest
found_ends m (Touch t i h rest) = found_ends (add_access m t i h) rest ∙ ap (λ l. m.ends ++ l) (nothing m.left (along listed_ends m.facts m.left m.count rest))
found_ends m (Fork a b) = at (front m.left) (found_ends (take_first m) a) (λ k. found_ends (take_other k m) (b k))
  where
    at : (c : Choice) → (collect (take_first m) a).ends ≡ m.ends ++ along listed_ends m.facts (behind m.left) m.count a →
        ((k : ℕ) → (collect (take_other k m) (b k)).ends ≡ m.ends ++ along listed_ends m.facts (behind m.left) k (b k)) →
        (by_choice c (collect (take_first m) a) (λ k. collect (take_other k m) (b k))).ends ≡ m.ends ++ by_choice c (along listed_ends m.facts (behind m.left) m.count a) (λ k. along listed_ends m.facts (behind m.left) k (b k))
    at First f g = f
    at (Other k) f g = g k

pub found_taken : {E : Type 0} (m : Found E) (t : Tree E) → (collect m t).taken ≡ m.taken ++ taken_in m.left t
unfolding collect
found_taken m (Leaf end) = sym (append-nil m.taken)
found_taken m Dead = sym (append-nil m.taken)
found_taken m (Claim o needed settled g rest) = found_taken (add_claim m o needed settled g) rest
found_taken m (Know f rest) = found_taken (add_fact m f) rest
found_taken m (Touch t i h rest) = found_taken (add_access m t i h) rest
found_taken m (Fork a b) = at (front m.left) (found_taken (take_first m) a) (λ k. found_taken (take_other k m) (b k))
  where
    at : (c : Choice) → (collect (take_first m) a).taken ≡ (m.taken ++ First ∷ []) ++ taken_in (behind m.left) a →
        ((k : ℕ) → (collect (take_other k m) (b k)).taken ≡ (m.taken ++ Other k ∷ []) ++ taken_in (behind m.left) (b k)) →
        (by_choice c (collect (take_first m) a) (λ k. collect (take_other k m) (b k))).taken ≡ m.taken ++ by_choice c (First ∷ taken_in (behind m.left) a) (λ k. Other k ∷ taken_in (behind m.left) (b k))
    at First f g = f ∙ append_assoc m.taken (First ∷ []) _
    at (Other k) f g = g k ∙ append_assoc m.taken (Other k ∷ []) _

pub found_count : {E : Type 0} (m : Found E) (t : Tree E) → (collect m t).count ≡ count_in m.left m.count t
unfolding collect
found_count m (Leaf end) = refl
found_count m Dead = refl
found_count m (Claim o needed settled g rest) = found_count (add_claim m o needed settled g) rest
found_count m (Know f rest) = found_count (add_fact m f) rest
found_count m (Touch t i h rest) = found_count (add_access m t i h) rest
found_count m (Fork a b) = at (front m.left) (found_count (take_first m) a) (λ k. found_count (take_other k m) (b k))
  where
    at : (c : Choice) → (collect (take_first m) a).count ≡ count_in (behind m.left) m.count a →
        ((k : ℕ) → (collect (take_other k m) (b k)).count ≡ count_in (behind m.left) k (b k)) →
        (by_choice c (collect (take_first m) a) (λ k. collect (take_other k m) (b k))).count ≡ by_choice c (count_in (behind m.left) m.count a) (λ k. count_in (behind m.left) k (b k))
    at First f g = f
    at (Other k) f g = g k

-- no fewer claims stand behind a tree than in front of it
pub after_more : {E : Type 0} (n : ℕ) (t : Tree E) → n ≤ after n t
after_more n (Leaf end) = omega arith
after_more n Dead = omega arith
after_more n (Claim o needed settled g rest) = omega (arith, after_more (suc n) rest)
after_more n (Know f rest) = after_more n rest
after_more n (Touch t i h rest) = after_more n rest
after_more n (Fork a b) = omega (arith, after_more n a, after_more (after n a) (b (after n a)))

-- a claim that is one too many on a path is so in the tree
pub too_many : {E : Type 0} (m : Found E) (t : Tree E) → (collect m t).is_few ≡ false → m.is_few ≡ true → AreRight m.left m.count t → 65536 < after m.count t
unfolding collect
too_many m (Leaf end) h k r = absurd (cc (h, k))
too_many m Dead h k r = absurd (cc (h, k))
too_many m (Claim o needed settled g rest) h k r = by (nat_lt m.count 65536) refl (λ e. too_many (add_claim m o needed settled g) rest h e r)
  where
    by : (b : Bool) → b ≡ nat_lt m.count 65536 → ((m.is_few && nat_lt m.count 65536) ≡ true → 65536 < after (suc m.count) rest) → 65536 < after (suc m.count) rest
    by true e f = f (ap (λ b. b && nat_lt m.count 65536) k ∙ sym e)
    by false e f = let q : nat_lt m.count 65536 ≡ false = sym e in let l : 65536 ≤ m.count = grind (arith, nat_tests) in omega (arith, l, after_more (suc m.count) rest)
too_many m (Know f rest) h k r = too_many (add_fact m f) rest h k r
too_many m (Touch t i e rest) h k r = too_many (add_access m t i e) rest h k r
too_many m (Fork a b) h k r = at (front m.left) h r (λ h' r'. too_many (take_first m) a h' k r') (λ j h' r'. too_many (take_other j m) (b j) h' k r')
  where
    at : (c : Choice) → (by_choice c (collect (take_first m) a) (λ j. collect (take_other j m) (b j))).is_few ≡ false →
        RightAt c (AreRight (behind m.left) m.count a) (after m.count a) (λ j. AreRight (behind m.left) j (b j)) →
        ((collect (take_first m) a).is_few ≡ false → AreRight (behind m.left) m.count a → 65536 < after m.count a) →
        ((j : ℕ) → (collect (take_other j m) (b j)).is_few ≡ false → AreRight (behind m.left) j (b j) → 65536 < after j (b j)) →
        65536 < after (after m.count a) (b (after m.count a))
    at First h r f g = omega (arith, f h r, after_more (after m.count a) (b (after m.count a)))
    at (Other j) h r f g = subst (λ n. 65536 < after n (b n)) r.0 (g j h r.1)

-- a form on a path that does not fit is one of the tree
pub too_large : {E : Type 0} (m : Found E) (t : Tree E) → (collect m t).is_fit ≡ false → m.is_fit ≡ true → AreRight m.left m.count t → is_tree_fit m.count t ≡ false
unfolding collect
too_large m (Leaf end) h k r = absurd (cc (h, k))
too_large m Dead h k r = absurd (cc (h, k))
too_large m (Claim o needed settled g rest) h k r = by (is_goal_fit g) refl (λ e. too_large (add_claim m o needed settled g) rest h e r)
  where
    by : (b : Bool) → b ≡ is_goal_fit g → ((m.is_fit && is_goal_fit g) ≡ true → is_tree_fit (suc m.count) rest ≡ false) → (is_goal_fit g && is_tree_fit (suc m.count) rest) ≡ false
    by true e f = and_right (is_goal_fit g) _ (f (ap (λ b. b && is_goal_fit g) k ∙ sym e))
    by false e f = and_left (is_goal_fit g) _ (sym e)
too_large m (Know x rest) h k r = by (fits x) refl (λ e. too_large (add_fact m x) rest h e r)
  where
    by : (b : Bool) → b ≡ fits x → ((m.is_fit && fits x) ≡ true → is_tree_fit m.count rest ≡ false) → (fits x && is_tree_fit m.count rest) ≡ false
    by true e f = and_right (fits x) _ (f (ap (λ b. b && fits x) k ∙ sym e))
    by false e f = and_left (fits x) _ (sym e)
too_large m (Touch t x d rest) h k r = by (fits x) refl (λ e. too_large (add_access m t x d) rest h e r)
  where
    by : (b : Bool) → b ≡ fits x → ((m.is_fit && fits x) ≡ true → is_tree_fit m.count rest ≡ false) → (fits x && is_tree_fit m.count rest) ≡ false
    by true e f = and_right (fits x) _ (f (ap (λ b. b && fits x) k ∙ sym e))
    by false e f = and_left (fits x) _ (sym e)
too_large m (Fork a b) h k r = at (front m.left) h r (λ h' r'. too_large (take_first m) a h' k r') (λ j h' r'. too_large (take_other j m) (b j) h' k r')
  where
    at : (c : Choice) → (by_choice c (collect (take_first m) a) (λ j. collect (take_other j m) (b j))).is_fit ≡ false →
        RightAt c (AreRight (behind m.left) m.count a) (after m.count a) (λ j. AreRight (behind m.left) j (b j)) →
        ((collect (take_first m) a).is_fit ≡ false → AreRight (behind m.left) m.count a → is_tree_fit m.count a ≡ false) →
        ((j : ℕ) → (collect (take_other j m) (b j)).is_fit ≡ false → AreRight (behind m.left) j (b j) → is_tree_fit j (b j) ≡ false) →
        (is_tree_fit m.count a && is_tree_fit (after m.count a) (b (after m.count a))) ≡ false
    at First h r f g = and_left _ _ (f h r)
    at (Other j) h r f g = and_right (is_tree_fit m.count a) _ (subst (λ n. is_tree_fit n (b n) ≡ false) r.0 (g j h r.1))
