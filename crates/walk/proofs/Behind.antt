-- A path takes its part of what is left of a tree.
use Rattle.std.proofs.Common.{◌≡◌, ℕ, suc, ◌+◌, List, [], ◌∷◌, Bool, arith, refl, sym, ap, ◌∙◌}
use Rattle.std.specs.Prelude.{Option, Some, None}
use Rattle.facts.specs.Symbols.{Fact}
use Rattle.walk_trees.specs.Trees.{Tree, Leaf, Dead, Claim, Know, Touch, Fork, after}
use Rattle.path_steps.specs.Paths.{Choice, First, Other, front, behind, by_choice}
use Rattle.path_steps.specs.Turns.{taken_in, count_in, turned, next_choices, RightAt, AreRight}
use Rattle.path_steps.proofs.Turning.{ended, next_right}
use Rattle.walk.specs.Behind.{paths_from, paths_left, IsRightNext}

claim_left : {E : Type 0} (n : ℕ) (o : _) (needed settled : Bool) (g : _) (rest : Tree E) (x : Option (List Choice)) → paths_left n (Claim o needed settled g rest) x ≡ paths_left (suc n) rest x
claim_left n o needed settled g rest None = refl
claim_left n o needed settled g rest (Some cs) = refl

fact_left : {E : Type 0} (n : ℕ) (f : Fact) (rest : Tree E) (x : Option (List Choice)) → paths_left n (Know f rest) x ≡ paths_left n rest x
fact_left n f rest None = refl
fact_left n f rest (Some cs) = refl

access_left : {E : Type 0} (n : ℕ) (t i h : _) (rest : Tree E) (x : Option (List Choice)) → paths_left n (Touch t i h rest) x ≡ paths_left n rest x
access_left n t i h rest None = refl
access_left n t i h rest (Some cs) = refl

other_left : {E : Type 0} (n : ℕ) (a : Tree E) (b : ℕ → Tree E) (k : ℕ) (x : Option (List Choice)) (m : ℕ) → paths_left n (Fork a b) (turned (Other k) x m) ≡ paths_left k (b k) x
other_left n a b k None m = refl
other_left n a b k (Some cs) m = refl

-- a path is one of those that are left
pub one_fewer : {E : Type 0} (cs : List Choice) (n : ℕ) (t : Tree E) → AreRight cs n t → paths_from cs n t ≡ suc (paths_left n t (next_choices (taken_in cs t) (count_in cs n t)))
one_fewer cs n (Leaf end) r = refl
one_fewer cs n Dead r = refl
one_fewer cs n (Claim o needed settled g rest) r = one_fewer cs (suc n) rest r ∙ ap suc (sym (claim_left n o needed settled g rest (next_choices (taken_in cs rest) (count_in cs (suc n) rest))))
one_fewer cs n (Know f rest) r = one_fewer cs n rest r ∙ ap suc (sym (fact_left n f rest (next_choices (taken_in cs rest) (count_in cs n rest))))
one_fewer cs n (Touch t i h rest) r = one_fewer cs n rest r ∙ ap suc (sym (access_left n t i h rest (next_choices (taken_in cs rest) (count_in cs n rest))))
one_fewer cs n (Fork a b) r = at (front cs) r (one_fewer (behind cs) n a) (λ k. one_fewer (behind cs) k (b k))
  where
    first : (x : Option (List Choice)) → x ≡ next_choices (taken_in (behind cs) a) (count_in (behind cs) n a) → AreRight (behind cs) n a →
        paths_from (behind cs) n a ≡ suc (paths_left n a x) →
        paths_from (behind cs) n a + paths_from [] (after n a) (b (after n a)) ≡ suc (paths_left n (Fork a b) (turned First x (count_in (behind cs) n a)))
    first None e r h =
        let s = ap (λ m. paths_from [] m (b m)) (ended (behind cs) n a (sym e) r) in
        omega (arith, h, s)
    first (Some es) e r h = omega (arith, h)

    at : (c : Choice) → RightAt c (AreRight (behind cs) n a) (after n a) (λ k. AreRight (behind cs) k (b k)) →
        (AreRight (behind cs) n a → paths_from (behind cs) n a ≡ suc (paths_left n a (next_choices (taken_in (behind cs) a) (count_in (behind cs) n a)))) →
        ((k : ℕ) → AreRight (behind cs) k (b k) → paths_from (behind cs) k (b k) ≡ suc (paths_left k (b k) (next_choices (taken_in (behind cs) (b k)) (count_in (behind cs) k (b k))))) →
        by_choice c (paths_from (behind cs) n a + paths_from [] (after n a) (b (after n a))) (λ k. paths_from (behind cs) k (b k))
        ≡ suc (paths_left n (Fork a b) (next_choices (by_choice c (First ∷ taken_in (behind cs) a) (λ k. Other k ∷ taken_in (behind cs) (b k))) (by_choice c (count_in (behind cs) n a) (λ k. count_in (behind cs) k (b k)))))
    at First r f g = first (next_choices (taken_in (behind cs) a) (count_in (behind cs) n a)) refl r (f r)
    at (Other k) r f g = g k r.1 ∙ ap suc (sym (other_left n a b k (next_choices (taken_in (behind cs) (b k)) (count_in (behind cs) k (b k))) (count_in (behind cs) k (b k))))

-- the numbers of the next choices are right
pub right_next : {E : Type 0} (cs : List Choice) (n : ℕ) (t : Tree E) (x : Option (List Choice)) → next_choices (taken_in cs t) (count_in cs n t) ≡ x → AreRight cs n t → IsRightNext x n t
right_next cs n t None e r = tt
right_next cs n t (Some ds) e r = next_right cs ds n t e r
