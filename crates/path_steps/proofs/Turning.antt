-- One path after another lists the tree in its order.
use Rattle.std.proofs.Common.{◌≡◌, ℕ, suc, List, [], ◌∷◌, ◌++◌, refl, sym, ap, subst, ◌∙◌, append-nil}
use Rattle.std.specs.Prelude.{Bool, Option, Some, None}
use Rattle.std.proofs.lemmas.List.{append_assoc}
use Rattle.facts.specs.Symbols.{Fact}
use Rattle.walk_trees.specs.Trees.{Tree, Leaf, Dead, Claim, Know, Touch, Fork, after}
use Rattle.path_steps.specs.Paths.{Choice, First, Other, front, behind, by_choice}
use Rattle.path_steps.specs.Turns.{Listed, if_new, along, from, taken_in, count_in, turned, next_choices, rest_of, RightAt, AreRight}

-- no choices are right
pub none_right : {E : Type 0} (n : ℕ) (t : Tree E) → AreRight [] n t
none_right n (Leaf end) = tt
none_right n Dead = tt
none_right n (Claim o needed settled g rest) = none_right (suc n) rest
none_right n (Know f rest) = none_right n rest
none_right n (Touch t i h rest) = none_right n rest
none_right n (Fork a b) = none_right n a

no_first : (x : Option (List Choice)) (n : ℕ) → turned First x n ≡ None → ⊥
no_first None n h = absurd cc
no_first (Some cs) n h = absurd cc

other_none : (k : ℕ) (x : Option (List Choice)) (n : ℕ) → turned (Other k) x n ≡ None → x ≡ None
other_none k None n h = refl
other_none k (Some cs) n h = absurd cc

-- where no path comes after it, all claims stand before a path's end
pub ended : {E : Type 0} (cs : List Choice) (n : ℕ) (t : Tree E) → next_choices (taken_in cs t) (count_in cs n t) ≡ None → AreRight cs n t → count_in cs n t ≡ after n t
ended cs n (Leaf end) h r = refl
ended cs n Dead h r = refl
ended cs n (Claim o needed settled g rest) h r = ended cs (suc n) rest h r
ended cs n (Know f rest) h r = ended cs n rest h r
ended cs n (Touch t i k rest) h r = ended cs n rest h r
ended cs n (Fork a b) h r = at (front cs) h r (λ k h' r'. ended (behind cs) k (b k) h' r')
  where
    at : (c : Choice) → next_choices (by_choice c (First ∷ taken_in (behind cs) a) (λ k. Other k ∷ taken_in (behind cs) (b k))) (by_choice c (count_in (behind cs) n a) (λ k. count_in (behind cs) k (b k))) ≡ None →
        RightAt c (AreRight (behind cs) n a) (after n a) (λ k. AreRight (behind cs) k (b k)) →
        ((k : ℕ) → next_choices (taken_in (behind cs) (b k)) (count_in (behind cs) k (b k)) ≡ None → AreRight (behind cs) k (b k) → count_in (behind cs) k (b k) ≡ after k (b k)) →
        by_choice c (count_in (behind cs) n a) (λ k. count_in (behind cs) k (b k)) ≡ after (after n a) (b (after n a))
    at First h r f = absurd (no_first (next_choices (taken_in (behind cs) a) (count_in (behind cs) n a)) (count_in (behind cs) n a) h)
    at (Other k) h r f = f k (other_none k (next_choices (taken_in (behind cs) (b k)) (count_in (behind cs) k (b k))) (count_in (behind cs) k (b k)) h) r.1 ∙ ap (λ m. after m (b m)) r.0

-- the choices of the next path are right
pub next_right : {E : Type 0} (cs ds : List Choice) (n : ℕ) (t : Tree E) → next_choices (taken_in cs t) (count_in cs n t) ≡ Some ds → AreRight cs n t → AreRight ds n t
next_right cs ds n (Leaf end) h r = tt
next_right cs ds n Dead h r = tt
next_right cs ds n (Claim o needed settled g rest) h r = next_right cs ds (suc n) rest h r
next_right cs ds n (Know f rest) h r = next_right cs ds n rest h r
next_right cs ds n (Touch t i k rest) h r = next_right cs ds n rest h r
next_right cs ds n (Fork a b) h r = at (front cs) h r (λ es. next_right (behind cs) es n a) (λ k es. next_right (behind cs) es k (b k))
  where
    first : (x : Option (List Choice)) → x ≡ next_choices (taken_in (behind cs) a) (count_in (behind cs) n a) → turned First x (count_in (behind cs) n a) ≡ Some ds → AreRight (behind cs) n a →
        ((es : List Choice) → next_choices (taken_in (behind cs) a) (count_in (behind cs) n a) ≡ Some es → AreRight (behind cs) n a → AreRight es n a) → AreRight ds n (Fork a b)
    first None e h r f =
        let d : Other (count_in (behind cs) n a) ∷ [] ≡ ds = cc in
        subst (λ l. AreRight l n (Fork a b)) d (ended (behind cs) n a (sym e) r, none_right (count_in (behind cs) n a) (b (count_in (behind cs) n a)))
    first (Some es) e h r f =
        let d : First ∷ es ≡ ds = cc in
        subst (λ l. AreRight l n (Fork a b)) d (f es (sym e) r)

    other : (k : ℕ) (x : Option (List Choice)) → x ≡ next_choices (taken_in (behind cs) (b k)) (count_in (behind cs) k (b k)) → turned (Other k) x (count_in (behind cs) k (b k)) ≡ Some ds → k ≡ after n a → AreRight (behind cs) k (b k) →
        ((es : List Choice) → next_choices (taken_in (behind cs) (b k)) (count_in (behind cs) k (b k)) ≡ Some es → AreRight (behind cs) k (b k) → AreRight es k (b k)) → AreRight ds n (Fork a b)
    other k None e h d r f = absurd cc
    other k (Some es) e h d r f =
        let q : Other k ∷ es ≡ ds = cc in
        subst (λ l. AreRight l n (Fork a b)) q (d, f es (sym e) r)

    at : (c : Choice) → next_choices (by_choice c (First ∷ taken_in (behind cs) a) (λ k. Other k ∷ taken_in (behind cs) (b k))) (by_choice c (count_in (behind cs) n a) (λ k. count_in (behind cs) k (b k))) ≡ Some ds →
        RightAt c (AreRight (behind cs) n a) (after n a) (λ k. AreRight (behind cs) k (b k)) →
        ((es : List Choice) → next_choices (taken_in (behind cs) a) (count_in (behind cs) n a) ≡ Some es → AreRight (behind cs) n a → AreRight es n a) →
        ((k : ℕ) (es : List Choice) → next_choices (taken_in (behind cs) (b k)) (count_in (behind cs) k (b k)) ≡ Some es → AreRight (behind cs) k (b k) → AreRight es k (b k)) → AreRight ds n (Fork a b)
    at First h r f g = first (next_choices (taken_in (behind cs) a) (count_in (behind cs) n a)) refl h r f
    at (Other k) h r f g = other k (next_choices (taken_in (behind cs) (b k)) (count_in (behind cs) k (b k))) refl h r.0 r.1 (g k)

module _ {E A : Type 0} (w : Listed E A) where
  -- what is noted before a fork belongs to an earlier path
  claim_turned : (facts : List Fact) (n : ℕ) (o : _) (needed settled : Bool) (g : _) (rest : Tree E) (c : Choice) (x : Option (List Choice)) (k : ℕ) → rest_of w facts n (Claim o needed settled g rest) (turned c x k) ≡ rest_of w facts (suc n) rest (turned c x k)
  claim_turned facts n o needed settled g rest c (Some cs) k = refl
  claim_turned facts n o needed settled g rest First None k = refl
  claim_turned facts n o needed settled g rest (Other m) None k = refl

  claim_rest : (facts : List Fact) (n : ℕ) (o : _) (needed settled : Bool) (g : _) (rest : Tree E) (cs : List Choice) (k : ℕ) → rest_of w facts n (Claim o needed settled g rest) (next_choices cs k) ≡ rest_of w facts (suc n) rest (next_choices cs k)
  claim_rest facts n o needed settled g rest [] k = refl
  claim_rest facts n o needed settled g rest (c ∷ cs) k = claim_turned facts n o needed settled g rest c (next_choices cs k) k

  access_turned : (facts : List Fact) (n : ℕ) (t i h : _) (rest : Tree E) (c : Choice) (x : Option (List Choice)) (k : ℕ) → rest_of w facts n (Touch t i h rest) (turned c x k) ≡ rest_of w facts n rest (turned c x k)
  access_turned facts n t i h rest c (Some cs) k = refl
  access_turned facts n t i h rest First None k = refl
  access_turned facts n t i h rest (Other m) None k = refl

  access_rest : (facts : List Fact) (n : ℕ) (t i h : _) (rest : Tree E) (cs : List Choice) (k : ℕ) → rest_of w facts n (Touch t i h rest) (next_choices cs k) ≡ rest_of w facts n rest (next_choices cs k)
  access_rest facts n t i h rest [] k = refl
  access_rest facts n t i h rest (c ∷ cs) k = access_turned facts n t i h rest c (next_choices cs k) k

  fact_rest : (facts : List Fact) (n : ℕ) (f : Fact) (rest : Tree E) (x : Option (List Choice)) → rest_of w facts n (Know f rest) x ≡ rest_of w (facts ++ f ∷ []) n rest x
  fact_rest facts n f rest None = refl
  fact_rest facts n f rest (Some cs) = refl

  other_rest : (facts : List Fact) (n : ℕ) (a : Tree E) (b : ℕ → Tree E) (k : ℕ) (x : Option (List Choice)) (m : ℕ) → rest_of w facts n (Fork a b) (turned (Other k) x m) ≡ rest_of w facts k (b k) x
  other_rest facts n a b k None m = refl
  other_rest facts n a b k (Some cs) m = refl

  -- a path and all that come after it
  pub turns : (facts : List Fact) (cs : List Choice) (n : ℕ) (t : Tree E) → AreRight cs n t → along w facts cs n t ++ rest_of w facts n t (next_choices (taken_in cs t) (count_in cs n t)) ≡ from w facts cs n t
  turns facts cs n (Leaf end) r = append-nil (if_new cs (w.of_end facts end))
  turns facts cs n Dead r = refl
  turns facts cs n (Claim o needed settled g rest) r =
      let x = if_new cs (w.of_claim facts o needed settled g) in
      ap (λ l. (x ++ along w facts cs (suc n) rest) ++ l) (claim_rest facts n o needed settled g rest (taken_in cs rest) (count_in cs (suc n) rest))
      ∙ append_assoc x _ _ ∙ ap (λ l. x ++ l) (turns facts cs (suc n) rest r)
  turns facts cs n (Know f rest) r =
      ap (λ l. along w (facts ++ f ∷ []) cs n rest ++ l) (fact_rest facts n f rest (next_choices (taken_in cs rest) (count_in cs n rest))) ∙ turns (facts ++ f ∷ []) cs n rest r
  turns facts cs n (Touch t i h rest) r =
      let x = if_new cs (w.of_access facts t i h) in
      ap (λ l. (x ++ along w facts cs n rest) ++ l) (access_rest facts n t i h rest (taken_in cs rest) (count_in cs n rest))
      ∙ append_assoc x _ _ ∙ ap (λ l. x ++ l) (turns facts cs n rest r)
  turns facts cs n (Fork a b) r = at (front cs) r (turns facts (behind cs) n a) (λ k. turns facts (behind cs) k (b k))
    where
      second : List A
      second = from w facts [] (after n a) (b (after n a))

      first : (x : Option (List Choice)) → x ≡ next_choices (taken_in (behind cs) a) (count_in (behind cs) n a) → AreRight (behind cs) n a →
          along w facts (behind cs) n a ++ rest_of w facts n a x ≡ from w facts (behind cs) n a →
          along w facts (behind cs) n a ++ rest_of w facts n (Fork a b) (turned First x (count_in (behind cs) n a)) ≡ from w facts (behind cs) n a ++ from w facts [] (after n a) (b (after n a))
      first None e r h = (λ i. (sym (append-nil (along w facts (behind cs) n a)) ∙ h) i ++ ap (λ m. from w facts [] m (b m)) (ended (behind cs) n a (sym e) r) i)
      first (Some es) e r h = sym (append_assoc (along w facts (behind cs) n a) _ _) ∙ ap (λ l. l ++ from w facts [] (after n a) (b (after n a))) h

      at : (c : Choice) → RightAt c (AreRight (behind cs) n a) (after n a) (λ k. AreRight (behind cs) k (b k)) →
          (AreRight (behind cs) n a → along w facts (behind cs) n a ++ rest_of w facts n a (next_choices (taken_in (behind cs) a) (count_in (behind cs) n a)) ≡ from w facts (behind cs) n a) →
          ((k : ℕ) → AreRight (behind cs) k (b k) → along w facts (behind cs) k (b k) ++ rest_of w facts k (b k) (next_choices (taken_in (behind cs) (b k)) (count_in (behind cs) k (b k))) ≡ from w facts (behind cs) k (b k)) →
          by_choice c (along w facts (behind cs) n a) (λ k. along w facts (behind cs) k (b k)) ++ rest_of w facts n (Fork a b) (next_choices (by_choice c (First ∷ taken_in (behind cs) a) (λ k. Other k ∷ taken_in (behind cs) (b k))) (by_choice c (count_in (behind cs) n a) (λ k. count_in (behind cs) k (b k))))
          ≡ by_choice c (from w facts (behind cs) n a ++ from w facts [] (after n a) (b (after n a))) (λ k. from w facts (behind cs) k (b k))
      at First r f g = first (next_choices (taken_in (behind cs) a) (count_in (behind cs) n a)) refl r (f r)
      at (Other k) r f g = ap (λ l. along w facts (behind cs) k (b k) ++ l) (other_rest facts n a b k (next_choices (taken_in (behind cs) (b k)) (count_in (behind cs) k (b k))) (count_in (behind cs) k (b k))) ∙ g k r.1
