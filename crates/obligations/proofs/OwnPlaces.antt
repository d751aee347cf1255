-- All accesses and all ends of the trees of places are own.
use Rattle.std.proofs.Common.{◌≡◌, ℕ, suc, true, List, [], ◌∷◌, ◌++◌, map, refl}
use Rattle.std.proofs.lemmas.Bool.{and_from}
use Rattle.semantics.specs.Launch.{Kernel}
use Rattle.semantics.specs.Conditions.{Conditions}
use Rattle.domain.specs.declared.Domain.{Ghosts}
use Rattle.facts.specs.Symbols.{Fact}
use Rattle.facts.specs.Launching.{known}
use Rattle.arrivals.specs.Places.{Place, places}
use Rattle.walk_trees.specs.Trees.{Tree, Leaf, Dead, Claim, Know, Touch, Fork, Access, Ended, after, accesses, ends}
use Rattle.walk_trees.specs.Values.{Value}
use Rattle.walk_trees.specs.Seconds.{is_own, are_own, is_own_access}
use Rattle.walk_trees.specs.Statements.{setting}
use Rattle.walk_trees.proofs.Each.{Each}
use Rattle.walk_trees.proofs.OwnForms.{IsOwn}
use Rattle.walk_trees.proofs.OwnQuotients.{AreOwnValues, IsOwnTree}
use Rattle.walk_trees.proofs.OwnContents.{own-bounds}
use Rattle.walk_trees.proofs.OwnTrees.{IsOwnAccess, one_more, joined, own-accesses, own-terms-test, own-test}
use Rattle.obligations.specs.Notes.{Notes, number_at}
use Rattle.obligations.specs.Telling.{TellsOfItems}
use Rattle.obligations.specs.Roots.{root_state}
use Rattle.obligations.specs.Walking.{placed, tree_of}
use Rattle.obligations.specs.Listing.{Planted, planted, planted_from, all_trees, Of, of_place, accesses_of, ends_in}
use Rattle.obligations.specs.Owning.{are_own_values, is_own_end, all_own_accesses, all_own_ends}
use Rattle.obligations.proofs.OwnCourses.{own-sketch}
use Rattle.obligations.proofs.OwnRoots.{own-root, own-values}

abbrev IsOwnEnd : {E : Type 0} → Ended E → Type 0
IsOwnEnd u = AreOwnValues u.arrived.variables × Each IsOwn u.facts

own-ends : {E : Type 0} (fs : List Fact) (n : ℕ) (t : Tree E) → Each IsOwn fs → IsOwnTree t → Each IsOwnEnd (ends fs n t)
unfolding IsOwnTree
own-ends fs n (Leaf e) h k = ((k, h), tt)
own-ends fs n Dead h k = tt
own-ends fs n (Claim o needed settled g rest) h k = own-ends fs (suc n) rest h k
own-ends fs n (Know f rest) h k = own-ends (fs ++ f ∷ []) n rest (one_more fs f h k.0) k.1
own-ends fs n (Touch t i e rest) h k = own-ends fs n rest h k.1
own-ends fs n (Fork first second) h k = joined IsOwnEnd (ends fs n first) (ends fs (after n first) (second (after n first))) (own-ends fs n first h k.0) (own-ends fs (after n first) (second (after n first)) h (k.1 (after n first)))

-- the same as tests
own-values-test : (vs : List Value) → AreOwnValues vs → are_own_values vs ≡ true
own-values-test [] h = refl
own-values-test (v ∷ vs) h = and_from (is_own v.form) (are_own_values vs) (own-terms-test v.form.terms h.0) (own-values-test vs h.1)

own-end-test : {E : Type 0} (u : Ended E) → IsOwnEnd u → is_own_end u ≡ true
own-end-test u h = and_from (are_own_values u.arrived.variables) (are_own u.facts) (own-values-test u.arrived.variables h.0) (own-test u.facts h.1)

own-access-test : {E : Type 0} (a : Access E) → IsOwnAccess a → is_own_access a ≡ true
own-access-test a h = and_from (is_own a.index) (are_own a.facts) (own-terms-test a.index.terms h.0) (own-test a.facts h.1)

placed-accesses-test : {E : Type 0} (p : Planted E) (us : List (Access E)) (rest : List (Of (Access E))) → Each IsOwnAccess us → all_own_accesses rest ≡ true → all_own_accesses (map (of_place p) us ++ rest) ≡ true
placed-accesses-test p [] rest h k = k
placed-accesses-test p (u ∷ us) rest h k = and_from (is_own_access u) (all_own_accesses (map (of_place p) us ++ rest)) (own-access-test u h.0) (placed-accesses-test p us rest h.1 k)

placed-ends-test : {E : Type 0} (p : Planted E) (us : List (Ended E)) (rest : List (Of (Ended E))) → Each IsOwnEnd us → all_own_ends rest ≡ true → all_own_ends (map (of_place p) us ++ rest) ≡ true
placed-ends-test p [] rest h k = k
placed-ends-test p (u ∷ us) rest h k = and_from (is_own_end u) (all_own_ends (map (of_place p) us ++ rest)) (own-end-test u h.0) (placed-ends-test p us rest h.1 k)

-- a tree with what is known where it begins
record IsOwnPlanted {E : Type 0} (p : Planted E) : Type 0 where
  facts : Each IsOwn p.facts
  tree : IsOwnTree p.tree

accesses_of-own : {E : Type 0} (ps : List (Planted E)) → Each IsOwnPlanted ps → all_own_accesses (accesses_of ps) ≡ true
accesses_of-own [] h = refl
accesses_of-own (p ∷ ps) h = placed-accesses-test p (accesses p.facts p.claims p.tree) (accesses_of ps) (own-accesses p.facts p.claims p.tree h.0.facts h.0.tree) (accesses_of-own ps h.1)

ends_in-own : {E : Type 0} (ps : List (Planted E)) → Each IsOwnPlanted ps → all_own_ends (ends_in ps) ≡ true
ends_in-own [] h = refl
ends_in-own (p ∷ ps) h = placed-ends-test p (ends p.facts p.claims p.tree) (ends_in ps) (own-ends p.facts p.claims p.tree h.0.facts h.0.tree) (ends_in-own ps h.1)

module _ {E : Type 0} (g : Ghosts E) (k : Kernel) (c : Conditions) (n : Notes) (tell : TellsOfItems n) where
  own-planted : (claims : ℕ) (p : Place) → IsOwnPlanted (planted g k c n claims p)
  own-planted claims p =
      let s = setting g k c n.is_wide n.joins n.has_entry in
      let a = number_at p.anchor in
      let h = number_at p.head in
      record { facts = own-root k n tell a h; tree = own-sketch (placed g k c n p) (own-bounds c) k.body p (root_state g (known g k.sizes c) k n claims a h) (own-values s k a h, tt) }

  own-from : (claims : ℕ) (ps : List Place) → Each IsOwnPlanted (planted_from g k c n claims ps)
  own-from claims [] = tt
  own-from claims (p ∷ ps) = (own-planted claims p, own-from (after claims (tree_of g k c n claims p)) ps)

  -- of any places, with so many claims before them
  pub accesses-own-from : (claims : ℕ) (ps : List Place) → all_own_accesses (accesses_of (planted_from g k c n claims ps)) ≡ true
  accesses-own-from claims ps = accesses_of-own (planted_from g k c n claims ps) (own-from claims ps)

  pub ends-own-from : (claims : ℕ) (ps : List Place) → all_own_ends (ends_in (planted_from g k c n claims ps)) ≡ true
  ends-own-from claims ps = ends_in-own (planted_from g k c n claims ps) (own-from claims ps)

  pub accesses-own : all_own_accesses (accesses_of (all_trees g k c n)) ≡ true
  accesses-own = accesses-own-from 0 (places k.body)

  pub ends-own : all_own_ends (ends_in (all_trees g k c n)) ≡ true
  ends-own = ends-own-from 0 (places k.body)
