-- The steps of a place's walk: what an own state goes on to is an own tree.
use Rattle.std.proofs.Common.{ℕ, ◌+◌, ◌&&◌, Bool, true, false, cond, List, [], ◌∷◌, Option, Some, None}
use Rattle.semantics.specs.Core.{Term, Statement, Set, Store, If, Loop, Barrier, Return, Break, Continue}
use Rattle.facts.specs.Symbols.{Fact}
use Rattle.arrivals.specs.Trees.{Stop, AtBarrier, AtHead, AtEnd, Turns}
use Rattle.walk_trees.specs.Trees.{Sort, Goal, Tree, Leaf}
use Rattle.walk_trees.specs.Values.{Value}
use Rattle.walk_trees.specs.Walks.{State, Onward, claim, claimed_once, stand, with_rank, arrived}
use Rattle.walk_trees.specs.Statements.{spot_of}
use Rattle.walk_trees.proofs.OwnQuotients.{IsOwnValue, HasOwn, IsOwnTree, GoesOnBy}
use Rattle.walk_trees.proofs.OwnTrees.{stores_on, selects, own}
use Rattle.walk_trees.proofs.OwnContents.{IsOwnBound}
use Rattle.walk_trees.proofs.Each.{Each}
use Rattle.walk_trees.specs.Operators.{small_product}
use Rattle.obligations.specs.Notes.{Congruence, Multiple}
use Rattle.obligations.specs.Replacing.{replaced}
use Rattle.obligations.specs.Roots.{kinds, are_slots, facts_at, congruences_at, multiples_at}
use Rattle.obligations.specs.Walking.{Placed, on_path, if_replaced, has_form, claim_facts, claim_congruences, claim_product, claim_multiples, is_lawful, refused, arrive_at, stops, rank_on, arrive, enter, store, course}

module _ {E : Type 0} (w : Placed E) (bounds : Each IsOwnBound w.setting.contents) where
  -- from an own state
  abbrev pub GoesOwn : (State E → Tree E) → Type 0
  GoesOwn go = (st : State E) → HasOwn st → IsOwnTree (go st)

  pub either_tree : (b : Bool) (t u : Tree E) → IsOwnTree t → IsOwnTree u → IsOwnTree (cond b t u)
  either_tree true t u h k = h
  either_tree false t u h k = k

  own-refused : (st : State E) → IsOwnTree (refused st)
  unfolding IsOwnTree
  own-refused st = tt

  own-replaced : (b : Bool) (claims : State E → (State E → Tree E) → Tree E) (st : State E) (go : State E → Tree E) → HasOwn st → GoesOwn go → IsOwnTree (claims st go) → IsOwnTree (if_replaced b claims st go)
  unfolding IsOwnTree
  own-replaced true claims st go h g k = k
  own-replaced false claims st go h g k = g (claimed_once st) h

  own-once : (o : Sort) (g : Goal) (settled : Bool) (st : State E) (go : State E → Tree E) → HasOwn st → GoesOwn go → IsOwnTree (claim o true settled g st go)
  unfolding IsOwnTree
  own-once o g settled st go h k = k (claimed_once st) h

  own-twice : (o : Sort) (g g' : Goal) (settled : Bool) (st : State E) (go : State E → Tree E) → HasOwn st → GoesOwn go → IsOwnTree (claim o true settled g st (λ st'. claim o true settled g' st' go))
  unfolding IsOwnTree
  own-twice o g g' settled st go h k = k (claimed_once (claimed_once st)) h

  own-facts : (fs : List Fact) (st : State E) (go : State E → Tree E) → HasOwn st → GoesOwn go → IsOwnTree (claim_facts w fs st go)
  own-facts [] st go h g = g st h
  own-facts (f ∷ fs) st go h g = own-replaced (has_form w st f) _ st _ h (λ st' h'. own-facts fs st' go h' g) (own-once _ _ _ st _ h (λ st' h'. own-facts fs st' go h' g))

  own-congruences : (cs : List Congruence) (st : State E) (go : State E → Tree E) → HasOwn st → GoesOwn go → IsOwnTree (claim_congruences w cs st go)
  own-congruences [] st go h g = g st h
  own-congruences (c ∷ cs) st go h g = own-replaced (has_form w st c.form) _ st _ h (λ st' h'. own-congruences cs st' go h' g) (own-twice _ _ _ _ st _ h (λ st' h'. own-congruences cs st' go h' g))

  own-product : (made : List Fact) (f : Fact) (o : Option Fact) (st : State E) (go : State E → Tree E) → HasOwn st → GoesOwn go → IsOwnTree (claim_product made f o st go)
  unfolding IsOwnTree
  own-product made f None st go h g = g (claimed_once st) h
  own-product made f (Some p) st go h g = g (claimed_once (claimed_once st)) h

  own-multiples : (ms : List Multiple) (st : State E) (go : State E → Tree E) → HasOwn st → GoesOwn go → IsOwnTree (claim_multiples w ms st go)
  own-multiples [] st go h g = g st h
  own-multiples (m ∷ ms) st go h g =
      own-replaced (has_form w st m.form && has_form w st m.of) _ st _ h (λ st' h'. own-multiples ms st' go h' g)
      (own-product _ _ (small_product (replaced (on_path w st) m.of) (w.notes.quotient (st.claims + 1))) st (λ st'. claim_multiples w ms st' go) h (λ st' h'. own-multiples ms st' go h' g))

  own-leaf : (stop : Stop) (turns : Turns) (st : State E) → HasOwn st → IsOwnTree (Leaf (arrived stop turns st))
  unfolding IsOwnTree
  own-leaf stop turns st h = h.0

  own-arrive_at : (a h : Option ℕ) (stop : Stop) (turns : Turns) (st : State E) → HasOwn st → IsOwnTree (arrive_at w a h stop turns st)
  own-arrive_at a h stop turns st o =
      either_tree (are_slots w.kernel 0 (kinds w.kernel) st.variables) _ _
      (own-facts (facts_at w.notes a h) st _ o (λ st1 o1. own-congruences (congruences_at w.notes a h) st1 _ o1 (λ st2 o2. own-multiples (multiples_at w.notes a h) st2 _ o2 (λ st3 o3. own-leaf stop turns st3 o3)))) (own-refused st)

  pub own-stops : (stop : Stop) (turns : Turns) (st : State E) → HasOwn st → IsOwnTree (stops w stop turns st)
  own-stops (AtBarrier n) turns st h = own-arrive_at (Some n) None (AtBarrier n) turns st h
  own-stops (AtHead n again) turns st h = own-arrive_at w.anchor (Some n) (AtHead n again) turns st h
  own-stops AtEnd turns st h = own-leaf AtEnd turns st h

  pub own-arrive : (n : ℕ) (again : Bool) (st : State E) (go : State E → Tree E) → HasOwn st → GoesOwn go → IsOwnTree (arrive w n again st go)
  own-arrive n false st go h g = own-replaced (has_form w st (w.notes.ranking n).form) _ (stand (spot_of n) st) _ h g (own-once _ _ _ (stand (spot_of n) st) _ h g)
  own-arrive n true st go h g = own-replaced (has_form w st (w.notes.ranking n).form) _ (stand (spot_of n) st) _ h g (own-once _ _ _ (stand (spot_of n) st) _ h g)

  pub own-enter : (n : ℕ) (st : State E) (go : State E → Tree E) → HasOwn st → GoesOwn go → IsOwnTree (enter w n st go)
  own-enter n st go h g =
      let on : GoesOwn (λ st'. go (with_rank n (rank_on w n st) st')) = λ st' h'. g (with_rank n (rank_on w n st) st') h' in
      own-replaced (has_form w st (w.notes.ranking n).form) _ (stand (spot_of n) st) _ h on (own-once _ _ _ (stand (spot_of n) st) _ h on)

  pub own-store : (a : Statement) (x y : Value) (st : State E) (go : State E → Tree E) → IsOwnValue x → IsOwnValue y → HasOwn st → GoesOwn go → IsOwnTree (store w a x y st go)
  own-store (Store n a site i e) x y st go p q h g = stores_on w.setting a site x y st go p q h g
  own-store (Set n z e) x y st go p q h g = g st h
  own-store (If n e t f) x y st go p q h g = g st h
  own-store (Loop n e b u) x y st go p q h g = g st h
  own-store (Barrier n l k) x y st go p q h g = g st h
  own-store (Return n) x y st go p q h g = g st h
  own-store (Break n k) x y st go p q h g = g st h
  own-store (Continue n k) x y st go p q h g = g st h

  pub own-value : (n : ℕ) (e : Term) (st : State E) (go : Onward E) → HasOwn st → GoesOnBy go → IsOwnTree ((course w).value n e st go)
  own-value n e st go h g = either_tree (is_lawful e) _ _ ((own w.setting bounds e).as_value (stand (spot_of n) st) go h g) (own-refused st)

  pub own-test : (n : ℕ) (e : Term) (st : State E) (taken skipped : State E → Tree E) → HasOwn st → GoesOwn taken → GoesOwn skipped → IsOwnTree ((course w).test n e st taken skipped)
  own-test n e st taken skipped h g k =
      either_tree (is_lawful e) _ _ ((own w.setting bounds e).as_test (stand (spot_of n) st) _ h (λ b st' h'. selects w.setting b (taken st') (skipped st') (g st' h') (k st' h'))) (own-refused st)
