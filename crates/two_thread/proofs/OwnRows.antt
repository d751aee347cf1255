-- Accesses and ends of rows of paths have no symbols of the second item where those of each path have none.
use Rattle.std.proofs.Common.{◌≡◌, List, [], ◌∷◌, ◌++◌, map, true, refl, sym, ap, ◌∙◌}
use Rattle.std.proofs.lemmas.Bool.{and_from, and_parts}
use Rattle.std.proofs.lemmas.List.{append-nil}
use Rattle.walk_trees.specs.Seconds.{is_own_access}
use Rattle.walk_trees.specs.Trees.{Access, Ended}
use Rattle.obligations.specs.Listing.{Of}
use Rattle.obligations.specs.Owning.{is_own_end, all_own_accesses, all_own_ends}
use Rattle.two_thread.specs.Paths.{accesses_seen, ends_seen, all_accesses, all_ends}
use Rattle.two_thread.specs.declared.walked.Tagged.{Tagged}
use Rattle.two_thread.proofs.Spreading.{front-and}

module _ {E : Type 0} where
  accesses-join : (us vs : List (Of (Access E))) → all_own_accesses us ≡ true → all_own_accesses vs ≡ true → all_own_accesses (us ++ vs) ≡ true
  accesses-join [] vs h k = k
  accesses-join (u ∷ us) vs h k =
      let p = and_parts (is_own_access u.it) (all_own_accesses us) h in
      and_from (is_own_access u.it) (all_own_accesses (us ++ vs)) p.0 (accesses-join us vs p.1 k)

  pub accesses-part : (us vs : List (Of (Access E))) → all_own_accesses (us ++ vs) ≡ true → (all_own_accesses us ≡ true) × (all_own_accesses vs ≡ true)
  accesses-part [] vs h = (refl, h)
  accesses-part (u ∷ us) vs h =
      let p = and_parts (is_own_access u.it) (all_own_accesses (us ++ vs)) h in
      let q = accesses-part us vs p.1 in
      (and_from (is_own_access u.it) (all_own_accesses us) p.0 q.0, q.1)

  ends-join : (us vs : List (Of (Ended E))) → all_own_ends us ≡ true → all_own_ends vs ≡ true → all_own_ends (us ++ vs) ≡ true
  ends-join [] vs h k = k
  ends-join (u ∷ us) vs h k =
      let p = and_parts (is_own_end u.it) (all_own_ends us) h in
      and_from (is_own_end u.it) (all_own_ends (us ++ vs)) p.0 (ends-join us vs p.1 k)

  pub ends-part : (us vs : List (Of (Ended E))) → all_own_ends (us ++ vs) ≡ true → (all_own_ends us ≡ true) × (all_own_ends vs ≡ true)
  ends-part [] vs h = (refl, h)
  ends-part (u ∷ us) vs h =
      let p = and_parts (is_own_end u.it) (all_own_ends (us ++ vs)) h in
      let q = ends-part us vs p.1 in
      (and_from (is_own_end u.it) (all_own_ends us) p.0 q.0, q.1)

  -- one path more at the end
  accesses-last : (ts : List (Tagged E)) (t : Tagged E) → all_accesses (ts ++ t ∷ []) ≡ all_accesses ts ++ accesses_seen t
  accesses-last ts t = front-and accesses_seen ts (t ∷ []) ∙ ap (λ l. all_accesses ts ++ l) (append-nil (accesses_seen t))

  ends-last : (ts : List (Tagged E)) (t : Tagged E) → all_ends (ts ++ t ∷ []) ≡ all_ends ts ++ ends_seen t
  ends-last ts t = front-and ends_seen ts (t ∷ []) ∙ ap (λ l. all_ends ts ++ l) (append-nil (ends_seen t))

  pub accesses-push : (ts : List (Tagged E)) (t : Tagged E) → all_own_accesses (all_accesses ts) ≡ true → all_own_accesses (accesses_seen t) ≡ true → all_own_accesses (all_accesses (ts ++ t ∷ [])) ≡ true
  accesses-push ts t h k = ap all_own_accesses (accesses-last ts t) ∙ accesses-join (all_accesses ts) (accesses_seen t) h k

  pub accesses-pop : (ts : List (Tagged E)) (t : Tagged E) → all_own_accesses (all_accesses (ts ++ t ∷ [])) ≡ true → (all_own_accesses (all_accesses ts) ≡ true) × (all_own_accesses (accesses_seen t) ≡ true)
  accesses-pop ts t h = accesses-part (all_accesses ts) (accesses_seen t) (ap all_own_accesses (sym (accesses-last ts t)) ∙ h)

  pub ends-push : (ts : List (Tagged E)) (t : Tagged E) → all_own_ends (all_ends ts) ≡ true → all_own_ends (ends_seen t) ≡ true → all_own_ends (all_ends (ts ++ t ∷ [])) ≡ true
  ends-push ts t h k = ap all_own_ends (ends-last ts t) ∙ ends-join (all_ends ts) (ends_seen t) h k

  pub ends-pop : (ts : List (Tagged E)) (t : Tagged E) → all_own_ends (all_ends (ts ++ t ∷ [])) ≡ true → (all_own_ends (all_ends ts) ≡ true) × (all_own_ends (ends_seen t) ≡ true)
  ends-pop ts t h = ends-part (all_ends ts) (ends_seen t) (ap all_own_ends (sym (ends-last ts t)) ∙ h)
