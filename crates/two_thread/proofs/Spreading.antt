-- What the paths of all places have, one place after the other.
use Rattle.std.proofs.Common.{◌≡◌, List, [], ◌∷◌, ◌++◌, map, refl, sym, ap, ◌∙◌}
use Rattle.std.proofs.lemmas.List.{map-append, append_assoc}
use Rattle.path_steps.specs.declared.path.Path.{Path}
use Rattle.obligations.specs.Listing.{is_some}
use Rattle.two_thread.specs.Paths.{claims_on, accesses_on, ends_on, claims_seen, accesses_seen, ends_seen, all_claims, all_accesses, all_ends, of_walked, claims_of, accesses_of, ends_of}
use Rattle.two_thread.specs.Places.{joined}
use Rattle.two_thread.specs.Spread.{tag, spread}
use Rattle.two_thread.specs.declared.walked.Walked.{Walked}
use Rattle.two_thread.specs.declared.walked.Tagged.{Tagged}

joined-append : {A : Type 0} (as' bs : List (List A)) → joined (as' ++ bs) ≡ joined as' ++ joined bs
joined-append [] bs = refl
joined-append (a ∷ as') bs = ap (λ l. a ++ l) (joined-append as' bs) ∙ sym (append_assoc a (joined as') (joined bs))

module _ {E X : Type 0} (seen : Tagged E → List X) where
  pub front-and : (ts us : List (Tagged E)) → joined (map seen (ts ++ us)) ≡ joined (map seen ts) ++ joined (map seen us)
  front-and ts us = ap joined (map-append seen ts us) ∙ joined-append (map seen ts) (map seen us)

module _ {E : Type 0} where
  claims-here : (w : Walked E) (ps : List (Path E)) → joined (map claims_seen (map (tag w.anchor (is_some w.head)) ps)) ≡ joined (map claims_on ps)
  claims-here w [] = refl
  claims-here w (p ∷ ps) = ap (λ l. claims_on p ++ l) (claims-here w ps)

  accesses-here : (w : Walked E) (ps : List (Path E)) → joined (map accesses_seen (map (tag w.anchor (is_some w.head)) ps)) ≡ map (of_walked w) (joined (map accesses_on ps))
  accesses-here w [] = refl
  accesses-here w (p ∷ ps) = ap (λ l. map (of_walked w) (accesses_on p) ++ l) (accesses-here w ps) ∙ sym (map-append (of_walked w) (accesses_on p) (joined (map accesses_on ps)))

  ends-here : (w : Walked E) (ps : List (Path E)) → joined (map ends_seen (map (tag w.anchor (is_some w.head)) ps)) ≡ map (of_walked w) (joined (map ends_on ps))
  ends-here w [] = refl
  ends-here w (p ∷ ps) = ap (λ l. map (of_walked w) (ends_on p) ++ l) (ends-here w ps) ∙ sym (map-append (of_walked w) (ends_on p) (joined (map ends_on ps)))

  pub claims_are : (ws : List (Walked E)) → all_claims (spread ws) ≡ claims_of ws
  claims_are [] = refl
  claims_are (w ∷ ws) = front-and claims_seen (map (tag w.anchor (is_some w.head)) w.paths.items) (spread ws) ∙ (λ i. claims-here w w.paths.items i ++ claims_are ws i)

  pub accesses_are : (ws : List (Walked E)) → all_accesses (spread ws) ≡ accesses_of ws
  accesses_are [] = refl
  accesses_are (w ∷ ws) = front-and accesses_seen (map (tag w.anchor (is_some w.head)) w.paths.items) (spread ws) ∙ (λ i. accesses-here w w.paths.items i ++ accesses_are ws i)

  pub ends_are : (ws : List (Walked E)) → all_ends (spread ws) ≡ ends_of ws
  ends_are [] = refl
  ends_are (w ∷ ws) = front-and ends_seen (map (tag w.anchor (is_some w.head)) w.paths.items) (spread ws) ∙ (λ i. ends-here w w.paths.items i ++ ends_are ws i)
