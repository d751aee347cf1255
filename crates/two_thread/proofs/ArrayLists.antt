-- The pairs of accesses of arrays, one array after the other.
use Rattle.std.proofs.Common.{◌≡◌, ℕ, suc, ◌+◌, ◌<◌, ◌≤◌, Bool, List, [], ◌∷◌, ◌++◌, length, map, drop, get_or, append-nil, drop-cons, add-one, refl, sym, ap, ◌∙◌, arith}
use Rattle.std.proofs.Math.ListN.{drop_of_length-le}
use Rattle.semantics.specs.Core.{Space, Global, Local}
use Rattle.semantics.specs.Launch.{Three}
use Rattle.semantics.specs.Conditions.{Conditions}
use Rattle.facts.proofs.Facts.{carried}
use Rattle.walk_trees.specs.Trees.{Access}
use Rattle.obligations.specs.Listing.{Of}
use Rattle.obligations.specs.Crossings.{Crossing, crossings_of, crossings_from}

module _ {E : Type 0} (sizes : Three ℕ) (c : Conditions) (us : List (Of (Access E))) where
  -- only as many as they are
  pub from-map : {A B : Type 0} (view : A → B) (fenced : Space → Bool) (sp : Space) (n : ℕ) (as' : List A) → crossings_from sizes c fenced us sp n (map view as') ≡ crossings_from sizes c fenced us sp n as'
  from-map view fenced sp n [] = refl
  from-map view fenced sp n (a ∷ as') = ap (λ l. crossings_of sizes c fenced us sp n ++ l) (from-map view fenced sp (suc n) as')

  -- whether this space is fenced
  of-same : (f h : Space → Bool) (sp : Space) (n : ℕ) → f sp ≡ h sp → crossings_of sizes c f us sp n ≡ crossings_of sizes c h us sp n
  of-same f h Global n e = ap (λ b. crossings_of sizes c (λ _. b) us Global n) e
  of-same f h Local n e = ap (λ b. crossings_of sizes c (λ _. b) us Local n) e

  pub from-same : {A : Type 0} (f h : Space → Bool) (sp : Space) (n : ℕ) (as' : List A) → f sp ≡ h sp → crossings_from sizes c f us sp n as' ≡ crossings_from sizes c h us sp n as'
  from-same f h sp n [] e = refl
  from-same f h sp n (a ∷ as') e = λ i. of-same f h sp n e i ++ from-same f h sp (suc n) as' e i

  pub from_front : {A : Type 0} (f : Space → Bool) (sp : Space) (as' : List A) (n i : ℕ) → i < length as' → crossings_from sizes c f us sp n (drop i as') ≡ crossings_of sizes c f us sp n ++ crossings_from sizes c f us sp (n + 1) (drop (i + 1) as')
  from_front f sp [] n i h = absurd (omega (arith, h))
  from_front f sp (a ∷ as') n i h = ap (crossings_from sizes c f us sp n) (drop-cons (a ∷ as') i a h ∙ ap (λ k. get_or (a ∷ as') i a ∷ drop k (a ∷ as')) (sym (add-one i)))
      ∙ ap (λ m. crossings_of sizes c f us sp n ++ crossings_from sizes c f us sp m (drop (i + 1) (a ∷ as'))) (sym (add-one n))

  pub from_end : {A : Type 0} (f : Space → Bool) (sp : Space) (as' : List A) (n i : ℕ) (out all : List (Crossing E)) → length as' ≤ i → out ++ crossings_from sizes c f us sp n (drop i as') ≡ all → out ≡ all
  from_end f sp as' n i out all h e = sym (ap (λ l. out ++ crossings_from sizes c f us sp n l) (drop_of_length-le as' h) ∙ append-nil out) ∙ e

  pub from_step : {A : Type 0} (f : Space → Bool) (sp : Space) (as' : List A) (i : ℕ) (old new all : List (Crossing E)) → i < length as' → new ≡ old ++ crossings_of sizes c f us sp i → old ++ crossings_from sizes c f us sp i (drop i as') ≡ all → new ++ crossings_from sizes c f us sp (i + 1) (drop (i + 1) as') ≡ all
  from_step f sp as' i old new all h d e = carried old new (crossings_of sizes c f us sp i) (crossings_from sizes c f us sp (i + 1) (drop (i + 1) as')) all d (ap (λ l. old ++ l) (sym (from_front f sp as' i i h)) ∙ e)

  -- one space's, told by its flag
  pub space_is : {A B : Type 0} (view : A → B) (b : Bool) (f : Space → Bool) (sp : Space) (as' ks : List A) → as' ≡ ks → b ≡ f sp → crossings_from sizes c (λ _. b) us sp 0 as' ≡ crossings_from sizes c f us sp 0 (map view ks)
  space_is view b f sp as' ks d e = ap (crossings_from sizes c (λ _. b) us sp 0) d ∙ from-same (λ _. b) f sp 0 ks e ∙ sym (from-map view f sp 0 ks)
