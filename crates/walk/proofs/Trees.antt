-- Paths of all places are all that is listed of their trees.
use Rattle.std.proofs.Common.{◌≡◌, ℕ, suc, List, [], ◌∷◌, ◌++◌, map, Bool, true, false, ◌&&◌, refl, sym, ap, subst, ◌∙◌}
use Rattle.std.proofs.lemmas.List.{map-append}
use Rattle.semantics.specs.Conditions.{Conditions}
use Rattle.facts.specs.Launching.{launch_facts}
use Rattle.facts.specs.Symbols.{Fact}
use Rattle.walk_trees.specs.Fitting.{denials_fit, tree_denials_fit}
use Rattle.walk_trees.specs.Trees.{Tree, Leaf, Dead, Claim, Know, Touch, Fork, after, accesses, ends}
use Rattle.path_steps.specs.Paths.{Claimed}
use Rattle.path_steps.specs.Turns.{from, listed_claims}
use Rattle.path_steps.specs.declared.path.Path.{Path}
use Rattle.path_steps.proofs.Listing.{tree_claims}
use Rattle.walk.specs.Paths.{all_claims, all_accesses, all_ends}
use Rattle.obligations.specs.Fitting as meant
use Rattle.obligations.specs.Listing as listing
use Rattle.obligations.specs.Listing.{Planted, Of, is_some}
use Rattle.two_thread.specs.Fitting.{claims_fit}
use Rattle.two_thread.specs.Goals.{owed}
use Rattle.two_thread.specs.Paths.{claims_on, accesses_on, ends_on, claims_of, accesses_of, ends_of}
use Rattle.two_thread.specs.Places.{joined}
use Rattle.two_thread.specs.declared.walked.Walked.{Walked}
use Rattle.walk.specs.Unfound.{HaveFewPaths}
use Rattle.walk.specs.Walks.{IsOf, Walks}

joined_claims : {E : Type 0} (ps : List (Path E)) → joined (map claims_on ps) ≡ all_claims ps
joined_claims [] = refl
joined_claims (p ∷ ps) = ap (λ l. claims_on p ++ l) (joined_claims ps)

joined_accesses : {E : Type 0} (ps : List (Path E)) → joined (map accesses_on ps) ≡ all_accesses ps
joined_accesses [] = refl
joined_accesses (p ∷ ps) = ap (λ l. accesses_on p ++ l) (joined_accesses ps)

joined_ends : {E : Type 0} (ps : List (Path E)) → joined (map ends_on ps) ≡ all_ends ps
joined_ends [] = refl
joined_ends (p ∷ ps) = ap (λ l. ends_on p ++ l) (joined_ends ps)

-- claim by claim, what denies the claims of two lists
both_fit : (xs ys : List Claimed) → claims_fit (xs ++ ys) ≡ (claims_fit xs && claims_fit ys)
both_fit [] ys = refl
both_fit (x ∷ xs) ys = ap (λ b. denials_fit x.goal && b) (both_fit xs ys) ∙ apart (denials_fit x.goal) (claims_fit xs) (claims_fit ys)
  where
    apart : (a b c : Bool) → (a && (b && c)) ≡ ((a && b) && c)
    apart true b c = refl
    apart false b c = refl

denials_listed : {E : Type 0} (facts : List Fact) (n : ℕ) (t : Tree E) → claims_fit (from listed_claims facts [] n t) ≡ tree_denials_fit n t
denials_listed facts n (Leaf end) = refl
denials_listed facts n Dead = refl
denials_listed facts n (Claim o needed settled g rest) = ap (λ b. denials_fit g && b) (denials_listed facts (suc n) rest)
denials_listed facts n (Know f rest) = denials_listed (facts ++ f ∷ []) n rest
denials_listed facts n (Touch t i h rest) = denials_listed facts n rest
denials_listed facts n (Fork a b) =
    both_fit (from listed_claims facts [] n a) (from listed_claims facts [] (after n a) (b (after n a)))
    ∙ (λ i. denials_listed facts n a i && denials_listed facts (after n a) (b (after n a)) i)

-- of one place
module _ {E : Type 0} (w : Walked E) (p : Planted E) (h : IsOf w p) where
  own_claims : joined (map claims_on w.paths.items) ≡ from listed_claims p.facts [] p.claims p.tree
  own_claims = joined_claims w.paths.items ∙ h.paths.claims

  own_accesses : joined (map accesses_on w.paths.items) ≡ accesses p.facts p.claims p.tree
  own_accesses = joined_accesses w.paths.items ∙ h.paths.accesses

  own_ends : joined (map ends_on w.paths.items) ≡ ends p.facts p.claims p.tree
  own_ends = joined_ends w.paths.items ∙ h.paths.ends

  with_place : {A : Type 0} (xs ys : List A) → xs ≡ ys → map {B = Of A} (λ a. record { anchor = w.anchor; is_head = is_some w.head; it = a }) xs ≡ map (λ a. record { anchor = p.anchor; is_head = is_some p.head; it = a }) ys
  with_place xs ys e = λ i. map (λ a. record { anchor = h.anchor i; is_head = is_some (h.head i); it = a }) (e i)

  own_fits : claims_fit (joined (map claims_on w.paths.items)) ≡ meant.planted_fits p
  own_fits =
      ap claims_fit own_claims ∙ denials_listed p.facts p.claims p.tree
      ∙ (λ i. sym h.paths.known i && (sym h.paths.fit i && tree_denials_fit p.claims p.tree))

pub claims_are : {E : Type 0} (c : Conditions) (ws : List (Walked E)) (ts : List (Planted E)) → Walks ws ts [] → map (owed (launch_facts c)) (claims_of ws) ≡ listing.claims_of c ts
claims_are c [] ts h = ap (listing.claims_of c) (sym h)
claims_are c (w ∷ ws) [] h = absurd h
claims_are c (w ∷ ws) (p ∷ ts) h =
    map-append (owed (launch_facts c)) (joined (map claims_on w.paths.items)) (claims_of ws)
    ∙ (λ i. (ap (map (owed (launch_facts c))) (own_claims w p h.0) ∙ tree_claims (launch_facts c) p.facts p.claims p.tree) i ++ claims_are c ws ts h.1 i)

pub accesses_are : {E : Type 0} (ws : List (Walked E)) (ts : List (Planted E)) → Walks ws ts [] → accesses_of ws ≡ listing.accesses_of ts
accesses_are [] ts h = ap listing.accesses_of (sym h)
accesses_are (w ∷ ws) [] h = absurd h
accesses_are (w ∷ ws) (p ∷ ts) h = λ i. with_place w p h.0 _ _ (own_accesses w p h.0) i ++ accesses_are ws ts h.1 i

pub ends_are : {E : Type 0} (ws : List (Walked E)) (ts : List (Planted E)) → Walks ws ts [] → ends_of ws ≡ listing.ends_in ts
ends_are [] ts h = ap listing.ends_in (sym h)
ends_are (w ∷ ws) [] h = absurd h
ends_are (w ∷ ws) (p ∷ ts) h = λ i. with_place w p h.0 _ _ (own_ends w p h.0) i ++ ends_are ws ts h.1 i

pub fits_are : {E : Type 0} (ws : List (Walked E)) (ts : List (Planted E)) → Walks ws ts [] → claims_fit (claims_of ws) ≡ meant.trees_fit ts
fits_are [] ts h = ap meant.trees_fit (sym h)
fits_are (w ∷ ws) [] h = absurd h
fits_are (w ∷ ws) (p ∷ ts) h = both_fit (joined (map claims_on w.paths.items)) (claims_of ws) ∙ (λ i. own_fits w p h.0 i && fits_are ws ts h.1 i)

pub few_are : {E : Type 0} (ws : List (Walked E)) (ts : List (Planted E)) → Walks ws ts [] → HaveFewPaths ts
few_are [] ts h = subst HaveFewPaths (sym h) tt
few_are (w ∷ ws) [] h = absurd h
few_are (w ∷ ws) (p ∷ ts) h = (h.0.paths.few, few_are ws ts h.1)

-- claims that are numbered by their trees are as many as those that were found
pub all_true : {A B : Type 0} (f : A → B) (xs : List A) → map (λ (x : A). true) xs ≡ map (λ (y : B). true) (map f xs)
all_true f [] = refl
all_true f (x ∷ xs) = ap (λ (l : List Bool). true ∷ l) (all_true f xs)
