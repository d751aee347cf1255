-- All paths of all places in order.
use Rattle.std.proofs.Common.{◌≡◌, ◌<◌, ◌+◌, inl, inr, ℕ, suc, List, [], ◌∷◌, ◌++◌, map, drop, get_or, length, false, arith, refl, sym, ap, subst, ◌∙◌}
use Rattle.std.proofs.Math.Seq.{drop-cons}
use Rattle.std.proofs.lemmas.List.{length-append}
use Rattle.semantics.specs.Conditions.{Conditions}
use Rattle.semantics.specs.Launch.{Kernel}
use Rattle.domain.specs.declared.Domain.{Ghosts}
use Rattle.arrivals.specs.Places.{Place}
use Rattle.facts.specs.Symbols.{Fact}
use Rattle.facts.specs.Launching.{launch_facts}
use Rattle.facts.specs.declared.error.WalkError.TheVariants as walks
use Rattle.facts.proofs.Tests.{and_left, and_right}
use Rattle.walk_trees.specs.Trees.{Tree, Leaf, Dead, Claim, Know, Touch, Fork, after, claims, leaves}
use Rattle.walk_trees.specs.Walks.{Setting}
use Rattle.obligations.specs.Notes.{Notes}
use Rattle.obligations.specs.Listing.{Planted, claims_of}
use Rattle.obligations.specs.Fitting.{planted_fits, trees_fit}
use Rattle.two_thread.specs.declared.walked.Walked.{Walked}
use Rattle.places.specs.View as views
use Rattle.places.specs.declared.place.Place as code
use Rattle.walk.specs.Planting.{planted_by, all_by}
use Rattle.walk.specs.Unfound.{IsFirstOfMany, statement_of}
use Rattle.walk.specs.Walks.{IsOf, IsStuck, Walks, IsAnyStuck}
use Rattle.walk.specs.declared.error.FindError.{FindError}
use Rattle.walk.specs.declared.error.FindError.TheVariants as errors

-- before the end of a tree stand all its claims
pub claims_counted : {E : Type 0} (launch facts : List Fact) (n : ℕ) (t : Tree E) → n + length (claims launch facts n t) ≡ after n t
claims_counted launch facts n (Leaf end) = omega arith
claims_counted launch facts n Dead = omega arith
claims_counted launch facts n (Claim o needed settled g rest) = let h = claims_counted launch facts (suc n) rest in omega (arith, h)
claims_counted launch facts n (Know f rest) = claims_counted launch (facts ++ f ∷ []) n rest
claims_counted launch facts n (Touch t i h rest) = claims_counted launch facts n rest
claims_counted launch facts n (Fork a b) =
    let h = claims_counted launch facts n a in
    let k = claims_counted launch facts (after n a) (b (after n a)) in
    omega (arith, h, k, length-append (claims launch facts n a) (claims launch facts (after n a) (b (after n a))))

-- one place more
pub walks_more : {E : Type 0} (ws : List (Walked E)) (w : Walked E) (ts : List (Planted E)) (p : Planted E) (rest : List (Planted E)) → Walks ws ts (p ∷ rest) → IsOf w p → Walks (ws ++ w ∷ []) ts rest
walks_more [] w ts p rest h o = subst (λ l. Walks (w ∷ []) l rest) (sym h) (o, refl)
walks_more (v ∷ ws) w [] p rest h o = h
walks_more (v ∷ ws) w (q ∷ ts) p rest h o = (h.0, walks_more ws w ts p rest h.1 o)

-- of the first place with many paths
many_of : {E : Type 0} (ws : List (Walked E)) (ts : List (Planted E)) (p : Planted E) (rest : List (Planted E)) (s : _) → Walks ws ts (p ∷ rest) → s ≡ statement_of p → 256 < leaves p.claims p.tree → IsFirstOfMany s ts
many_of [] ts p rest s h e l = subst (IsFirstOfMany s) (sym h) (inl (e, l))
many_of (w ∷ ws) [] p rest s h e l = h
many_of (w ∷ ws) (q ∷ ts) p rest s h e l = inr (h.0.paths.few, many_of ws ts p rest s h.1 e l)

unfit_of : {E : Type 0} (ws : List (Walked E)) (ts : List (Planted E)) (p : Planted E) (rest : List (Planted E)) → Walks ws ts (p ∷ rest) → planted_fits p ≡ false → trees_fit ts ≡ false
unfit_of [] ts p rest h e = subst (λ l. trees_fit l ≡ false) (sym h) (and_left (planted_fits p) (trees_fit rest) e)
unfit_of (w ∷ ws) [] p rest h e = absurd h
unfit_of (w ∷ ws) (q ∷ ts) p rest h e = and_right (planted_fits q) (trees_fit ts) (unfit_of ws ts p rest h.1 e)

module _ {E : Type 0} (g : Ghosts E) (s : Setting E) (k : Kernel) (n : Notes) where
  -- the first claims of places are those of the first of them
  more_claims : (c : Conditions) (m : ℕ) (p : Place) (ps : List Place) → after m (planted_by g s k n m p).tree + length (claims_of c (all_by g s k n (after m (planted_by g s k n m p).tree) ps)) ≡ m + length (claims_of c (all_by g s k n m (p ∷ ps)))
  more_claims c m p ps =
      let q = planted_by g s k n m p in
      let h = claims_counted (launch_facts c) q.facts m q.tree in
      let a = length-append (claims (launch_facts c) q.facts m q.tree) (claims_of c (all_by g s k n (after m q.tree) ps)) in
      omega (arith, h, a)

  over_of : (c : Conditions) (ws : List (Walked E)) (m : ℕ) (ps : List Place) (q : Planted E) (rest : List (Planted E)) → Walks ws (all_by g s k n m ps) (q ∷ rest) → 65536 < after q.claims q.tree → 65536 < m + length (claims_of c (all_by g s k n m ps))
  over_of c [] m [] q rest h l = absurd cc
  over_of c [] m (p ∷ ps) q rest h l =
      let e = ap (λ (ts : List (Planted E)). after_first ts) h in
      let a = more_claims c m p ps in
      omega (arith, l, e, a)
    where
      after_first : List (Planted E) → ℕ
      after_first [] = 0
      after_first (t ∷ ts) = after t.claims t.tree
  over_of c (w ∷ ws) m [] q rest h l = absurd h
  over_of c (w ∷ ws) m (p ∷ ps) q rest h l =
      let r = over_of c ws (after m (planted_by g s k n m p).tree) ps q rest h.1 l in
      let a = more_claims c m p ps in
      omega (arith, r, a)

  module _ (all : List code.Place) (i count : ℕ) (ws : List (Walked E)) (x : code.Place)
      (h : Walks ws (all_by g s k n 0 (map views.place all)) (all_by g s k n count (map views.place (drop i all))))
      (lt : i < length all) (e : x ≡ get_or all i x) where
    abbrev here : Planted E
    here = planted_by g s k n count (views.place x)

    abbrev behind : List (Planted E)
    behind = all_by g s k n (after count here.tree) (map views.place (drop (suc i) all))

    there : Walks ws (all_by g s k n 0 (map views.place all)) (here ∷ behind)
    there = subst (λ l. Walks ws (all_by g s k n 0 (map views.place all)) (all_by g s k n count (map views.place l))) (drop-cons all i x lt ∙ ap (λ y. y ∷ drop (suc i) all) (sym e)) h

    pub next_place : (w : Walked E) (now : List (Walked E)) (j m : ℕ) → IsOf w here → m ≡ after count here.tree → now ≡ ws ++ w ∷ [] → j ≡ suc i → Walks now (all_by g s k n 0 (map views.place all)) (all_by g s k n m (map views.place (drop j all)))
    next_place w now j m o a d f =
        subst (λ l. Walks l (all_by g s k n 0 (map views.place all)) (all_by g s k n m (map views.place (drop j all)))) (sym d)
        (subst (λ l. Walks (ws ++ w ∷ []) (all_by g s k n 0 (map views.place all)) l) (λ u. all_by g s k n (sym a u) (map views.place (drop (sym f u) all)))
        (walks_more ws w _ here behind there o))

    pub any_stuck : (z : FindError) → IsStuck here z → IsAnyStuck (all_by g s k n 0 (map views.place all)) z
    any_stuck (errors.ManyPaths t) u = many_of ws _ here behind t there u.0 u.1
    any_stuck (errors.Walk walks.TooMany) u = λ c. let o = over_of c ws 0 (map views.place all) here behind there u in omega (arith, o)
    any_stuck (errors.Walk walks.TooLarge) u = unfit_of ws _ here behind there u
    any_stuck (errors.Walk walks.Memory) u = tt

-- past the last place
pub at_end : {E : Type 0} (g : Ghosts E) (s : Setting E) (k : Kernel) (n : Notes) (all : List code.Place) (i count : ℕ) (ws : List (Walked E)) → Walks ws (all_by g s k n 0 (map views.place all)) (all_by g s k n count (map views.place (drop i all))) → drop i all ≡ [] → Walks ws (all_by g s k n 0 (map views.place all)) []
at_end g s k n all i count ws h e = subst (λ l. Walks ws (all_by g s k n 0 (map views.place all)) (all_by g s k n count (map views.place l))) e h
