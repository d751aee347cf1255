-- Each place has its tree in the list, with the tree's claims, accesses and ends.
use Rattle.std.proofs.Common.{ℕ, List, [], ◌∷◌, map, sym, ap, subst, inl, inr}
use Rattle.std.specs.List.{All}
use Rattle.semantics.specs.Launch.{Kernel}
use Rattle.semantics.specs.Conditions.{Conditions}
use Rattle.domain.specs.declared.Domain.{Ghosts}
use Rattle.facts.specs.Launching.{launch_facts}
use Rattle.arrivals.specs.Points as points
use Rattle.arrivals.specs.Places.{Place}
use Rattle.walk_trees.specs.Trees.{Access, Ended, after, claims, accesses, ends}
use Rattle.walk_trees.specs.Shown.{IsShownWithProducts}
use Rattle.walk_trees.proofs.Each.{Has}
use Rattle.walk_trees.proofs.Standing.{has_left, has_right, all_left, all_right}
use Rattle.obligations.specs.Notes.{Notes}
use Rattle.obligations.specs.Walking.{tree_of}
use Rattle.obligations.specs.Listing.{Planted, planted, planted_from, of_place, claims_of, accesses_of, ends_in}

has-map : {A B : Type 0} (f : A → B) (x : A) (xs : List A) → Has x xs → Has (f x) (map f xs)
has-map f x [] h = absurd h
has-map f x (y ∷ ys) (inl e) = inl (ap f e)
has-map f x (y ∷ ys) (inr h) = inr (has-map f x ys h)

pub planted-has : {E : Type 0} (g : Ghosts E) (k : Kernel) (c : Conditions) (n : Notes) (count : ℕ) (ps : List Place) (p : Place) → points.Has p ps → (m : ℕ) × Has (planted g k c n m p) (planted_from g k c n count ps)
planted-has g k c n count [] p h = absurd h
planted-has g k c n count (q ∷ ps) p (inl e) = (count, inl (ap (planted g k c n count) e))
planted-has g k c n count (q ∷ ps) p (inr h) = let r = planted-has g k c n (after count (tree_of g k c n count q)) ps p h in (r.0, inr r.1)

pub claims-shown : {E : Type 0} (c : Conditions) (ps : List (Planted E)) (p : Planted E) → All IsShownWithProducts (claims_of c ps) → Has p ps → All IsShownWithProducts (claims (launch_facts c) p.facts p.claims p.tree)
claims-shown c [] p s h = absurd h
claims-shown c (q ∷ ps) p s (inl e) = subst (λ (r : Planted _). All IsShownWithProducts (claims (launch_facts c) r.facts r.claims r.tree)) (sym e) (all_left IsShownWithProducts (claims (launch_facts c) q.facts q.claims q.tree) (claims_of c ps) s)
claims-shown c (q ∷ ps) p s (inr h) = claims-shown c ps p (all_right IsShownWithProducts (claims (launch_facts c) q.facts q.claims q.tree) (claims_of c ps) s) h

pub access-has : {E : Type 0} (ps : List (Planted E)) (p : Planted E) (a : Access E) → Has p ps → Has a (accesses p.facts p.claims p.tree) → Has (of_place p a) (accesses_of ps)
access-has [] p a h i = absurd h
access-has (q ∷ ps) p a (inl e) i = subst (λ (r : Planted _). Has a (accesses r.facts r.claims r.tree) → Has (of_place r a) (accesses_of (q ∷ ps))) (sym e) (λ j. has_left (of_place q a) (map (of_place q) (accesses q.facts q.claims q.tree)) (accesses_of ps) (has-map (of_place q) a (accesses q.facts q.claims q.tree) j)) i
access-has (q ∷ ps) p a (inr h) i = has_right (of_place p a) (map (of_place q) (accesses q.facts q.claims q.tree)) (accesses_of ps) (access-has ps p a h i)

pub end-has : {E : Type 0} (ps : List (Planted E)) (p : Planted E) (a : Ended E) → Has p ps → Has a (ends p.facts p.claims p.tree) → Has (of_place p a) (ends_in ps)
end-has [] p a h i = absurd h
end-has (q ∷ ps) p a (inl e) i = subst (λ (r : Planted _). Has a (ends r.facts r.claims r.tree) → Has (of_place r a) (ends_in (q ∷ ps))) (sym e) (λ j. has_left (of_place q a) (map (of_place q) (ends q.facts q.claims q.tree)) (ends_in ps) (has-map (of_place q) a (ends q.facts q.claims q.tree) j)) i
end-has (q ∷ ps) p a (inr h) i = has_right (of_place p a) (map (of_place q) (ends q.facts q.claims q.tree)) (ends_in ps) (end-has ps p a h i)
