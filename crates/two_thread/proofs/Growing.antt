-- Pairs of accesses found one after the other.
use Rattle.std.proofs.Common.{◌≡◌, ℕ, ◌+◌, ◌<◌, ◌≤◌, Bool, List, ◌∷◌, ◌++◌, length, drop, get_or, append-nil, drop-cons, add-one, sym, ap, ◌∙◌}
use Rattle.std.proofs.Math.ListN.{drop_of_length-le}
use Rattle.semantics.specs.Core.{Array}
use Rattle.semantics.specs.Launch.{Three}
use Rattle.semantics.specs.Conditions.{Conditions}
use Rattle.facts.proofs.Facts.{carried}
use Rattle.walk_trees.specs.Trees.{Access}
use Rattle.walk_trees.specs.Pairs.{Scope}
use Rattle.obligations.specs.Listing.{Of}
use Rattle.obligations.specs.Crossings.{Crossing, with_one, with_each, crossings_in}
use Rattle.two_thread.specs.Paths.{no_access}
use Rattle.two_thread.specs.View.{nth_access}

pub front : {A : Type 0} (xs : List A) (i : ℕ) (d : A) → i < length xs → drop i xs ≡ get_or xs i d ∷ drop (i + 1) xs
front xs i d h = drop-cons xs i d h ∙ ap (λ k. get_or xs i d ∷ drop k xs) (sym (add-one i))

module _ {E : Type 0} (sizes : Three ℕ) (c : Conditions) (b : Bool) (a : Array) (s : Scope) where
  -- what is left, with one more in front
  pub each_front : (u : Of (Access E)) (vs : List (Of (Access E))) (j : ℕ) → j < length vs → with_each sizes c b a s u (drop j vs) ≡ with_one sizes c b a s u (nth_access vs j) ++ with_each sizes c b a s u (drop (j + 1) vs)
  each_front u vs j h = ap (with_each sizes c b a s u) (front vs j no_access h)

  pub each_step : (u : Of (Access E)) (vs : List (Of (Access E))) (j : ℕ) (old new all : List (Crossing E)) → j < length vs → new ≡ old ++ with_one sizes c b a s u (nth_access vs j) → old ++ with_each sizes c b a s u (drop j vs) ≡ all → new ++ with_each sizes c b a s u (drop (j + 1) vs) ≡ all
  each_step u vs j old new all h d e = carried old new (with_one sizes c b a s u (nth_access vs j)) (with_each sizes c b a s u (drop (j + 1) vs)) all d (ap (λ l. old ++ l) (sym (each_front u vs j h)) ∙ e)

  pub each_end : (u : Of (Access E)) (vs : List (Of (Access E))) (j : ℕ) (out all : List (Crossing E)) → length vs ≤ j → out ++ with_each sizes c b a s u (drop j vs) ≡ all → out ≡ all
  each_end u vs j out all h e = sym (ap (λ l. out ++ with_each sizes c b a s u l) (drop_of_length-le vs h) ∙ append-nil out) ∙ e

  pub in_front : (us : List (Of (Access E))) (i : ℕ) → i < length us → crossings_in sizes c b a s (drop i us) ≡ with_each sizes c b a s (nth_access us i) (drop i us) ++ crossings_in sizes c b a s (drop (i + 1) us)
  in_front us i h = ap (crossings_in sizes c b a s) (front us i no_access h) ∙ ap (λ l. with_each sizes c b a s (nth_access us i) l ++ crossings_in sizes c b a s (drop (i + 1) us)) (sym (front us i no_access h))

  pub in_step : (us : List (Of (Access E))) (i : ℕ) (old new all : List (Crossing E)) → i < length us → new ≡ old ++ with_each sizes c b a s (nth_access us i) (drop i us) → old ++ crossings_in sizes c b a s (drop i us) ≡ all → new ++ crossings_in sizes c b a s (drop (i + 1) us) ≡ all
  in_step us i old new all h d e = carried old new (with_each sizes c b a s (nth_access us i) (drop i us)) (crossings_in sizes c b a s (drop (i + 1) us)) all d (ap (λ l. old ++ l) (sym (in_front us i h)) ∙ e)

  pub in_end : (us : List (Of (Access E))) (i : ℕ) (out all : List (Crossing E)) → length us ≤ i → out ++ crossings_in sizes c b a s (drop i us) ≡ all → out ≡ all
  in_end us i out all h e = sym (ap (λ l. out ++ crossings_in sizes c b a s l) (drop_of_length-le us h) ∙ append-nil out) ∙ e
