-- Where all forms are of i64, those of trees and the own forms of each obligation are.
use Rattle.std.proofs.Common.{◌≡◌, ℕ, zero, suc, ◌-◌, ◌&&◌, Bool, true, false, List, [], ◌∷◌, ◌++◌, map, get_or, refl}
use Rattle.semantics.specs.Launch.{Kernel}
use Rattle.semantics.specs.Conditions.{Conditions}
use Rattle.domain.specs.declared.Domain.{Ghosts}
use Rattle.facts.specs.Launching.{launch_facts, known}
use Rattle.walk_trees.specs.Trees.{Obligation}
use Rattle.obligations.specs.Notes.{Notes}
use Rattle.obligations.specs.Crossings.{Crossing, crossings}
use Rattle.obligations.specs.Fitting.{is_fit_goal, goals_fit, crossing_fits, crossings_fit, forms_fit, trees_fit}
use Rattle.obligations.specs.Listing.{all_trees, claims_of, accesses_of, ends_in}
use Rattle.obligations.specs.Meetings.{meetings}
use Rattle.two_thread.specs.Listed.{nth_fits}
use Rattle.walk.specs.Fitting.{own_fits}

left_true : (a b : Bool) → (a && b) ≡ true → a ≡ true
left_true true b h = refl
left_true false b h = cc

right_true : (a b : Bool) → (a && b) ≡ true → b ≡ true
right_true true b h = h
right_true false b h = cc

-- each of a list is true, and so is what is past its end
abbrev AllTrue : List Bool → Type 0
AllTrue bs = (i : ℕ) → get_or bs i true ≡ true

more_true : (b : Bool) (bs : List Bool) → b ≡ true → AllTrue bs → AllTrue (b ∷ bs)
more_true b bs h f zero = h
more_true b bs h f (suc i) = f i

joined_true : (bs cs : List Bool) → AllTrue bs → AllTrue cs → AllTrue (bs ++ cs)
joined_true [] cs f h i = h i
joined_true (b ∷ bs) cs f h zero = f zero
joined_true (b ∷ bs) cs f h (suc i) = joined_true bs cs (λ j. f (suc j)) h i

claims_true : (os : List Obligation) → AllTrue (map (λ (o : Obligation). true) os)
claims_true [] i = refl
claims_true (o ∷ os) i = more_true true (map (λ (o : Obligation). true) os) refl (claims_true os) i

goals_true : (os : List Obligation) → goals_fit os ≡ true → AllTrue (map (λ (o : Obligation). is_fit_goal o.goal) os)
goals_true [] h i = refl
goals_true (o ∷ os) h i = more_true (is_fit_goal o.goal) (map (λ (o : Obligation). is_fit_goal o.goal) os) (left_true (is_fit_goal o.goal) (goals_fit os) h) (goals_true os (right_true (is_fit_goal o.goal) (goals_fit os) h)) i

crossings_true : {E : Type 0} (xs : List (Crossing E)) → crossings_fit xs ≡ true → AllTrue (map crossing_fits xs)
crossings_true [] h i = refl
crossings_true (x ∷ xs) h i = more_true (crossing_fits x) (map crossing_fits xs) (left_true (crossing_fits x) (crossings_fit xs) h) (crossings_true xs (right_true (crossing_fits x) (crossings_fit xs) h)) i

module _ {E : Type 0} (g : Ghosts E) (k : Kernel) (c : Conditions) (n : Notes) (fit : forms_fit g k c n ≡ true) where
  pub trees_do_fit : trees_fit (all_trees g k c n) ≡ true
  trees_do_fit = left_true (trees_fit (all_trees g k c n)) _ fit

  pub own_do_fit : (number : ℕ) → nth_fits (own_fits g k c n) number ≡ true
  own_do_fit number =
      let ms = meetings g (known g k.sizes c) (launch_facts c) n (ends_in (all_trees g k c n)) in
      let xs = crossings k c (accesses_of (all_trees g k c n)) in
      let pairs = right_true (trees_fit (all_trees g k c n)) (goals_fit ms && crossings_fit xs) fit in
      joined_true (map (λ (o : Obligation). true) (claims_of c (all_trees g k c n))) (map (λ (o : Obligation). is_fit_goal o.goal) ms ++ map crossing_fits xs) (claims_true (claims_of c (all_trees g k c n)))
      (joined_true (map (λ (o : Obligation). is_fit_goal o.goal) ms) (map crossing_fits xs) (goals_true ms (left_true (goals_fit ms) (crossings_fit xs) pairs)) (crossings_true xs (right_true (goals_fit ms) (crossings_fit xs) pairs)))
      (number - 1)
