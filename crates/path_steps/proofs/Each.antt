-- Steps for each of a list, one after the other.
use Rattle.std.proofs.Common.{◌≡◌, ℕ, suc, ◌<◌, List, ◌∷◌, length, drop, get_or, sym, ap, ◌∙◌}
use Rattle.std.proofs.Math.Seq.{drop-cons}
use Rattle.facts.specs.declared.error.WalkError.{WalkError}
use Rattle.walk_trees.specs.Trees.{Tree}
use Rattle.walk_trees.specs.Walks.{State}
use Rattle.path_steps.specs.Paths.{Followed, collect}
use Rattle.path_steps.specs.Leads.{Steps}
use Rattle.path_steps.specs.Refusals.{StopsAtStep}
use Rattle.path_steps.proofs.Refusing.{refused_from}

-- behind the first i of a list
abbrev pub Follows : {E A : Type 0} → (all : List A → State E → (State E → Tree E) → Tree E) → List A → (from to : Followed E) → ℕ → Type 0
Follows {E} all xs l m i = (go : State E → Tree E) → collect l.found (all xs l.state go) ≡ collect m.found (all (drop i xs) m.state go)

module _ {E A : Type 0} (all : List A → State E → (State E → Tree E) → Tree E) (one : A → State E → (State E → Tree E) → Tree E) (front : (x : A) (xs : List A) (st : State E) (go : State E → Tree E) → all (x ∷ xs) st go ≡ one x st (λ st'. all xs st' go)) (xs : List A) (i : ℕ) (x : A) (l m : Followed E) (h : (go : State E → Tree E) → collect l.found (all xs l.state go) ≡ collect m.found (all (drop i xs) m.state go)) (lt : i < length xs) (e : x ≡ get_or xs i x) where
  there : (go : State E → Tree E) → collect l.found (all xs l.state go) ≡ collect m.found (one x m.state (λ st. all (drop (suc i) xs) st go))
  there go = h go ∙ ap (λ ys. collect m.found (all ys m.state go)) (drop-cons xs i x lt ∙ ap (λ y. y ∷ drop (suc i) xs) (sym e)) ∙ ap (collect m.found) (front x (drop (suc i) xs) m.state go)

  pub each_next : (j : ℕ) (n : Followed E) → j ≡ suc i → Steps m n (one x) → (go : State E → Tree E) → collect l.found (all xs l.state go) ≡ collect n.found (all (drop j xs) n.state go)
  each_next j n p s go = there go ∙ s (λ st. all (drop (suc i) xs) st go) ∙ ap (λ k. collect n.found (all (drop k xs) n.state go)) (sym p)

  pub each_stops : (e : WalkError) → StopsAtStep m e (one x) → StopsAtStep l e (all xs)
  each_stops e s go = refused_from e _ _ (there go) (s (λ st. all (drop (suc i) xs) st go))
