-- What is left, list by list.
use Rattle.std.proofs.Common.{◌≡◌, ℕ, ◌+◌, ◌<◌, List, [], take, get_or, length, sym, ap, ◌∙◌}
use Rattle.std.specs.Prelude.{Result, Ok, Err, IsErr, IsErrAnd, MatchResult}
use Rattle.std.proofs.lemmas.List.{take_more}
use Rattle.semantics.specs.Core.{Statements}
use Rattle.arrivals.specs.Points.{Left, join}
use Rattle.arrivals.specs.Symbolic.{courses}
use Rattle.arrivals.specs.Trees.{Turns}
use Rattle.obligations.specs.Walking.{Placed, course}
use Rattle.places.specs.View.{opened, left}
use Rattle.places.specs.declared.point.Rest.{Rest}
use Rattle.places.proofs.Stacking.{stacked_more}
use Rattle.path_steps.specs.Paths.{Followed}
use Rattle.path_steps.specs.declared.halt.Halt.{Halt}
use Rattle.path_steps.proofs.Testing.{ended_from, halted}
use Rattle.path_walk.specs.declared.flow.Flow.{Flow}
use Rattle.path_walk.specs.Flows.{flows}
use Rattle.path_walk.specs.Fronts.{PassAll, NoPass}
use Rattle.path_walk.proofs.Passing.{courses_join}
use Rattle.path_walk.specs.Rests.{found_along, PassesOne, NotOne, PassesLeft, NotLeft}

-- so many lists are left
abbrev pub PassesTo : {E : Type 0} → Placed E → List Rest → Flow → Followed E → Turns → Flow → Followed E → Turns → ℕ → Type 0
PassesTo p rs f l t g m u n = found_along p (left rs) f l t ≡ found_along p (left (take n rs)) g m u

-- the innermost of them
pub innermost : (rs : List Rest) (i k : ℕ) (q : Rest) → i ≡ k + 1 → k < length rs → q ≡ get_or rs k q → left (take i rs) ≡ opened q (left (take k rs))
innermost rs i k q e h d = ap (λ j. left (take j rs)) e ∙ ap left (take_more rs k q h) ∙ stacked_more (take k rs) (get_or rs k q) [] ∙ ap (λ r. opened r (left (take k rs))) (sym d)

module _ {E : Type 0} (p : Placed E) (f : Flow) (l m : Followed E) (t u : Turns) (q : Rest) where
  abbrev pub OneSays : Result Flow Halt → Type 0
  OneSays r = MatchResult r (λ g. PassesOne p q f l t g m u) (λ h. NotOne p q f l t h m)

  -- statements, and a loop that has turned
  pub fresh_says : (ss : Statements) → ((around : List Left) → opened q around ≡ join ss around) → (r : Result Flow Halt) → MatchResult r (λ g. PassAll p ss f l t g m u) (λ h. NoPass p ss f l t h m) → OneSays r
  fresh_says ss d (Ok g) h = λ around. ap (λ x. found_along p x f l t) (d around) ∙ ap (λ w. flows f w t l) (courses_join p ss around) ∙ h (courses (course p) around)
  fresh_says ss d (Err x) h = λ around. ended_from m.found x _ _ (ap (λ y. found_along p y f l t) (d around) ∙ ap (λ w. flows f w t l) (courses_join p ss around)) (h (courses (course p) around))

-- one list of several, the innermost
module _ {E : Type 0} (p : Placed E) (rs : List Rest) (f : Flow) (l m n : Followed E) (t u v : Turns) (g : Flow) (i k : ℕ) (a : PassesTo p rs f l t g m u i) (q : Rest) (d : left (take i rs) ≡ opened q (left (take k rs))) where
  up_to : found_along p (left rs) f l t ≡ found_along p (opened q (left (take k rs))) g m u
  up_to = a ∙ ap (λ x. found_along p x g m u) d

  pub passes_more : (x : Flow) → PassesOne p q g m u x n v → PassesTo p rs f l t x n v k
  passes_more x h = up_to ∙ h (left (take k rs))

  pub passes_no_more : (r : Result Flow Halt) (x : Halt) → IsErr r × IsErrAnd r (λ y. y ≡ x) → NotOne p q g m u x n → MatchResult r (λ y. PassesLeft p (left rs) f l t y n v) (λ y. NotLeft p (left rs) f l t y n)
  passes_no_more r x z h = halted r x _ _ z (ended_from n.found x _ _ up_to (h (left (take k rs))))
