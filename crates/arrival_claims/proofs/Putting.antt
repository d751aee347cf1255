-- Claims of forms that are put in a path's terms, and of those that are not.
use Rattle.std.proofs.Common.{◌≡◌, Bool, true, false, List, ap, subst, ◌∙◌}
use Rattle.std.specs.Prelude.{Result, Ok, Err, MatchResult}
use Rattle.facts.specs.Symbols.{Fact}
use Rattle.facts.specs.Refusals.{IsMemory}
use Rattle.facts.specs.declared.error.WalkError.{WalkError}
use Rattle.facts.specs.declared.error.WalkError.TheVariants as errors
use Rattle.walk_trees.specs.Trees.{Tree}
use Rattle.walk_trees.specs.Walks.{State}
use Rattle.obligations.specs.Walking.{never, if_replaced}
use Rattle.path_steps.specs.Paths.{Followed, collect}
use Rattle.path_steps.specs.Leads.{Steps}
use Rattle.path_steps.specs.Refusals.{StopsAtStep}
use Rattle.path_steps.proofs.Refusing.{refused_from}
use Rattle.arrival_claims.specs.Unfit.{AreUnfit, IsUnmade}

abbrev pub Walk : Type 0 → Type 0
Walk E = State E → (State E → Tree E) → Tree E

-- what a function that takes a step ensures
abbrev pub Does : {E : Type 0} → Followed E → Followed E → Result (Unit {0}) WalkError → Walk E → Type 0
Does l n r walk = MatchResult r (λ _. Steps l n walk) (λ e. StopsAtStep l e walk)

-- of another walk
pub does_as : {E : Type 0} (l n : Followed E) (r : Result (Unit {0}) WalkError) (walk other : Walk E) → walk ≡ other → Does l n r walk → Does l n r other
does_as l n r walk other e h = subst (λ w. Does l n r w) e h

-- of one of which the same is found, whatever goes on
pub does_same : {E : Type 0} (l n : Followed E) (r : Result (Unit {0}) WalkError) (walk other : Walk E) → ((go : State E → Tree E) → collect l.found (other l.state go) ≡ collect l.found (walk l.state go)) → Does l n r walk → Does l n r other
does_same l n (Ok u) walk other e h = λ go. e go ∙ h go
does_same l n (Err x) walk other e h = λ go. refused_from x _ _ (e go) (h go)

pub unmade : (b : Bool) (fs : List Fact) (e : WalkError) → b ≡ true → AreUnfit e fs → IsUnmade b fs e
unmade b fs errors.TooMany d h = h
unmade b fs errors.TooLarge d h = (d, h)
unmade b fs errors.Memory d h = tt

pub unmade_memory : (b : Bool) (fs : List Fact) (e : WalkError) → IsMemory e → IsUnmade b fs e
unmade_memory b fs errors.TooMany h = cc
unmade_memory b fs errors.TooLarge h = cc
unmade_memory b fs errors.Memory h = tt

module _ {E : Type 0} (b : State E → Bool) (claims : State E → Walk E) (l : Followed E) where
  chosen : (t : Bool) → b l.state ≡ t → (go : State E → Tree E) → collect l.found (if_replaced (b l.state) (claims l.state) l.state go) ≡ collect l.found (if_replaced t (claims l.state) l.state go)
  chosen t e go = ap (λ x. collect l.found (if_replaced x (claims l.state) l.state go)) e

  pub put_does : (n : Followed E) (r : Result (Unit {0}) WalkError) → b l.state ≡ true → Does l n r (claims l.state) → Does l n r (λ st go. if_replaced (b st) (claims st) st go)
  put_does n r e h = does_same l n r (claims l.state) (λ st go. if_replaced (b st) (claims st) st go) (chosen true e) h

  pub never_does : (n : Followed E) (r : Result (Unit {0}) WalkError) → b l.state ≡ false → Does l n r never → Does l n r (λ st go. if_replaced (b st) (claims st) st go)
  never_does n r e h = does_same l n r never (λ st go. if_replaced (b st) (claims st) st go) (chosen false e) h

  pub put_stops : (e : WalkError) → b l.state ≡ true → StopsAtStep l e (claims l.state) → StopsAtStep l e (λ st go. if_replaced (b st) (claims st) st go)
  put_stops e d h = λ go. refused_from e _ _ (chosen true d go) (h go)

  -- forms that were not made, of which claims would be
  pub unmade_stops : (fs : List Fact) (e : WalkError) → (AreUnfit e fs → StopsAtStep l e (claims l.state)) → IsUnmade (b l.state) fs e → StopsAtStep l e (λ st go. if_replaced (b st) (claims st) st go)
  unmade_stops fs errors.TooMany f h = absurd h
  unmade_stops fs errors.TooLarge f h = put_stops errors.TooLarge h.0 (f h.1)
  unmade_stops fs errors.Memory f h = λ go. tt
