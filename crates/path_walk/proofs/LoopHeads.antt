-- The test of a head.
use Rattle.std.proofs.Common.{◌≡◌, ℕ, Bool, true, false, ap, ◌∙◌}
use Rattle.std.specs.Prelude.{cond, Result, IsErr, IsErrAnd, MatchResult}
use Rattle.semantics.specs.Core.{Term}
use Rattle.facts.specs.declared.error.WalkError.{WalkError}
use Rattle.walk_trees.specs.Trees.{Tree}
use Rattle.walk_trees.specs.Walks.{State}
use Rattle.obligations.specs.Walking.{Placed, enter, course}
use Rattle.path_steps.specs.Paths.{Followed, collect}
use Rattle.path_steps.specs.Leads.{Steps, Leads}
use Rattle.path_steps.specs.Refusals.{StopsAtStep}
use Rattle.path_steps.specs.Halts.{Halts}
use Rattle.path_steps.specs.declared.halt.Halt.{Halt}
use Rattle.path_steps.specs.declared.halt.Halt.TheVariants as halts
use Rattle.path_steps.proofs.Refusing.{refused_from}
use Rattle.path_steps.proofs.Testing.{halted}
use Rattle.path_walk.specs.Steps.{test_at}
use Rattle.path_walk.specs.Flows.{Tested, NotTested}

module _ {E : Type 0} (w : Placed E) (n : ℕ) (e : Term) (l m : Followed E) where
  pub head_halts : {T : Type 0} (h : Halt) (P : T → Type 0) (r : Result T Halt) → IsErr r × IsErrAnd r (λ x. x ≡ h) → Halts l m h (test_at w n e) → MatchResult r P (λ x. NotTested w n e l x m)
  head_halts h P r i f = halted r h _ _ i (λ body go. f (λ c st. cond c (enter w n st (λ st'. body st')) (go st)))

  module _ (b : Bool) (q : Leads l m (test_at w n e) b) where
    tested : (c : Bool) → b ≡ c → (body go : State E → Tree E) → collect l.found ((course w).test n e l.state (λ st. enter w n st (λ st'. body st')) (λ st. go st)) ≡ collect m.found (cond c (enter w n m.state (λ st'. body st')) (go m.state))
    tested c d body go = q (λ x st. cond x (enter w n st (λ st'. body st')) (go st)) ∙ ap (λ x. collect m.found (cond x (enter w n m.state (λ st'. body st')) (go m.state))) d

    pub head_past : b ≡ false → Tested w n e l false m
    head_past d body go = tested false d body go

    pub head_into : (o : Followed E) → b ≡ true → Steps m o (enter w n) → Tested w n e l true o
    head_into o d s body go = tested true d body go ∙ s body

    pub head_stops : {T : Type 0} (o : Followed E) (y : WalkError) (P : T → Type 0) (r : Result T Halt) → IsErr r × IsErrAnd r (λ z. z ≡ halts.Refused y) → b ≡ true → StopsAtStep m y (enter w n) → MatchResult r P (λ z. NotTested w n e l z o)
    head_stops o y P r i d s = halted r (halts.Refused y) _ _ i (λ body go. refused_from y _ _ (tested true d body go) (s body))
