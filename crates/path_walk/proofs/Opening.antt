-- A loop with a barrier, up to its body or past it.
use Rattle.std.proofs.Common.{◌≡◌, ℕ, Bool, true, false, sym, ap, ◌∙◌}
use Rattle.std.specs.Prelude.{cond, Result, IsErr, IsErrAnd, MatchResult}
use Rattle.semantics.specs.Core.{Term}
use Rattle.arrivals.specs.Symbolic.{Drawn, draw_loop}
use Rattle.arrivals.specs.Trees.{Turns, turned}
use Rattle.facts.specs.declared.error.WalkError.{WalkError}
use Rattle.walk_trees.specs.Trees.{Tree}
use Rattle.walk_trees.specs.Walks.{State}
use Rattle.obligations.specs.Walking.{Placed, arrive, enter, course}
use Rattle.path_steps.specs.Paths.{Followed, collect}
use Rattle.path_steps.specs.Leads.{Steps, Leads}
use Rattle.path_steps.specs.Refusals.{StopsAtStep}
use Rattle.path_steps.specs.Halts.{Halts}
use Rattle.path_steps.specs.declared.halt.Halt.{Halt}
use Rattle.path_steps.specs.declared.halt.Halt.TheVariants as halts
use Rattle.path_steps.proofs.Refusing.{refused_from}
use Rattle.path_steps.proofs.Testing.{ended_from, halted}
use Rattle.path_walk.specs.Steps.{test_at}
use Rattle.path_walk.specs.Flows.{Opens, NotOpened}

module _ {E : Type 0} (w : Placed E) (n : ℕ) (a : Bool) (e : Term) (t : Turns) (l m : Followed E) (p : Steps l m (arrive w n a)) where
  at_its_test : (body go : Drawn (Tree E) (State E)) → collect l.found (draw_loop (course w) true n a e body go t l.state) ≡ collect m.found (test_at w n e m.state (λ c st. cond c (enter w n st (λ st'. body (turned n t) st')) (go t st)))
  at_its_test body go = p (λ st. test_at w n e st (λ c st1. cond c (enter w n st1 (λ st2. body (turned n t) st2)) (go t st1)))

  pub test_halts : {T : Type 0} (o : Followed E) (h : Halt) (P : T → Type 0) (r : Result T Halt) → IsErr r × IsErrAnd r (λ x. x ≡ h) → Halts m o h (test_at w n e) → MatchResult r P (λ x. NotOpened w n a e l t x o)
  test_halts o h P r i f = halted r h _ _ i (λ body go. ended_from o.found h _ _ (at_its_test body go) (f (λ c st. cond c (enter w n st (λ st'. body (turned n t) st')) (go t st))))

  module _ (o : Followed E) (b : Bool) (q : Leads m o (test_at w n e) b) where
    tested : (c : Bool) → b ≡ c → (body go : Drawn (Tree E) (State E)) → collect l.found (draw_loop (course w) true n a e body go t l.state) ≡ collect o.found (cond c (enter w n o.state (λ st'. body (turned n t) st')) (go t o.state))
    tested c d body go = at_its_test body go ∙ q (λ x st. cond x (enter w n st (λ st'. body (turned n t) st')) (go t st)) ∙ ap (λ x. collect o.found (cond x (enter w n o.state (λ st'. body (turned n t) st')) (go t o.state))) d

    pub past_it : b ≡ false → Opens w n a e l t false o t
    past_it d body go = tested false d body go

    pub into_it : (x : Followed E) (t' : Turns) → b ≡ true → Steps o x (enter w n) → t' ≡ turned n t → Opens w n a e l t true x t'
    into_it x t' d s f body go = tested true d body go ∙ s (λ st'. body (turned n t) st') ∙ ap (λ u. collect x.found (body u x.state)) (sym f)

    pub enter_stops : {T : Type 0} (x : Followed E) (y : WalkError) (P : T → Type 0) (r : Result T Halt) → IsErr r × IsErrAnd r (λ z. z ≡ halts.Refused y) → b ≡ true → StopsAtStep o y (enter w n) → MatchResult r P (λ z. NotOpened w n a e l t z x)
    enter_stops x y P r i d s = halted r (halts.Refused y) _ _ i (λ body go. refused_from y _ _ (tested true d body go) (s (λ st'. body (turned n t) st')))
