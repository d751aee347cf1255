-- A place that is reached.
use Rattle.std.proofs.Common.{◌≡◌, ℕ, Bool, true, Option, Some, sym, ap, subst, ◌∙◌}
use Rattle.std.specs.Prelude.{cond, Result, MatchResult}
use Rattle.arrivals.specs.Trees.{Stop, AtHead, Turns}
use Rattle.facts.specs.declared.error.WalkError.{WalkError}
use Rattle.walk_trees.specs.Trees.{Leaf}
use Rattle.walk_trees.specs.Walks.{arrived}
use Rattle.obligations.specs.Roots.{kinds, are_slots}
use Rattle.obligations.specs.Walking.{Placed, refused, claim_lines, arrive_at, stops}
use Rattle.path_steps.specs.Paths.{Found, Followed, collect, stopped}
use Rattle.path_steps.specs.Leads.{Steps}
use Rattle.path_steps.specs.Refusals.{StopsAtStep}
use Rattle.path_steps.proofs.Refusing.{refused_from}
use Rattle.arrival_claims.specs.Claims.{Comes, IsRefusedAt}

module _ {E : Type 0} (w : Placed E) (a h : Option ℕ) (stop : Stop) (turns : Turns) (l : Followed E) (b : Bool) (d : b ≡ are_slots w.kernel 0 (kinds w.kernel) l.state.variables) (p : b ≡ true) where
  lawful : collect l.found (arrive_at w a h stop turns l.state) ≡ collect l.found (claim_lines w a h l.state (λ st. Leaf (arrived stop turns st)))
  lawful = ap (λ c. collect l.found (cond c (claim_lines w a h l.state (λ st. Leaf (arrived stop turns st))) (refused l.state))) (sym d ∙ p)

  pub arrives : (m : Followed E) (n : Found E) → Steps l m (claim_lines w a h) → n ≡ stopped m stop turns → Comes l (arrive_at w a h stop turns) n
  unfolding collect
  arrives m n s e = e ∙ sym (s (λ st. Leaf (arrived stop turns st))) ∙ sym lawful

  pub arrival_stops : (e : WalkError) → StopsAtStep l e (claim_lines w a h) → IsRefusedAt l (arrive_at w a h stop turns) e
  arrival_stops e s = refused_from e _ _ lawful (s (λ st. Leaf (arrived stop turns st)))

pub stops_at_head : {E : Type 0} (w : Placed E) (s : Stop) (n : ℕ) (again : Bool) (t : Turns) (l : Followed E) (m : Found E) (r : Result (Unit {0}) WalkError) → s ≡ AtHead n again → MatchResult r (λ _. Comes l (arrive_at w w.anchor (Some n) (AtHead n again) t) m) (IsRefusedAt l (arrive_at w w.anchor (Some n) (AtHead n again) t)) → MatchResult r (λ _. Comes l (stops w s t) m) (IsRefusedAt l (stops w s t))
stops_at_head w s n again t l m r e h =
    let P : Stop → Type 0 = λ x. MatchResult r (λ _. Comes l (stops w x t) m) (IsRefusedAt l (stops w x t)) in
    subst P (sym e) h
