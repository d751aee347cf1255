-- Facts that narrow, other than those of tests.
use Rattle.std.proofs.Common.{◌≡◌, true, sym, ap, ◌∙◌}
use Rattle.facts.specs.Symbols.{Fact}
use Rattle.facts.specs.Refusals.{IsUnfit}
use Rattle.facts.specs.declared.error.WalkError.{WalkError}
use Rattle.walk_trees.specs.Held.{narrow}
use Rattle.walk_trees.specs.Walks.{Setting, holding}
use Rattle.walk_trees.specs.Bits.{tell_where}
use Rattle.path_steps.specs.Paths.{Followed, collect, with_fact, with_held}
use Rattle.path_steps.specs.Leads.{Steps}
use Rattle.path_steps.specs.Refusals.{StopsAtStep}
use Rattle.path_steps.proofs.Refusing.{unfit_fact}

pub tell_steps : {E : Type 0} (s : Setting E) (f : Fact) (l m n : Followed E) → m ≡ with_held l (narrow s.domain s.known f l.state.held) → n ≡ with_fact m f → Steps l n (tell_where s true f)
unfolding collect
tell_steps s f l m n h e go = ap (λ (u : Followed _). collect (with_fact u f).found (go u.state)) (sym h) ∙ ap (λ (u : Followed _). collect u.found (go u.state)) (sym e)

pub tell_stops : {E : Type 0} (s : Setting E) (f : Fact) (m : Followed E) (e : WalkError) → IsUnfit e f → StopsAtStep m e (tell_where s true f)
tell_stops s f m e h go = unfit_fact e m.found f (go (holding (narrow s.domain s.known f m.state.held) m.state)) h
