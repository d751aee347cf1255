use Rattle.std.proofs.Common.{◌≡◌, drop}
use Rattle.linear.specs.Forms.{forms}
use Rattle.facts.specs.View.{known_seen}
use Rattle.obligations.specs.Roots.{narrow_all}
use Rattle.path_steps.specs.Paths.{with_held}
use Rattle.path_steps.specs.View.{followed}
use Rattle.path_walk.proofs.narrowing.narrow_all.Given as goal

abbrev pub invariant-loop-fact : goal.invariant-loop-fact
invariant-loop-fact g l = with_held (followed l.path) (narrow_all g.D.Domain (known_seen l.setting.known) (forms (drop l.fact-index l.facts)) (followed l.path).state.held) ≡ with_held (followed l.initial.path) (narrow_all g.D.Domain (known_seen l.setting.known) (forms l.facts) (followed l.initial.path).state.held)
