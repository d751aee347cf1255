-- One step of a cursor.
use Rattle.std.specs.Prelude.{◌≡◌, ◌+◌, [], Option, None, Some}
use Rattle.domain.specs.declared.Domain.{Ghosts}
use Rattle.walk.specs.Cursors.{Gives, IsOver, Stands, stopped}
use Rattle.walk.specs.declared.cursor.Paths.{Paths}
use Rattle.walk.specs.declared.cursor.Step.{Step}
use Rattle.walk.specs.declared.one_path.OnePath.{OnePath}
use Rattle.walk.specs.declared.terrain.Terrain.{Terrain}
use Rattle.path_steps.specs.declared.path.Choice.{Choice}
use Rattle.std.proofs.Common.{Vec, Global}

-- at the place's next path, or at the next place
abbrev pub IsBehind : {E : Type 0} → Paths → OnePath E → Option (Vec Choice Global) → Paths → Type 0
IsBehind p w (Some given) q = (q.at ≡ p.at) × (q.claims ≡ p.claims) × (q.ends ≡ w.ends) × (q.given.items ≡ given.items)
IsBehind p w None q = (q.at ≡ p.at + 1) × (q.claims ≡ w.path.path.count) × (q.ends ≡ 0) × (q.given.items ≡ [])

pub record IsStep {E : Type 0} (p : Paths) (w : OnePath E) (s : Step E) : Type 0 where
  pub path : s.path ≡ w.path
  pub behind : IsBehind p w w.next s.behind
  pub starts : stopped s.behind ≡ None

-- what a step gives, or that nothing was left
abbrev pub Steps : {E : Type 0} → Ghosts E → Terrain E → (before : Paths) → Option (Step E) → Type 0
Steps g t before None = IsOver g t before
Steps g t before (Some s) = Gives g t before s.path s.behind × Stands g t s.behind × (stopped s.behind ≡ None)
