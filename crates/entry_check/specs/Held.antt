-- Paths that are held, and what is left behind them.
use Rattle.std.specs.Prelude.{◌≡◌, ◌≤◌, List, [], ◌∷◌, ◌++◌}
use Rattle.domain.specs.declared.Domain.{Ghosts}
use Rattle.two_thread.specs.Paths.{all_accesses, all_claims, all_ends}
use Rattle.two_thread.specs.declared.walked.Tagged.{Tagged}
use Rattle.walk.specs.Cursors.{left_accesses, left_claims, left_count, left_ends}
use Rattle.walk.specs.declared.cursor.Paths.{Paths}
use Rattle.walk.specs.declared.terrain.Terrain.{Terrain}

-- with what stands on the first of these paths, and what was left, the rest is what stands on all of them, and what is left behind
pub record Holds {E : Type 0} (g : Ghosts E) (t : Terrain E) (before : Paths) (from : List (Tagged E)) (behind : Paths) (held : List (Tagged E)) : Type 0 where
  pub claims : all_claims from ++ left_claims g t before ≡ all_claims held ++ left_claims g t behind
  pub accesses : all_accesses from ++ left_accesses g t before ≡ all_accesses held ++ left_accesses g t behind
  pub ends : all_ends from ++ left_ends g t before ≡ all_ends held ++ left_ends g t behind
  pub count : left_count g t behind ≤ left_count g t before

-- the same paths, but for the last one
abbrev pub IsWithoutLast : {E : Type 0} → (all but : List (Tagged E)) → Type 0
IsWithoutLast {E} all but = (ps : List (Tagged E)) (p : Tagged E) → all ≡ ps ++ p ∷ [] → but ≡ ps
