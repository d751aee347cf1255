-- The path that is at hand, where a cursor gave one.
use Rattle.std.proofs.Common.{◌≡◌, subst}
use Rattle.std.specs.Prelude.{Option, Some, None, Ok}
use Rattle.domain.specs.declared.Domain.{Ghosts}
use Rattle.two_thread.specs.declared.walked.Tagged.{Tagged}
use Rattle.walk.specs.Cursors.{Answers, Gives, IsOver, stopped}
use Rattle.walk.specs.declared.cursor.Paths.{Paths}
use Rattle.walk.specs.declared.terrain.Terrain.{Terrain}

-- the path that a cursor gave
pub gave : {E : Type 0} (g : Ghosts E) (t : Terrain E) (before behind : Paths) (r : Option (Tagged E)) (p : Tagged E) → r ≡ Some p → Answers g t before (Ok r) behind → Gives g t before p behind × (stopped behind ≡ None)
gave g t before behind r p e a = subst (λ x. Answers g t before (Ok x) behind) e a

pub gave_none : {E : Type 0} (g : Ghosts E) (t : Terrain E) (before behind : Paths) (r : Option (Tagged E)) → r ≡ None → Answers g t before (Ok r) behind → IsOver g t before × IsOver g t behind × (stopped behind ≡ None)
gave_none g t before behind r e a = subst (λ x. Answers g t before (Ok x) behind) e a
