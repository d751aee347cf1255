-- Where the walk is not the wide one.
use Rattle.std.proofs.Common.{◌≡◌, ℕ, Bool, false, cond, Option, ap}
use Rattle.semantics.specs.Launch.{Kernel}
use Rattle.domain.specs.declared.Domain.{Ghosts}
use Rattle.facts.specs.Elements.{Known}
use Rattle.obligations.specs.Notes.{Notes}
use Rattle.obligations.specs.Roots.{narrow_all, facts_at, root_held, root_known}

-- what is said of a place narrows nothing
pub narrow-root : {E : Type 0} (g : Ghosts E) (e : Known E) (k : Kernel) (n : Notes) (a h : Option ℕ) → n.is_wide ≡ false → root_known g e k n a h ≡ root_held g k n a h
narrow-root g e k n a h q = ap (λ (b : Bool). cond b (narrow_all g e (facts_at n a h) (root_held g k n a h)) (root_held g k n a h)) q
