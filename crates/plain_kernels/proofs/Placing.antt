-- A plain kernel has no loop and no barrier, so its entry is its one place.
use Rattle.std.proofs.Common.{◌≡◌, ℕ, List, [], ◌∷◌, ◌++◌, None, refl, ap}
use Rattle.std.specs.Prelude.{ℤ}
use Rattle.semantics.specs.Word.{Kind}
use Rattle.semantics.specs.Core.{Statements, none, one}
use Rattle.arrivals.specs.Loops.{unmet}
use Rattle.arrivals.specs.Points.{Left, points}
use Rattle.arrivals.specs.Places.{places, own_place, heads_among, reached, behind, from_barriers}
use Rattle.plain_kernels.specs.Kernels.{Plain, ArePlain}

pub body-met : (ks : List Kind) (size : ℕ) (groups : ℤ) (body : Statements) → ArePlain ks size groups body → unmet body ≡ None
body-met ks size groups none p = refl
body-met ks size groups (one s others) (Plain n b site e f z v i last pv, q) = body-met ks size groups others q

no-points : (ks : List Kind) (size : ℕ) (groups : ℤ) (body : Statements) → ArePlain ks size groups body → (rest : List Left) → points body rest ≡ []
no-points ks size groups none p rest = refl
no-points ks size groups (one s others) (Plain n b site e f z v i last pv, q) rest = no-points ks size groups others q rest

pub one-place : (ks : List Kind) (size : ℕ) (groups : ℤ) (body : Statements) → ArePlain ks size groups body → places body ≡ own_place None ∷ []
one-place ks size groups body p = ap (λ ps. (own_place None ∷ heads_among None (reached (behind body None)) ps) ++ from_barriers body ps) (no-points ks size groups body p [])
