-- Calls by their arguments.
use Rattle.std.proofs.Common.{◌≡◌, ◌≢◌, ◌<◌, ◌≤◌, ◌+◌, ℕ, List, [], ◌∷◌, length, refl, ap, ◌∙◌, arith, add-one}
use Rattle.semantics.specs.Core.{Site}
use Rattle.opencl_tree.specs.View.{expressions, initials}
use Rattle.opencl_tree.specs.declared.tree.Initial.{Initial}
use Rattle.opencl_tree.specs.declared.tree.Expr.{Expr}
use Rattle.opencl_values.specs.Faults.{BarrierFlags, WrongType, refused}
use Rattle.opencl_core.specs.Declaring.{count_of}
use Rattle.opencl_core.specs.Flags.{fences_in}
use Rattle.opencl_core.specs.Rooms.{Room}
use Rattle.opencl_core.specs.VectorStores.{write_vector}

pub fences-many : (at : Site) (es : List Expr) → length es ≢ 1 → fences_in at (expressions es) ≡ refused BarrierFlags at
fences-many at [] h = refl
fences-many at (e ∷ []) h = absurd (h refl)
fences-many at (e ∷ x ∷ es) h = refl

pub write_vector-few : (at : Site) (n : ℕ) (es : List Expr) (r : Room) → length es < 3 → write_vector at n (expressions es) r ≡ refused WrongType at
write_vector-few at n [] r h = refl
write_vector-few at n (e ∷ []) r h = refl
write_vector-few at n (e ∷ x ∷ []) r h = refl
write_vector-few at n (e ∷ x ∷ y ∷ es) r h = absurd (omega arith)

pub write_vector-many : (at : Site) (n : ℕ) (es : List Expr) (r : Room) → 3 < length es → write_vector at n (expressions es) r ≡ refused WrongType at
write_vector-many at n [] r h = absurd (omega arith)
write_vector-many at n (e ∷ []) r h = absurd (omega arith)
write_vector-many at n (e ∷ x ∷ []) r h = absurd (omega arith)
write_vector-many at n (e ∷ x ∷ y ∷ []) r h = absurd (omega arith)
write_vector-many at n (e ∷ x ∷ y ∷ z ∷ es) r h = refl

pub ruleset arguments = (fences-many)

pub ruleset vector_arguments = (write_vector-few, write_vector-many)

pub count_of-length : (is : List Initial) → count_of (initials is) ≡ length is
count_of-length [] = refl
count_of-length (i ∷ is) = ap (λ n. n + 1) (count_of-length is) ∙ add-one (length is)

pub ruleset counts = (count_of-length)
