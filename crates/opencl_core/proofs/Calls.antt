-- What is written for a call of a function, whose value is not used.
use Rattle.std.proofs.Common.{◌≡◌, ℕ, List, refl, sym, subst}
use Rattle.semantics.specs.Core.{Site}
use Rattle.opencl_tree.specs.Tree.{Expression, Expressions, Call}
use Rattle.opencl_core.specs.Rooms.{Room}
use Rattle.opencl_core.specs.Writing.{evaluated, call_evaluated}

pub evaluated-is : {e : Expression} {at : Site} {name : List ℕ} {es : Expressions} → (r : Room) → e ≡ Call at name es → evaluated e r ≡ call_evaluated e at name es r
evaluated-is {at = at} {name = name} {es = es} r k = subst (λ e. evaluated e r ≡ call_evaluated e at name es r) (sym k) refl
