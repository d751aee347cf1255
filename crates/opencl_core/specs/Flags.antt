-- Fence flags, and calls that stand as statements (OpenCL 1.2, 6.12.8 and 6.12.9).
use Rattle.std.specs.Prelude.{ℕ, List, Bool, true, false, cond, not, ◌&&◌, ◌||◌, Option, Some, None, Ok, bytes_eq, is_some, codes}
use Rattle.semantics.specs.Word.{BitOr}
use Rattle.semantics.specs.Core as core
use Rattle.semantics.specs.Core.{Site}
use Rattle.kernel_names.specs.NameMap.{Waiting}
use Rattle.texts.specs.Surface.{Arithmetic}
use Rattle.opencl_tree.specs.Tree.{Expression, Name, Infix, Expressions, nothing, also}
use Rattle.opencl_values.specs.Faults.{Checked, BarrierFlags, LeftOut, Effect, Outside, refused, then, when, found}
use Rattle.opencl_values.specs.Scope.{meaning_of}
use Rattle.opencl_values.specs.Widened.{written_width}
use Rattle.opencl_core.specs.Sites.{begin_of}
use Rattle.opencl_core.specs.Names.{is_one_of}
use Rattle.opencl_core.specs.Rooms.{Room, write}
use Rattle.opencl_core.specs.VectorStores.{write_vector}

-- whether a flag is the local one
abbrev pub flag_named : List ℕ → Option Bool
flag_named name =
    cond (bytes_eq name (codes "CLK_LOCAL_MEM_FENCE")) (Some true) (cond (bytes_eq name (codes "CLK_GLOBAL_MEM_FENCE")) (Some false) None)

abbrev pub one_flag : Expression → Checked Bool
one_flag (Name at name) = found (flag_named name) BarrierFlags at
one_flag e = refused BarrierFlags (begin_of e)

-- which fences there are
pub record Fences : Type 0 where
  pub local : Bool
  pub global : Bool

-- one flag, or both joined by `|`, in either order
abbrev pub fences_of : Expression → Checked Fences
fences_of (Infix at (Arithmetic BitOr) left right) =
    then (one_flag left) (λ a. then (one_flag right) (λ b.
    when ((a && not b) || (not a && b)) BarrierFlags (begin_of right) (record { local = true; global = true })))
fences_of flags = then (one_flag flags) (λ local. Ok (record { local = local; global = not local }))

-- of just one argument
abbrev pub fences_in : Site → Expressions → Checked Fences
fences_in at (also flags nothing) = fences_of flags
fences_in at es = refused BarrierFlags at

-- fences order the loads and stores of one item alone, so nothing is written for them
abbrev pub is_fence : List ℕ → Bool
is_fence name = bytes_eq name (codes "mem_fence") || (bytes_eq name (codes "read_mem_fence") || bytes_eq name (codes "write_mem_fence"))

abbrev pub barrier : Site → Expressions → Room → Checked Room
barrier at es r = then (fences_in at es) (λ f. write (λ n. core.Barrier n f.local f.global) at Waiting r)

-- a file's own function, or flag, hides the built-in one
abbrev pub is_hidden : Room → (name : List ℕ) → Bool
is_hidden r name = is_some (meaning_of r.visible name)

abbrev pub is_own : (name : List ℕ) → Room → Bool
is_own name r = is_hidden r name || (is_hidden r (codes "CLK_LOCAL_MEM_FENCE") || is_hidden r (codes "CLK_GLOBAL_MEM_FENCE"))

-- a vector may be stored, all else is left out
abbrev pub written : Site → Expressions → Room → (width : Option ℕ) → Checked Room
written at es r None = refused (LeftOut Effect) at
written at es r (Some n) = write_vector at n es r

abbrev pub built_in : Site → (name : List ℕ) → Expressions → Room → Checked Room
built_in at name es r =
    cond (bytes_eq name (codes "barrier")) (barrier at es r)
    (cond (is_fence name) (then (fences_in at es) (λ f. Ok r)) (written at es r (written_width name)))

abbrev pub called : Site → (name : List ℕ) → Expressions → Room → Checked Room
called at name es r = cond (is_own name r) (refused (LeftOut Outside) at) (built_in at name es r)
