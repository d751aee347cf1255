-- Pointer parameters of a kernel that its body moves: each gets an offset into its array, which begins at 0 (C99 6.5.6).
use Rattle.std.specs.Prelude.{ℕ, List, [], ◌∷◌, Bool, cond, Option, None, Some, Ok}
use Rattle.semantics.specs.Word as word
use Rattle.semantics.specs.Core.{Site, Array}
use Rattle.opencl_tree.specs.Tree.{Statements}
use Rattle.opencl_files.specs.FileTree.{Parameter}
use Rattle.opencl_moves.specs.Moves.{moves_among}
use Rattle.opencl_terms.specs.Types.{ValueType}
use Rattle.opencl_terms.specs.Conversions.{int}
use Rattle.opencl_values.specs.Faults.{Checked, then}
use Rattle.opencl_values.specs.Scope.{Meaning, ArrayOf, PointerOf, meaning_of}
use Rattle.opencl_core.specs.Rooms.{Room, next_slot, set, with_slot, with_range, not_ended, bound}

-- an array that a name means
abbrev pub array_meant : Option Meaning → Option (Array × ValueType × Bool)
array_meant (Some (ArrayOf a t lengths constant)) = Some (a, t, constant)
array_meant m = None

-- from here on the name means a pointer into the array
abbrev pub moving_array : Site → (name : List ℕ) → Array → ValueType → (is_constant : Bool) → Room → Checked Room
moving_array at name a t constant r =
    then (next_slot at r) (λ slot. then (set slot (int 0) at r) (λ w.
    Ok (bound name (PointerOf a t constant None None slot) (with_range at name w.next not_ended (with_slot word.Int w)))))

-- (a value that is assigned to is no pointer)
abbrev pub moving_meant : Site → (name : List ℕ) → Option (Array × ValueType × Bool) → Room → Checked Room
moving_meant at name None r = Ok r
moving_meant at name (Some x) r = moving_array at name x.0 x.1 x.2 r

abbrev pub moving_name : Statements → Site → (name : List ℕ) → Room → Checked Room
moving_name body at name r = cond (moves_among name body) (moving_meant at name (array_meant (meaning_of r.visible name)) r) (Ok r)

abbrev pub moving_given : Statements → Site → Option (List ℕ) → Room → Checked Room
moving_given body at None r = Ok r
moving_given body at (Some name) r = moving_name body at name r

unfoldable pub moving_parameter : Statements → Parameter → Room → Checked Room
moving_parameter body p r = moving_given body p.site p.name r

abbrev pub moving_parameters : Statements → List Parameter → Room → Checked Room
moving_parameters body [] r = Ok r
moving_parameters body (p ∷ ps) r = then (moving_parameter body p r) (moving_parameters body ps)
