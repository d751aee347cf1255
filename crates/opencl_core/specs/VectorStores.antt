-- Vectors that are stored to elements of a scalar, one behind the other (OpenCL 1.2, 6.12.7).
use Rattle.std.specs.Prelude.{ℕ, List, [], ◌∷◌, Bool, cond, not, ◌&&◌, Option, Some, None, is_some, Ok}
use Rattle.semantics.specs.Core as core
use Rattle.semantics.specs.Word as word
use Rattle.semantics.specs.Core.{Site, Array}
use Rattle.kernel_names.specs.NameMap.{Other}
use Rattle.opencl_tree.specs.Tree.{Expression, Expressions, nothing, also}
use Rattle.opencl_terms.specs.Types.{Scalar, Value, type_of}
use Rattle.opencl_terms.specs.Conversions.{stored}
use Rattle.opencl_values.specs.Elements.{Element, part_meant}
use Rattle.opencl_values.specs.Faults.{Checked, WrongType, WriteToConst, refused, then}
use Rattle.opencl_values.specs.Reads.{element_at, place, vectors_on_by}
use Rattle.opencl_values.specs.Scope.{Meaning, PointerOf}
use Rattle.opencl_values.specs.Values.{value_of, part_of}
use Rattle.opencl_values.specs.Wholes.{whole, component, is_same_type, places}
use Rattle.opencl_values.specs.Singles.{alone}
use Rattle.opencl_values.specs.Views.{pieces, memory_of}
use Rattle.opencl_core.specs.Components.{changed_by, heed_none, keep_all, store_all}
use Rattle.opencl_core.specs.Pointing.{Pointed, pointed, offset_of}
use Rattle.opencl_core.specs.Rooms.{Room, known, write, set, next_slot, made_up}

-- a pointer with its offset in a variable, since it is evaluated once
abbrev pub meant_with : Pointed → (slot : ℕ) → Meaning
meant_with p slot = PointerOf p.array p.element p.is_constant p.row p.over slot

abbrev pub keep_pointer : Site → Pointed → Room → Checked (Meaning × Room)
keep_pointer at p r =
    then (next_slot at r) (λ slot. then (set slot (offset_of p.offset) at r) (λ w. Ok (meant_with p slot, made_up at word.Int w)))

abbrev pub element_behind : Site → Meaning → (count : ℕ) → Checked Element
element_behind at m n = then (part_meant at m) (λ p. element_at at p (place n))

-- what is seen as another type is stored as the elements under it
abbrev pub store_pieces : Site → (over : Scalar) → Element → Value → (place : ℕ) → Room → Checked Room
store_pieces at a x v n r =
    store_all (record { at = at; sign_site = at }) x (memory_of at a (whole (component v n))) (places (pieces a (alone v.type.scalar))) r

abbrev pub store_over : Site → (over : Option Scalar) → Element → Value → (place : ℕ) → Room → Checked Room
store_over at None x v n r = write (λ k. core.Store k x.array at x.index (stored v.type.scalar at (component v n).term)) at Other r
store_over at (Some a) x v n r = store_pieces at a x v n r

abbrev pub store_component : Site → Meaning → Value → (place : ℕ) → Room → Checked Room
store_component at m v n r = then (element_behind at m n) (λ x. store_over at x.over x v n r)

abbrev pub store_components : Site → Meaning → Value → (places : List ℕ) → Room → Checked Room
store_components at m v [] r = Ok r
store_components at m v (n ∷ ns) r = then (store_component at m v n r) (store_components at m v ns)

-- components that depend on the array are kept in variables first, and those that are stored as several elements
abbrev pub store_by_way : Site → Meaning → Value → Room → Checked Room
store_by_way at m v r = then (keep_all at v v.type.width r) (λ k. store_components at m k.0 (places v.type.width) k.1)

abbrev pub store_kept : Site → Array → (over : Option Scalar) → Value → (Meaning × Room) → Checked Room
store_kept at a over v k =
    cond (not (is_some over) && heed_none (changed_by k.1.returns a) v (places v.type.width)) (store_components at k.0 v (places v.type.width) k.1) (store_by_way at k.0 v k.1)

abbrev pub store_to : Site → (width : ℕ) → Value → Pointed → Room → Checked Room
store_to at n v p r =
    cond p.is_constant (refused WriteToConst at)
    (cond (is_same_type v.type (type_of p.element.scalar n)) (then (keep_pointer at p r) (store_kept at p.array p.over v)) (refused WrongType at))

-- where a vector goes: so many vectors behind a pointer
abbrev pub target_at : Site → (width : ℕ) → (by of : Expression) → Room → Checked Pointed
target_at at n i p r =
    then (value_of (known r) i) (λ k. then (part_of (known r) at p) (λ q. then (vectors_on_by at n q k) (pointed at)))

abbrev pub vector_written : Site → (width : ℕ) → (value by of : Expression) → Room → Checked Room
vector_written at n e i p r = then (value_of (known r) e) (λ v. then (target_at at n i p r) (λ q. store_to at n v q r))

abbrev pub write_vector : Site → (width : ℕ) → Expressions → Room → Checked Room
write_vector at n (also e (also i (also p nothing))) r = vector_written at n e i p r
write_vector at n es r = refused WrongType at
