-- What pointers point into (C99 6.5.3.2, 6.5.6).
use Rattle.std.specs.Prelude.{ℕ, List, [], ◌∷◌, Bool, true, false, cond, ◌&&◌, nat_eq, Option, None, Some, Ok}
use Rattle.semantics.specs.Core as core
use Rattle.semantics.specs.Core.{Site, Array}
use Rattle.opencl_tree.specs.Tree.{Expression}
use Rattle.opencl_terms.specs.Types.{Scalar, ValueType, scalar_number}
use Rattle.opencl_terms.specs.Conversions.{int}
use Rattle.opencl_values.specs.Faults.{Checked, LeftOut, Pointer, refused, then}
use Rattle.opencl_values.specs.Elements.{Part}
use Rattle.opencl_values.specs.Values.{part_of}
use Rattle.opencl_core.specs.Rooms.{Room, known}

-- A pointer is an array with an offset, which its slot has: from its declaration on it points into that array
abbrev pub offset_of : Option core.Term → core.Term
offset_of None = int 0
offset_of (Some o) = o

-- a row that is the same at each place: that of a private array
abbrev pub is_fixed : core.Term → Bool
is_fixed (core.Literal k z) = true
is_fixed (core.Id k f n) = true
is_fixed (core.Binary op k s l r) = is_fixed l && is_fixed r
is_fixed (core.Convert k s t) = is_fixed t
is_fixed t = false

-- the row that a pointer points into, where it is not the whole array
abbrev pub row_behind : Site → (lengths : List ℕ) → Option core.Term → Checked (Option (ℕ × core.Term))
row_behind at (n ∷ []) None = Ok None
row_behind at (n ∷ []) (Some t) = cond (is_fixed t) (Ok (Some (n, t))) (refused (LeftOut Pointer) at)
row_behind at [] None = Ok None
row_behind at ns t = refused (LeftOut Pointer) at

-- what a pointer points into, and its offset; where a buffer's elements are seen as ones of another type, `over` is the buffer's scalar
pub record Pointed : Type 0 where
  pub array : Array
  pub element : ValueType
  pub is_constant : Bool
  pub row : Option (ℕ × core.Term)
  pub offset : Option core.Term
  pub over : Option Scalar

abbrev pub pointed_by : Part → Option (ℕ × core.Term) → Pointed
pointed_by p row =
    record { array = p.array; element = p.element; is_constant = p.is_constant; row = row; offset = p.offset; over = p.over }

abbrev pub pointed : Site → Part → Checked Pointed
pointed at p = then (row_behind at p.lengths p.index) (λ row. Ok (pointed_by p row))

abbrev pub pointed_in : Site → Expression → Room → Checked Pointed
pointed_in at e r = then (part_of (known r) at e) (pointed at)

-- whether two pointers see the elements of a buffer alike
abbrev pub is_same_view : (a b : Option Scalar) → Bool
is_same_view None None = true
is_same_view None (Some b) = false
is_same_view (Some a) None = false
is_same_view (Some a) (Some b) = nat_eq (scalar_number a) (scalar_number b)
