-- Elements of arrays by their indexes (C99 6.5.2.1).
use Rattle.std.specs.Prelude.{ℕ, ◌-◌, List, [], ◌∷◌, Bool, false, cond, nat_le, Option, Some, None, Ok}
use Rattle.semantics.specs.Word as word
use Rattle.semantics.specs.Core.{Site, Array, Term, Variable, Load, Binary, Convert, Within}
use Rattle.opencl_terms.specs.Types.{Scalar, Uint, Size, ValueType, Value, is_float, is_vector}
use Rattle.opencl_terms.specs.Conversions.{int, uint, masked, loaded}
use Rattle.opencl_values.specs.Faults.{Checked, WrongType, LeftOut, Pointer, Outside, refused, then}
use Rattle.opencl_values.specs.Scope.{Meaning, VariableOf, ArrayOf, OwnOf, PointerOf, NumberOf, TypeOf, UnreadOf}
use Rattle.opencl_values.specs.Singles.{Single, single}
use Rattle.opencl_values.specs.Wholes.{whole, words, vectors_below}
use Rattle.opencl_values.specs.Vectors.{Loaded, vector_made}
use Rattle.opencl_values.specs.Views.{pieces, is_finer, view_loaded}

-- an array, of which some dimensions have an index: the lengths of the others, where they begin in it, and, of a pointer, its offset, an
-- `int`, to which the next index is added. Where a buffer's elements are seen as ones of another type, `over` is the buffer's scalar, of
-- which the offset counts elements; of finer ones it counts these
pub record Part : Type 0 where
  pub array : Array
  pub element : ValueType
  pub is_constant : Bool
  pub lengths : List ℕ
  pub index : Option Term
  pub offset : Option Term
  pub over : Option Scalar

-- an element, by its index in the whole array; a vector by that of its first component, and what is seen as another type by that of the
-- first element under it
pub record Element : Type 0 where
  pub array : Array
  pub element : ValueType
  pub is_constant : Bool
  pub index : Term
  pub over : Option Scalar

abbrev pub part : Array → ValueType → (is_constant : Bool) → (lengths : List ℕ) → (index offset : Option Term) → (over : Option Scalar) → Part
part a t constant lengths index offset over =
    record { array = a; element = t; is_constant = constant; lengths = lengths; index = index; offset = offset; over = over }

-- a private array's own length and row
abbrev pub lengths_of : Option (ℕ × Term) → List ℕ
lengths_of None = []
lengths_of (Some r) = r.0 ∷ []

abbrev pub row_of : Option (ℕ × Term) → Option Term
row_of None = None
row_of (Some r) = Some r.1

abbrev pub part_meant : Site → Meaning → Checked Part
part_meant site (ArrayOf a t lengths constant) = Ok (part a t constant lengths None None None)
part_meant site (OwnOf a t lengths constant row) = Ok (part a t constant lengths (Some row) None None)
part_meant site (PointerOf a t constant row over slot) = Ok (part a t constant (lengths_of row) (row_of row) (Some (Variable slot)) over)
part_meant site (VariableOf t slot constant) = refused WrongType site
part_meant site (NumberOf bits) = refused WrongType site
part_meant site (TypeOf t) = refused WrongType site
part_meant site UnreadOf = refused (LeftOut Outside) site

abbrev pub offset_as : Site → Scalar → Term → Term
offset_as site Uint t = Convert word.Int site t
offset_as site Size t = Convert word.Int site t
offset_as site s t = t

-- an index of a dimension has to lie in it (ours: C99 J.2 leaves what lies outside undefined, also where the whole array has it)
abbrev pub in_dimension : Site → (length : ℕ) → Term → Term
in_dimension site n t = Convert word.Uint site (Within site n t)

-- of a buffer, and of an array of one dimension, the index is the element's own. The lengths that are left come with it
abbrev pub first_index : Site → (lengths : List ℕ) → Term → List ℕ × Term
first_index site [] t = ([], t)
first_index site (n ∷ []) t = ([], t)
first_index site (n ∷ m ∷ ns) t = (m ∷ ns, in_dimension site n t)

-- rows stand one behind the other (6.5.2.1p3)
abbrev pub in_row : Site → (row : Term) → (length : ℕ) → Term → Term
in_row site row n t = Binary word.Add word.Uint site (Binary word.Multiply word.Uint site row (uint n)) (in_dimension site n t)

abbrev pub next_index : Site → (lengths : List ℕ) → (row : Term) → Term → Checked (List ℕ × Term)
next_index site [] row t = refused WrongType site
next_index site (n ∷ ns) row t = Ok (ns, in_row site row n t)

abbrev pub one_index : Site → (lengths : List ℕ) → (so_far : Option Term) → Term → Checked (List ℕ × Term)
one_index site lengths None t = Ok (first_index site lengths t)
one_index site lengths (Some row) t = next_index site lengths row t

abbrev pub part_at : Part → List ℕ × Term → Part
part_at p rest = record p { lengths = rest.0; index = Some rest.1; offset = None }

abbrev pub with_index : Site → Part → Term → Checked Part
with_index site p t = then (one_index site p.lengths p.index t) (λ rest. Ok (part_at p rest))

-- offsets are `int`, so that none wraps: what is no `int` is converted, which is a fault above 2^31 - 1
abbrev pub as_offset : Site → Single → Term
as_offset site v = offset_as site v.scalar v.term

-- so many elements of a type, by what an offset counts
abbrev pub times_pieces : Site → (count : ℕ) → Term → Term
times_pieces site n k = cond (nat_le n 1) k (Binary word.Multiply word.Int site k (int n))

abbrev pub steps : Site → (over : Option Scalar) → ValueType → Term → Term
steps site None t k = k
steps site (Some a) t k = times_pieces site (pieces a t) k

-- behind an offset an index counts from there (6.5.6p8)
abbrev pub from_offset : Site → (over : Option Scalar) → ValueType → (offset : Option Term) → Single → Term
from_offset site over t None i = i.term
from_offset site over t (Some o) i = Binary word.Add word.Int site o (steps site over t (as_offset site i))

abbrev pub indexed : Site → Part → Single → Checked Part
indexed site p i =
    cond (is_float i.scalar) (refused WrongType site) (with_index site p (from_offset site p.over p.element p.offset i))

-- the elements of vectors stand one behind the other (6.1.5): this is the index of the first one
abbrev pub in_vector : Site → (words : ℕ) → Term → Term
in_vector site n t = Binary word.Multiply word.Uint site (in_dimension site (vectors_below n) t) (uint n)

abbrev pub first_word : Site → ValueType → Term → Term
first_word site t i = cond (is_vector t) (in_vector site (words t.width) i) i

-- what is seen as another type has to be in its place: buffers begin at a multiple of each type's size, and of the elements that lie under
-- it the first has a number that is a multiple of how many these are (6.3.2.3p7). None of them has an index of more than 32 bits
abbrev pub in_place : Site → (count : ℕ) → Term → Term
in_place site n t = Within site 1 (masked site (n - 1) (Convert word.Uint site t))

abbrev pub in_view : Site → (count : ℕ) → Term → Term
in_view site n t =
    cond (nat_le n 1) (in_dimension site 2147483648 t)
    (Binary word.Add word.Uint site (in_dimension site 2147483648 t) (in_place site n t))

abbrev pub first_in_memory : Site → (over : Option Scalar) → ValueType → Term → Term
first_in_memory site None t i = first_word site t i
first_in_memory site (Some a) t i = in_view site (pieces a t) i

abbrev pub whole_element : Site → Part → Term → Element
whole_element site p t =
    record { array = p.array; element = p.element; is_constant = p.is_constant; index = first_in_memory site p.over p.element t; over = p.over }

-- a row of an array is a pointer to its first element (6.3.2.1p3)
abbrev pub whole_part : Site → Part → (lengths : List ℕ) → Option Term → Checked Element
whole_part site p [] (Some t) = Ok (whole_element site p t)
whole_part site p lengths t = refused (LeftOut Pointer) site

abbrev pub is_finer_over : Option Scalar → ValueType → Bool
is_finer_over None t = false
is_finer_over (Some a) t = is_finer a t

-- finer elements are no elements of the buffer (ours)
abbrev pub element_in : Site → Part → Checked Element
element_in site p = cond (is_finer_over p.over p.element) (refused (LeftOut Pointer) site) (whole_part site p p.lengths p.index)

abbrev pub loaded_as : Site → Array → Scalar → Term → Term
loaded_as site a s index = loaded s site (Load a site index)

abbrev pub scalar_loaded : Site → Element → Value
scalar_loaded site e = whole (single e.element.scalar (loaded_as site e.array e.element.scalar e.index))

-- a load of a vector loads all its components
abbrev pub vector_loaded : Site → Element → Value
vector_loaded site e = vector_made word.Uint site (Loaded e.array e.element.scalar e.index) e.element

abbrev pub loaded_over : Site → (over : Option Scalar) → Element → Value
loaded_over site None e = cond (is_vector e.element) (vector_loaded site e) (scalar_loaded site e)
loaded_over site (Some a) e = view_loaded site e.array a e.element e.index

abbrev pub loaded_from : Site → Element → Value
loaded_from site e = loaded_over site e.over e
