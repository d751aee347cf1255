-- Elements by indexes that are values, one, and several as a vector (C99 6.5.2.1; OpenCL 1.2, 6.12.7).
use Rattle.std.specs.Prelude.{ℕ, List, [], ◌∷◌, ◌++◌, cond, Ok}
use Rattle.semantics.specs.Word as word
use Rattle.semantics.specs.Word.{Kind}
use Rattle.semantics.specs.Core.{Site, Binary}
use Rattle.opencl_terms.specs.Types.{Int, Value, type_of, is_vector}
use Rattle.opencl_terms.specs.Conversions.{int}
use Rattle.opencl_values.specs.Faults.{Checked, WrongType, refused, then}
use Rattle.opencl_values.specs.Singles.{Single, single}
use Rattle.opencl_values.specs.Wholes.{whole, only, places}
use Rattle.opencl_values.specs.Vectors.{literal_of}
use Rattle.opencl_values.specs.Elements.{Part, Element, indexed, element_in, loaded_from, as_offset}
use Rattle.opencl_values.specs.Pointers.{shifted}

-- an array with its last index, as an element, and as the element's value
abbrev pub indexed_by : Site → Part → Value → Checked Part
indexed_by site p i = then (only site i) (indexed site p)

abbrev pub element_at : Site → Part → Value → Checked Element
element_at site p i = then (indexed_by site p i) (element_in site)

abbrev pub element_value : Site → Part → Value → Checked Value
element_value site p i = then (element_at site p i) (λ e. Ok (loaded_from site e))

-- so many times a number of elements, an `int`
abbrev pub times : Site → (width : ℕ) → Single → Single
times site n v = single Int (Binary word.Multiply word.Int site (as_offset site v) (int n))

-- a pointer to scalars, so many vectors on
abbrev pub vectors_on : Site → (width : ℕ) → Part → Single → Checked Part
vectors_on site n p v = cond (is_vector p.element) (refused WrongType site) (shifted site word.Add p (times site n v))

abbrev pub vectors_on_by : Site → (width : ℕ) → Part → Value → Checked Part
vectors_on_by site n p v = then (only site v) (vectors_on site n p)

-- the element so many behind a pointer
abbrev pub place : (place : ℕ) → Value
place n = whole (single Int (int n))

abbrev pub elements_behind : Site → Part → (so_far : List Value) → (places : List ℕ) → Checked (List Value)
elements_behind site p vs [] = Ok vs
elements_behind site p vs (n ∷ ns) = then (element_value site p (place n)) (λ v. elements_behind site p (vs ++ v ∷ []) ns)

abbrev pub vector_in : (ids : Kind) → Site → (width : ℕ) → Part → Checked Value
vector_in ids site n p = then (elements_behind site p [] (places n)) (literal_of ids site (type_of p.element.scalar n))

abbrev pub vector_at : (ids : Kind) → Site → (width : ℕ) → Value → Part → Checked Value
vector_at ids site n v p = then (vectors_on_by site n p v) (vector_in ids site n)
