-- Types by their names (OpenCL 1.2, 6.1.1; C99 6.7.2, 6.7.7), and their sizes (OpenCL 1.2, 6.3 k).
use Rattle.std.specs.Prelude.{ℕ, ◌*◌, List, [], ◌∷◌, not, Ok}
use Rattle.semantics.specs.Core.{Site}
use Rattle.opencl_tokens.specs.Scalars as words
use Rattle.opencl_tree.specs.Types.{Base, Void, Numbers, Alias, TypeName, Qualifiers}
use Rattle.opencl_terms.specs.Types.{Scalar, Boolean, Char, Uchar, Short, Ushort, Int, Uint, Size, Float, ValueType, type_of, is_vector}
use Rattle.opencl_terms.specs.Types as scalars
use Rattle.opencl_values.specs.Faults.{Checked, UnknownName, WrongType, LeftOut, Vector, Pointer, Long, Half, Double, DeviceSize, Outside, refused, then, when, found}
use Rattle.opencl_values.specs.Wholes.{words}
use Rattle.opencl_values.specs.Scope.{Meaning, VariableOf, ArrayOf, OwnOf, PointerOf, NumberOf, TypeOf, UnreadOf, Binding, meaning_of}

-- `ulong`, `half` and `double` are left out; a `ptrdiff_t` has 64 bits on some devices
abbrev pub scalar_named : Site → words.Scalar → Checked Scalar
scalar_named site words.Bool = Ok Boolean
scalar_named site words.Char = Ok Char
scalar_named site words.Uchar = Ok Uchar
scalar_named site words.Short = Ok Short
scalar_named site words.Ushort = Ok Ushort
scalar_named site words.Int = Ok Int
scalar_named site words.Uint = Ok Uint
scalar_named site words.Long = Ok scalars.Long
scalar_named site words.Ulong = refused (LeftOut Long) site
scalar_named site words.SizeT = Ok Size
scalar_named site words.PtrdiffT = refused (LeftOut Long) site
scalar_named site words.Half = refused (LeftOut Half) site
scalar_named site words.Float = Ok Float
scalar_named site words.Double = refused (LeftOut Double) site

abbrev pub type_meant : Site → Meaning → Checked ValueType
type_meant site (VariableOf t slot constant) = refused WrongType site
type_meant site (ArrayOf a t lengths constant) = refused WrongType site
type_meant site (OwnOf a t lengths constant row) = refused WrongType site
type_meant site (PointerOf a t constant row over slot) = refused WrongType site
type_meant site (NumberOf bits) = refused WrongType site
type_meant site (TypeOf t) = Ok t
type_meant site UnreadOf = refused (LeftOut Outside) site

abbrev pub type_of_base : (visible : List Binding) → Base → Site → Checked ValueType
type_of_base names Void site = refused WrongType site
type_of_base names (Numbers s width) site = then (scalar_named site s) (λ s. Ok (type_of s width))
type_of_base names (Alias name) site = then (found (meaning_of names name) UnknownName site) (type_meant site)

-- the scalar of a type of one component
abbrev pub scalar_in : Site → ValueType → Checked Scalar
scalar_in site t = when (not (is_vector t)) (LeftOut Vector) site t.scalar

abbrev pub without_stars : Site → List Qualifiers → ValueType → Checked Scalar
without_stars site [] t = scalar_in site t
without_stars site (q ∷ qs) t = refused (LeftOut Pointer) site

-- the scalar that a name of a type is
abbrev pub scalar_of_type : (visible : List Binding) → TypeName → Site → Checked Scalar
scalar_of_type names t site = then (type_of_base names t.base site) (without_stars site t.stars)

abbrev pub type_without_stars : Site → List Qualifiers → ValueType → Checked ValueType
type_without_stars site [] t = Ok t
type_without_stars site (q ∷ qs) t = refused (LeftOut Pointer) site

-- the type that a name of a type is
abbrev pub type_of_name : (visible : List Binding) → TypeName → Site → Checked ValueType
type_of_name names t site = then (type_of_base names t.base site) (type_without_stars site t.stars)

-- what `sizeof` gives, in bytes: of a `bool` and of a size it is each device's own
abbrev pub bytes_in : Site → Scalar → Checked ℕ
bytes_in site Boolean = refused (LeftOut DeviceSize) site
bytes_in site Char = Ok 1
bytes_in site Uchar = Ok 1
bytes_in site Short = Ok 2
bytes_in site Ushort = Ok 2
bytes_in site Int = Ok 4
bytes_in site Uint = Ok 4
bytes_in site scalars.Long = Ok 8
bytes_in site Size = refused (LeftOut DeviceSize) site
bytes_in site Float = Ok 4

abbrev pub bytes_of : Site → ValueType → Checked ℕ
bytes_of site t = then (bytes_in site t.scalar) (λ n. Ok (n * words t.width))
