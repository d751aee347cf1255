-- Types that values have, and the kinds that carry them (OpenCL 1.2, 6.1). A value of n components is n terms. `bool`, `char`, `short` and
-- their like are `int` terms that lie in their range; a `float` is the `uint` of its 32 bits. A `long` is an `int` term, too: what would leave
-- the range of `int` is a fault (ours), so that each term has the number that the `long` has.
use Rattle.std.specs.Prelude.{ℕ, List, Bool, true, false, nat_le}
use Rattle.semantics.specs.Word as word
use Rattle.semantics.specs.Word.{Kind}
use Rattle.semantics.specs.Core.{Term}

-- the scalars of values: no `ulong`, `half` or `double`; `Boolean` is `bool`
pub data Scalar : Type 0 where
  Boolean : Scalar
  Char : Scalar
  Uchar : Scalar
  Short : Scalar
  Ushort : Scalar
  Int : Scalar
  Uint : Scalar
  Long : Scalar
  Size : Scalar
  Float : Scalar

-- a scalar has width 1, a vector 2, 3, 4, 8 or 16
pub record ValueType : Type 0 where
  pub scalar : Scalar
  pub width : ℕ

-- a value has one term a component
pub record Value : Type 0 where
  pub type : ValueType
  pub terms : List Term

abbrev pub type_of : Scalar → (width : ℕ) → ValueType
type_of s n = record { scalar = s; width = n }

abbrev pub value_of : ValueType → List Term → Value
value_of t terms = record { type = t; terms = terms }

abbrev pub is_vector : ValueType → Bool
is_vector t = nat_le 2 t.width

-- the kind that a component has as a variable, where ids and sizes, of `size_t`, have the kind `ids`
abbrev pub kind_of : (ids : Kind) → Scalar → Kind
kind_of ids Boolean = word.Int
kind_of ids Char = word.Int
kind_of ids Uchar = word.Int
kind_of ids Short = word.Int
kind_of ids Ushort = word.Int
kind_of ids Int = word.Int
kind_of ids Uint = word.Uint
kind_of ids Long = word.Int
kind_of ids Size = ids
kind_of ids Float = word.Uint

-- the kind of an element in memory: a narrow one is the low bits of a `uint`
abbrev pub stored_kind : Scalar → Kind
stored_kind Boolean = word.Uint
stored_kind Char = word.Uint
stored_kind Uchar = word.Uint
stored_kind Short = word.Uint
stored_kind Ushort = word.Uint
stored_kind Int = word.Int
stored_kind Uint = word.Uint
stored_kind Long = word.Int
stored_kind Size = word.Uint
stored_kind Float = word.Uint

-- the integer promotions (C99 6.3.1.1): what is narrower than `int` is one
abbrev pub promoted : Scalar → Scalar
promoted Boolean = Int
promoted Char = Int
promoted Uchar = Int
promoted Short = Int
promoted Ushort = Int
promoted Int = Int
promoted Uint = Uint
promoted Long = Long
promoted Size = Size
promoted Float = Float

-- the usual arithmetic conversions of two promoted scalars (C99 6.3.1.8; a size has as many bits as a `uint` at least). Of a `long` and a
-- size they differ from device to device
abbrev pub common : Scalar → Scalar → Scalar
common Float b = Float
common Size Float = Float
common Size b = Size
common Long Float = Float
common Long Size = Size
common Long b = Long
common Uint Float = Float
common Uint Size = Size
common Uint Long = Long
common Uint b = Uint
common a b = promoted b

abbrev pub is_narrow : Scalar → Bool
is_narrow Char = true
is_narrow Uchar = true
is_narrow Short = true
is_narrow Ushort = true
is_narrow s = false

abbrev pub is_float : Scalar → Bool
is_float Float = true
is_float s = false

-- the bits of a component in memory, and what a vector's shift counts are taken modulo (OpenCL 1.2, 6.3 j); of a `long`, which is in no
-- memory and no vector, those of its term
abbrev pub bits_in : Scalar → ℕ
bits_in Boolean = 8
bits_in Char = 8
bits_in Uchar = 8
bits_in Short = 16
bits_in Ushort = 16
bits_in Int = 32
bits_in Uint = 32
bits_in Long = 32
bits_in Size = 32
bits_in Float = 32

-- the signed scalar of as many bits, which comparisons of vectors give (6.3 d)
abbrev pub signed_of : Scalar → Scalar
signed_of Boolean = Char
signed_of Char = Char
signed_of Uchar = Char
signed_of Short = Short
signed_of Ushort = Short
signed_of Int = Int
signed_of Uint = Int
signed_of Long = Long
signed_of Size = Int
signed_of Float = Int

-- no two scalars have one number
abbrev pub scalar_number : Scalar → ℕ
scalar_number Boolean = 0
scalar_number Char = 1
scalar_number Uchar = 2
scalar_number Short = 3
scalar_number Ushort = 4
scalar_number Int = 5
scalar_number Uint = 6
scalar_number Size = 7
scalar_number Float = 8
scalar_number Long = 9

-- two scalars of which C makes a `long` on some devices, and a size on others
abbrev pub is_unsettled : (a b : Scalar) → Bool
is_unsettled Long Size = true
is_unsettled Size Long = true
is_unsettled a b = false
