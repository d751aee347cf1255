-- What parameters take in a host's memory (OpenCL 1.2, 6.1.1, 6.1.2 and 6.1.5), and the kinds that they have in a launch.
use Rattle.std.specs.Prelude.{ℕ, ◌*◌, cond, nat_eq}
use Rattle.semantics.specs.Word as word
use Rattle.host_launches.specs.declared.shapes.Scalar.{Scalar}
use Rattle.host_launches.specs.declared.shapes.Scalar.TheVariants as scalars

-- in bytes
abbrev pub size_of : Scalar → ℕ
size_of scalars.Char = 1
size_of scalars.Uchar = 1
size_of scalars.Short = 2
size_of scalars.Ushort = 2
size_of scalars.Int = 4
size_of scalars.Uint = 4
size_of scalars.Long = 8
size_of scalars.Float = 4

-- as an argument: what is narrower than `int` is one, a `long` has to be one, and a `float` is the `uint` of its bits
abbrev pub kind_of : Scalar → word.Kind
kind_of scalars.Char = word.Int
kind_of scalars.Uchar = word.Int
kind_of scalars.Short = word.Int
kind_of scalars.Ushort = word.Int
kind_of scalars.Int = word.Int
kind_of scalars.Uint = word.Uint
kind_of scalars.Long = word.Int
kind_of scalars.Float = word.Uint

-- as an element of a buffer; none is a `long`
abbrev pub stored_kind : Scalar → word.Kind
stored_kind scalars.Char = word.Uint
stored_kind scalars.Uchar = word.Uint
stored_kind scalars.Short = word.Uint
stored_kind scalars.Ushort = word.Uint
stored_kind scalars.Int = word.Int
stored_kind scalars.Uint = word.Uint
stored_kind scalars.Long = word.Int
stored_kind scalars.Float = word.Uint

-- a vector of 3 components takes the room of 4
abbrev pub places_of : (width : ℕ) → ℕ
places_of n = cond (nat_eq n 3) 4 n

abbrev pub bytes_of : Scalar → (width : ℕ) → ℕ
bytes_of s n = size_of s * places_of n
