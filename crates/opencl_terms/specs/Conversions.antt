-- Conversions of a component from scalar to scalar (C99 6.3.1; OpenCL 1.2, 6.2).
use Rattle.std.specs.Prelude.{ℕ, pos, Bool, true, false, cond}
use Rattle.semantics.specs.Word as word
use Rattle.semantics.specs.Word.{Kind}
use Rattle.semantics.specs.Core.{Site, Term, Literal, Binary, Convert, Compare}
use Rattle.opencl_terms.specs.Types.{Scalar, Boolean, Char, Uchar, Short, Ushort, Int, Uint, Long, Size, Float}
use Rattle.opencl_terms.specs.Operations.{OfInt, OfUint, OfSize, ToInt, ToUint, nothing, of_one, compared}

abbrev pub uint : ℕ → Term
uint n = Literal word.Uint (pos n)

abbrev pub int : ℕ → Term
int n = Literal word.Int (pos n)

-- the bits of a `uint` that a mask has
abbrev pub masked : Site → (mask : ℕ) → Term → Term
masked site mask t = Binary word.BitAnd word.Uint site t (uint mask)

-- as an `int` that is not negative
abbrev pub low_bits : Site → (mask : ℕ) → Term → Term
low_bits site mask t = Convert word.Int site (masked site mask t)

-- the number that low bits are in two's complement, by the value of their highest one
abbrev pub signed_bits : Site → (mask highest : ℕ) → Term → Term
signed_bits site mask highest t =
    Binary word.Subtract word.Int site (Binary word.BitXor word.Int site (low_bits site mask t) (int highest)) (int highest)

-- the low bits of a `uint` as a number of a narrow scalar: what a load of an element makes of it, and a conversion of a number, modulo the
-- scalar's width (C99 6.3.1.3p2; of signed ones C leaves it to the compiler). A `bool` has no elements in memory (6.9 k)
abbrev pub narrowed : Scalar → Site → Term → Term
narrowed Boolean site t = t
narrowed Char site t = signed_bits site 255 128 t
narrowed Uchar site t = low_bits site 255 t
narrowed Short site t = signed_bits site 65535 32768 t
narrowed Ushort site t = low_bits site 65535 t
narrowed Int site t = t
narrowed Uint site t = t
narrowed Long site t = t
narrowed Size site t = t
narrowed Float site t = t

-- whether each number of a scalar is one of another, which is narrow
abbrev pub fits_in : (from to : Scalar) → Bool
fits_in Boolean to = true
fits_in Char Char = true
fits_in Char Short = true
fits_in Uchar Uchar = true
fits_in Uchar Short = true
fits_in Uchar Ushort = true
fits_in Short Short = true
fits_in Ushort Ushort = true
fits_in from to = false

-- as a test (C99 6.8.4.1p2): a test takes an integer as it is
abbrev pub tested : Scalar → Term → Term
tested Float t = compared word.Unequal t nothing
tested s t = t

-- as a `bool`: 1 unless it is 0 (C99 6.3.1.2)
abbrev pub truth : (ids : Kind) → Scalar → Term → Term
truth ids Boolean t = t
truth ids Float t = compared word.Unequal t nothing
truth ids Uint t = Compare word.Unequal word.Uint t nothing
truth ids Size t = Compare word.Unequal ids t nothing
truth ids s t = Compare word.Unequal word.Int t (int 0)

-- as an `int`: of a float out of range an unknown one (OpenCL 1.2, 6.2.3.3), of another number out of range a fault (ours)
abbrev pub as_int : (from : Scalar) → Site → Term → Term
as_int Float site t = of_one ToInt word.Int t
as_int Uint site t = Convert word.Int site t
as_int Size site t = Convert word.Int site t
as_int from site t = t

-- as a `uint`: an integer modulo 2^32
abbrev pub as_uint : (from : Scalar) → Site → Term → Term
as_uint Float site t = of_one ToUint word.Uint t
as_uint Uint site t = t
as_uint from site t = Convert word.Uint site t

-- a negative number has no size of as many bits: it becomes what the device's `size_t` makes of it (6.3.1.3p2)
abbrev pub as_size : (ids : Kind) → (from : Scalar) → Site → Term → Term
as_size ids Float site t = Convert ids site (of_one ToUint word.Uint t)
as_size ids Size site t = t
as_size ids from site t = Convert ids site t

-- as a `long`: an unsigned number that is no `int` is a fault (ours), and a float is none that is known
abbrev pub as_long : (from : Scalar) → Site → Term → Term
as_long Float site t = Convert word.Int site (of_one ToUint word.Uint t)
as_long from site t = as_int from site t

abbrev pub as_float : (from : Scalar) → Term → Term
as_float Float t = t
as_float Uint t = of_one OfUint word.Uint t
as_float Size t = of_one OfSize word.Uint t
as_float from t = of_one OfInt word.Uint t

-- the `uint` whose low bits are kept: a float goes by way of an `int`
abbrev pub bits_to_keep : (from : Scalar) → Site → Term → Term
bits_to_keep Float site t = Convert word.Uint site (of_one ToInt word.Int t)
bits_to_keep from site t = as_uint from site t

-- as a number of a narrow scalar
abbrev pub as_narrow : (from to : Scalar) → Site → Term → Term
as_narrow from to site t = cond (fits_in from to) t (narrowed to site (bits_to_keep from site t))

abbrev pub converted : (ids : Kind) → (from to : Scalar) → Site → Term → Term
converted ids from Boolean site t = truth ids from t
converted ids from Char site t = as_narrow from Char site t
converted ids from Uchar site t = as_narrow from Uchar site t
converted ids from Short site t = as_narrow from Short site t
converted ids from Ushort site t = as_narrow from Ushort site t
converted ids from Int site t = as_int from site t
converted ids from Uint site t = as_uint from site t
converted ids from Long site t = as_long from site t
converted ids from Size site t = as_size ids from site t
converted ids from Float site t = as_float from t

-- what a load of an element gives, and the word that a store of a value keeps (6.1.1)
abbrev pub loaded : Scalar → Site → Term → Term
loaded s site t = narrowed s site t

abbrev pub stored : Scalar → Site → Term → Term
stored Boolean site t = t
stored Char site t = masked site 255 (Convert word.Uint site t)
stored Uchar site t = masked site 255 (Convert word.Uint site t)
stored Short site t = masked site 65535 (Convert word.Uint site t)
stored Ushort site t = masked site 65535 (Convert word.Uint site t)
stored Int site t = t
stored Uint site t = t
stored Long site t = t
stored Size site t = t
stored Float site t = t

-- the `uint` that has the bits of an `int` (6.2.4)
abbrev pub bits_as_uint : Site → Term → Term
bits_as_uint site t = Convert word.Uint site t
