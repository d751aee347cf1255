-- Conversions to the closest number (OpenCL 1.2, 6.2.3.3), and the same bits as another scalar (6.2.4.2).
use Rattle.std.specs.Prelude.{ℕ, Bool, true, false, not, ◌&&◌, nat_eq}
use Rattle.semantics.specs.Word as word
use Rattle.semantics.specs.Word.{Kind}
use Rattle.semantics.specs.Core.{Site, Term, Unary, Convert, Minimum, Maximum}
use Rattle.opencl_terms.specs.Types.{Scalar, Boolean, Char, Uchar, Short, Ushort, Int, Uint, Long, Size, Float, bits_in}
use Rattle.opencl_terms.specs.Conversions.{int, uint, converted, bits_as_uint}
use Rattle.opencl_values.specs.Bits.{bits_as_int}
use Rattle.opencl_terms.specs.Operations as operations

-- the greatest number of a scalar that has no more than an `int`
abbrev pub greatest : Scalar → ℕ
greatest Char = 127
greatest Uchar = 255
greatest Short = 32767
greatest Ushort = 65535
greatest to = 2147483647

-- the least number of a narrow scalar
abbrev pub least : Site → Scalar → Term
least site Char = Unary word.Negate word.Int site (int 128)
least site Short = Unary word.Negate word.Int site (int 32768)
least site to = int 0

-- the number of a narrow scalar that is closest to an `int`
abbrev pub closest : Site → (to : Scalar) → Term → Term
closest site to t = Minimum (Maximum t (least site to)) (int (greatest to))

-- conversions with `_sat` (6.2.3.3), of a promoted scalar
abbrev pub saturated_int : Site → (to : Scalar) → Term → Term
saturated_int site Int t = t
saturated_int site Uint t = Convert word.Uint site (Maximum t (int 0))
saturated_int site to t = closest site to t

abbrev pub saturated_uint : Site → (to : Scalar) → Term → Term
saturated_uint site Uint t = t
saturated_uint site to t = Convert word.Int site (Minimum t (uint (greatest to)))

abbrev pub size_below : (ids : Kind) → Site → (number : ℕ) → Term → Term
size_below ids site n t = Minimum t (Convert ids site (uint n))

abbrev pub saturated_size : (ids : Kind) → Site → (to : Scalar) → Term → Term
saturated_size ids site Uint t = Convert word.Uint site (size_below ids site 4294967295 t)
saturated_size ids site to t = Convert word.Int site (size_below ids site (greatest to) t)

abbrev pub saturated_float : Site → (to : Scalar) → Term → Term
saturated_float site Int t = operations.of_one operations.ToInt word.Int t
saturated_float site Uint t = operations.of_one operations.ToUint word.Uint t
saturated_float site to t = closest site to (operations.of_one operations.ToInt word.Int t)

abbrev pub saturated_from : (ids : Kind) → Site → (from to : Scalar) → Term → Term
saturated_from ids site Uint to t = saturated_uint site to t
saturated_from ids site Size to t = saturated_size ids site to t
saturated_from ids site Float to t = saturated_float site to t
saturated_from ids site from to t = saturated_int site to t

-- the same bits as another scalar of as many (6.2.4.2)
abbrev pub reread : (ids : Kind) → Site → (from to : Scalar) → Term → Term
reread ids site Int Int t = t
reread ids site from Int t = bits_as_int site t
reread ids site Int Uint t = bits_as_uint site t
reread ids site from Uint t = t
reread ids site Int Float t = bits_as_uint site t
reread ids site from Float t = t
reread ids site from to t = converted ids from to site t

-- a size and a `bool` have no bits that each device agrees on, and a `long` has more than its term
abbrev pub has_own_bits : Scalar → Bool
has_own_bits Boolean = true
has_own_bits Size = true
has_own_bits Long = true
has_own_bits s = false

abbrev pub has_bits_of : (from to : Scalar) → Bool
has_bits_of from to = not (has_own_bits from) && nat_eq (bits_in from) (bits_in to)
