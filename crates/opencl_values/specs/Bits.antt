-- Numbers, and elements of memory, by their bits (OpenCL 1.2, 6.1.1 and 6.2.4.2).
use Rattle.std.specs.Prelude.{ℕ, Bool, true, false}
use Rattle.semantics.specs.Word as word
use Rattle.semantics.specs.Word.{Rightward}
use Rattle.semantics.specs.Core.{Site, Term, Binary, Shift}
use Rattle.opencl_terms.specs.Types.{Scalar, Boolean, Char, Uchar, Short, Ushort, Int, Uint, Long, Size, Float}
use Rattle.opencl_terms.specs.Conversions.{int, uint, masked, low_bits, narrowed, bits_as_uint}

-- a `bool` and a size have no size in memory of their own (6.9 k); elements that are `long` are left out
abbrev pub is_in_memory : Scalar → Bool
is_in_memory Boolean = false
is_in_memory Size = false
is_in_memory Long = false
is_in_memory s = true

-- the `int` that has the bits of a `uint`: its upper half as a number of 16 bits, 2^16 times, and its lower half. No part of it leaves the
-- range
abbrev pub upper_half : Site → Term → Term
upper_half site t = narrowed Short site (Shift Rightward word.Uint t (uint 16))

abbrev pub bits_as_int : Site → Term → Term
bits_as_int site t =
    Binary word.Add word.Int site (Binary word.Multiply word.Int site (upper_half site t) (int 65536)) (low_bits site 65535 t)

-- what an element's word is: its bits as a `uint`, but for an `int`
abbrev pub word_of : Scalar → Scalar
word_of Int = Int
word_of s = Uint

abbrev pub lowest : Scalar → Site → Term → Term
lowest Char site t = masked site 255 t
lowest Uchar site t = masked site 255 t
lowest Short site t = masked site 65535 t
lowest Ushort site t = masked site 65535 t
lowest s site t = t

-- the bits of an element, by its word, and the word that has the lowest bits of a `uint`
abbrev pub bits_of_word : Scalar → Site → Term → Term
bits_of_word Int site t = bits_as_uint site t
bits_of_word s site t = lowest s site t

abbrev pub word_of_bits : Scalar → Site → Term → Term
word_of_bits Int site t = bits_as_int site t
word_of_bits s site t = lowest s site t

-- the number of a scalar that has these bits, and the bits of a number, of which the lowest are its own
abbrev pub number_of_bits : Scalar → Site → Term → Term
number_of_bits Int site t = bits_as_int site t
number_of_bits s site t = narrowed s site t

abbrev pub bits_of_number : Scalar → Site → Term → Term
bits_of_number Uint site t = t
bits_of_number Size site t = t
bits_of_number Float site t = t
bits_of_number s site t = bits_as_uint site t
