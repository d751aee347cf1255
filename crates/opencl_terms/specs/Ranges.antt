-- Which numbers a narrow scalar has, and which of them has the low bits of a number (OpenCL 1.2, 6.1.1; C99 6.2.6.2).
use Rattle.std.specs.Prelude.{ℕ, ◌+◌, ◌%◌, ◌^◌, ℤ, pos, ◌-ℤ◌, ◌≤ℤ◌, Bool, true, false, cond, nat_lt}
use Rattle.semantics.specs.Word.{bits_of}
use Rattle.opencl_terms.specs.Types.{Scalar, Char, Uchar, Short, Ushort, bits_in}

-- the low bits of a number
abbrev pub bits_kept : Scalar → ℤ → ℕ
bits_kept s z = bits_of z % 2 ^ bits_in s

-- bits of which the highest stands for `half`, taken off instead of put on
abbrev pub with_sign : (half bits : ℕ) → ℤ
with_sign half m = cond (nat_lt m half) (pos m) (pos m -ℤ pos (half + half))

abbrev pub number_of_bits : Scalar → (bits : ℕ) → ℤ
number_of_bits Char m = with_sign 128 m
number_of_bits Short m = with_sign 32768 m
number_of_bits s m = pos m

-- the number of a narrow scalar that has the low bits of a number
abbrev pub number_in : Scalar → ℤ → ℤ
number_in s z = number_of_bits s (bits_kept s z)

abbrev pub HasSigned : (half : ℕ) → ℤ → Type 0
HasSigned half z = ((pos 0 -ℤ pos half) ≤ℤ z) × (z ≤ℤ (pos half -ℤ pos 1))

abbrev pub HasUnsigned : (half : ℕ) → ℤ → Type 0
HasUnsigned half z = (pos 0 ≤ℤ z) × (z ≤ℤ (pos (half + half) -ℤ pos 1))

-- a number that a narrow scalar has
abbrev pub Has : Scalar → ℤ → Type 0
Has Char z = HasSigned 128 z
Has Uchar z = HasUnsigned 128 z
Has Short z = HasSigned 32768 z
Has Ushort z = HasUnsigned 32768 z
Has s z = Unit {0}
