-- Elements of 8 and 16 bits by the number of their bits: what the lemmas on them speak of.
use Rattle.std.specs.Prelude.{ℕ, ◌+◌, ◌-◌, ◌≤◌, ◌^◌, ◌%◌, ℤ, pos, ◌-ℤ◌, ◌≤ℤ◌, Bool, true, false, cond, nat_lt}
use Rattle.semantics.specs.Word.{Int, Uint, BitAnd, BitXor, Subtract, bits_of}
use Rattle.semantics.specs.Core.{Site, Term, Literal, Binary, Convert}

-- `char`, `uchar`, `short`, `ushort` (OpenCL 1.2, 6.1.1): one bit less than the type has, and whether it is signed
pub record Storage : Type 0 where
  pub below : ℕ
  pub is_signed : Bool

abbrev pub bits : Storage → ℕ
bits of = of.below + 1

abbrev pub IsNarrow : Storage → Type 0
IsNarrow of = of.below ≤ 15

-- the low bits of a number
abbrev pub bits_kept : Storage → ℤ → ℕ
bits_kept of z = bits_of z % 2 ^ (of.below + 1)

-- as a number of the type: an unsigned one is the bits, a signed one is in two's complement
abbrev pub number_by : Bool → ℕ → ℕ → ℤ
number_by false half m = pos m
number_by true half m = cond (nat_lt m half) (pos m) (pos m -ℤ pos (half + half))

abbrev pub number_of : Storage → ℤ → ℤ
number_of of z = number_by of.is_signed (2 ^ of.below) (bits_kept of z)

-- the range of the type
abbrev pub HasBy : Bool → ℕ → ℤ → Type 0
HasBy false half z = (pos 0 ≤ℤ z) × (z ≤ℤ (pos (half + half) -ℤ pos 1))
HasBy true half z = ((pos 0 -ℤ pos half) ≤ℤ z) × (z ≤ℤ (pos half -ℤ pos 1))

abbrev pub Has : Storage → ℤ → Type 0
Has of z = HasBy of.is_signed (2 ^ of.below) z

-- a value to be stored (C99 6.3.1.3: modulo 2 to the number of bits; to a signed type ours, as all compilers have it)
abbrev pub narrowed : Storage → Site → Term → Term
narrowed of site e = Binary BitAnd Uint site e (Literal Uint (pos (2 ^ (of.below + 1) - 1)))

-- the sign's bit turned, and taken off again
abbrev pub signed_term : Bool → ℕ → Site → Term → Term
signed_term false half site e = e
signed_term true half site e = Binary Subtract Int site (Binary BitXor Int site e (Literal Int (pos half))) (Literal Int (pos half))

-- a loaded value, promoted to `int` (C99 6.3.1.1p2)
abbrev pub widened : Storage → Site → Term → Term
widened of site e = signed_term of.is_signed (2 ^ of.below) site (Convert Int site (narrowed of site e))
