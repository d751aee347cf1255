-- Known bits and their operations, as functions on the places that are known and the bits there.
use Rattle.std.specs.Prelude.{ℕ, ℤ, pos, ◌+ℤ◌, ◌-ℤ◌, ◌*ℤ◌, ◌^◌, ◌+◌, ◌-◌, ◌*◌, ◌/◌, ◌%◌, ◌≡◌, ◌==◌, Bool, None}
use Rattle.std.specs.Int.{int_rem_euclid, trailing_ones, w32}
use Rattle.std.specs.Int.RustNames.{unsigned_abs, bit_and, bit_or, bit_xor}
use Rattle.domain.specs.declared.Bounds.{Bounds}
use Rattle.domain.specs.declared.Residue.{Residue}

-- a 1 in `known` at each of 32 places whose bit is known, and the bits there; at the other places `value` has 0
pub record Bits : Type 0 where
  pub known : ℕ
  pub value : ℕ

abbrev pub IsMasked : Bits → Type 0
IsMasked a = bit_and a.value a.known ≡ a.value

-- what a number leaves, from 0 on
abbrev pub modulo : ℤ → ℕ → ℕ
modulo z m = unsigned_abs (int_rem_euclid z (pos m))

-- of the lowest 32 bits of a number, those that are known are those of `value`
abbrev pub agrees : Bits → ℤ → Bool
agrees a z = bit_and (modulo z (2 ^ 32)) a.known == a.value

abbrev pub nothing : Bits
nothing = record { known = 0; value = 0 }

-- the t lowest bits of a number
abbrev pub lowest : ℕ → ℤ → Bits
lowest t n = record { known = 2 ^ t - 1; value = modulo n (2 ^ t) }

abbrev pub number : ℤ → Bits
number = lowest 32

-- how many places from the lowest on are known without a gap
unfoldable pub low : ℕ → ℕ
low known = trailing_ones w32 (known % 2 ^ 32)

-- how many places from the lowest on both know
abbrev pub shared : Bits → Bits → ℕ
shared a b = low (bit_and a.known b.known)

-- the ones of m where n has 0
abbrev pub without : ℕ → ℕ → ℕ
without m n = bit_xor m (bit_and m n)

-- where both know the same bit
abbrev pub alike : Bits → Bits → ℕ
alike a b = without (bit_and a.known b.known) (bit_xor a.value b.value)

abbrev pub join : Bits → Bits → Bits
join a b = record { known = alike a b; value = bit_and a.value (alike a b) }

abbrev pub add : Bits → Bits → Bits
add a b = lowest (shared a b) (pos a.value +ℤ pos b.value)

abbrev pub subtract : Bits → Bits → Bits
subtract a b = lowest (shared a b) (pos a.value -ℤ pos b.value)

abbrev pub multiply : Bits → Bits → Bits
multiply a b = lowest (shared a b) (pos a.value *ℤ pos b.value)

-- the bits that are known to be 0
abbrev pub zeros : Bits → ℕ
zeros a = without a.known a.value

-- a bit of both is known where either has a known 0, and where both are known
abbrev pub mask : Bits → Bits → Bits
mask a b = record { known = bit_or (bit_and a.known b.known) (bit_or (zeros a) (zeros b)); value = bit_and a.value b.value }

-- the k lowest bits of a product with 2 to the power k are 0
abbrev pub shift_left : Bits → ℕ → Bits
shift_left a k = record { known = (a.known * 2 ^ k + (2 ^ k - 1)) % 2 ^ 32; value = (a.value * 2 ^ k) % 2 ^ 32 }

-- of a quotient by 2 to the power k, the k highest of 32 bits are not known
abbrev pub shift_right : Bits → ℕ → Bits
shift_right a k = record { known = a.known % 2 ^ 32 / 2 ^ k; value = a.value / 2 ^ k }

abbrev pub unbounded : Bounds
unbounded = record { low = None; high = None }

abbrev pub residue : Bits → Residue
residue a = record { modulus = 2 ^ low a.known; remainder = pos (a.value % 2 ^ low a.known) }
