-- Congruences and their operations, as functions on modulus and remainder. Modulus 0 stands for one number.
use Rattle.std.specs.Prelude.{ℕ, zero, suc, ℤ, pos, negsuc, ◌+ℤ◌, ◌-ℤ◌, ◌*ℤ◌, ◌≤ℤ◌, ◌<ℤ◌, ◌^◌, ◌-◌, ◌*◌, ◌/◌, ◌%◌, ◌<◌, ◌==◌, ◌&&◌, nat_lt, Bool, cond, Some, None}
use Rattle.std.specs.Int.{int_div_euclid, int_rem_euclid, int_bit_and, w64}
use Rattle.std.specs.Int.RustNames.{int_le, int_div, int_rem, unsigned_abs, bit_and}
use Rattle.domain.specs.declared.Bounds.{Bounds}
use Rattle.domain.specs.declared.Residue.{Residue}

abbrev pub all : Residue
all = record { modulus = 1; remainder = pos 0 }

-- one number, or a remainder below its modulus
abbrev pub IsReduced : Residue → Type 0
IsReduced r = reduced r.modulus r.remainder
  where
    reduced : ℕ → ℤ → Type 0
    reduced zero z = Unit {0}
    reduced (suc m) z = (pos 0 ≤ℤ z) × (z <ℤ pos (suc m)) × (m < 2 ^ 63)

abbrev pub fits : ℤ → Bool
fits n = int_le (negsuc (2 ^ 63 - 1)) n && int_le n (pos (2 ^ 63 - 1))

-- all numbers where the modulus or the number leaves i64
abbrev pub reduce : ℕ → ℤ → Residue
reduce m r = cond (m == 0) (cond (fits r) (record { modulus = 0; remainder = r }) all)
    (cond (nat_lt m (2 ^ 63)) (record { modulus = m; remainder = int_rem_euclid r (pos m) }) all)

-- Euclid's steps, of which no more are needed than the second number and one
abbrev pub steps : ℕ → ℕ → ℕ → ℕ
steps zero a b = a
steps (suc n) a b = cond (b == 0) a (steps n b (a % b))

unfoldable pub gcd : ℕ → ℕ → ℕ
gcd a b = steps (suc b) a b

abbrev pub join : Residue → Residue → Residue
join a b = reduce (gcd (gcd a.modulus b.modulus) (unsigned_abs (a.remainder -ℤ b.remainder))) b.remainder

abbrev pub add : Residue → Residue → Residue
add a b = reduce (gcd a.modulus b.modulus) (a.remainder +ℤ b.remainder)

abbrev pub subtract : Residue → Residue → Residue
subtract a b = reduce (gcd a.modulus b.modulus) (a.remainder -ℤ b.remainder)

abbrev pub multiply : Residue → Residue → Residue
multiply a b = reduce
    (gcd (gcd (a.modulus * b.modulus) (a.modulus * unsigned_abs b.remainder)) (b.modulus * unsigned_abs a.remainder))
    (a.remainder *ℤ b.remainder)

-- one number other than 0
abbrev pub is_divisor : Residue → Bool
is_divisor b = b.modulus == 0 && nat_lt 0 (unsigned_abs b.remainder)

-- the divisor divides both
abbrev pub divides : ℕ → Residue → Bool
divides d a = a.modulus % d == 0 && unsigned_abs a.remainder % d == 0

abbrev pub quotient : Residue → ℤ → Residue
quotient a d = cond (a.modulus == 0) (reduce 0 (int_div a.remainder d))
    (cond (divides (unsigned_abs d) a) (reduce (a.modulus / unsigned_abs d) (int_div a.remainder d)) all)

abbrev pub divide : Residue → Residue → Residue
divide a b = cond (is_divisor b) (quotient a b.remainder) all

abbrev pub common : Residue → Residue → ℕ
common a b = gcd (gcd a.modulus b.modulus) (unsigned_abs b.remainder)

-- 0 alone
abbrev pub is_zero : Residue → Bool
is_zero b = b.modulus == 0 && unsigned_abs b.remainder == 0

abbrev pub remainder : Residue → Residue → Residue
remainder a b = cond (is_zero b) all
    (cond (a.modulus == 0 && is_divisor b) (reduce 0 (int_rem a.remainder b.remainder)) (reduce (common a b) a.remainder))

abbrev pub masked : ℤ → ℤ → ℤ
masked (pos m) (pos n) = pos (bit_and m n)
masked m n = int_bit_and w64 m n

abbrev pub mask : Residue → Residue → Residue
mask a b = cond (a.modulus == 0 && b.modulus == 0) (reduce 0 (masked a.remainder b.remainder)) all

abbrev pub shift_left : Residue → ℕ → Residue
shift_left a k = multiply a (record { modulus = 0; remainder = pos (2 ^ k) })

abbrev pub shift_right : Residue → ℕ → Residue
shift_right a k = cond (a.modulus % 2 ^ k == 0) (reduce (a.modulus / 2 ^ k) (int_div_euclid a.remainder (pos (2 ^ k)))) all

abbrev pub bounds : Residue → Bounds
bounds a = cond (a.modulus == 0) (record { low = Some a.remainder; high = Some a.remainder }) (record { low = None; high = None })
