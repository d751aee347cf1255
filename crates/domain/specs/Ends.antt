-- Intervals and their operations, as functions on the ends. An end is open where the number leaves i64.
-- To compute, an open end stands for a number so far out that whatever it gives leaves i64.
use Rattle.std.specs.Prelude.{ℕ, ℤ, pos, negsuc, ◌+ℤ◌, ◌-ℤ◌, ◌*ℤ◌, neg_ℤ, ◌≤ℤ◌, ◌^◌, ◌-◌, ◌+◌, ◌*◌, ◌&&◌, Bool, true, cond, Option, Some, None}
use Rattle.std.specs.Option.{unwrap_or}
use Rattle.std.specs.Int.{int_min, int_max, int_div_euclid}
use Rattle.std.specs.Int.RustNames.{int_le, int_div}
use Rattle.domain.specs.declared.Bounds.{Bounds}
use Rattle.domain.specs.declared.Residue.{Residue}
use Rattle.domain.specs.Members.{is_within}

abbrev pub least : ℤ
least = negsuc (2 ^ 63 - 1)

abbrev pub greatest : ℤ
greatest = pos (2 ^ 63 - 1)

abbrev pub fits : ℤ → Bool
fits n = int_le least n && int_le n greatest

abbrev pub end : ℤ → Option ℤ
end n = cond (fits n) (Some n) None

abbrev pub is_end : Option ℤ → Bool
is_end None = true
is_end (Some n) = fits n

-- z lies between the ends, which are of i64
abbrev pub is_member : Bounds → ℤ → Bool
is_member b z = is_end b.low && is_end b.high && is_within b z

-- the lower end is at most the upper one, so there is a member
abbrev pub IsOrdered : Bounds → Type 0
IsOrdered b = ordered b.low b.high
  where
    ordered : Option ℤ → Option ℤ → Type 0
    ordered (Some low) (Some high) = low ≤ℤ high
    ordered low high = Unit {0}

abbrev pub span : ℤ → ℤ → Bounds
span low high = record { low = end low; high = end high }

abbrev pub low_of : ℤ → Bounds → ℤ
low_of far b = unwrap_or b.low (neg_ℤ far)

abbrev pub high_of : ℤ → Bounds → ℤ
high_of far b = unwrap_or b.high far

-- further out than any two ends are apart
abbrev pub far : ℤ
far = pos (2 ^ 65)

abbrev pub all : Bounds
all = record { low = None; high = None }

abbrev pub join : Bounds → Bounds → Bounds
join a b = span (int_min (low_of far a) (low_of far b)) (int_max (high_of far a) (high_of far b))

abbrev pub add : Bounds → Bounds → Bounds
add a b = span (low_of far a +ℤ low_of far b) (high_of far a +ℤ high_of far b)

abbrev pub subtract : Bounds → Bounds → Bounds
subtract a b = span (low_of far a -ℤ high_of far b) (high_of far a -ℤ low_of far b)

abbrev pub at_least : Bounds → ℤ → Bounds
at_least a n = cond (int_le n (high_of far a)) (span (int_max (low_of far a) n) (high_of far a)) a

abbrev pub at_most : Bounds → ℤ → Bounds
at_most a n = cond (int_le (low_of far a) n) (span (low_of far a) (int_min (high_of far a) n)) a

-- the least interval round four numbers
abbrev pub hull : ℤ → ℤ → ℤ → ℤ → Bounds
hull a b c d = span (int_min (int_min a b) (int_min c d)) (int_max (int_max a b) (int_max c d))

-- so far out that its product with each number but 0 leaves i64
abbrev pub far_factor : ℤ
far_factor = pos (2 ^ 63 + 1)

abbrev pub products : ℤ → ℤ → ℤ → ℤ → Bounds
products p q r s = hull (p *ℤ r) (p *ℤ s) (q *ℤ r) (q *ℤ s)

abbrev pub multiply : Bounds → Bounds → Bounds
multiply a b = products (low_of far_factor a) (high_of far_factor a) (low_of far_factor b) (high_of far_factor b)

abbrev pub quotients : ℤ → ℤ → ℤ → ℤ → Bounds
quotients p q r s = hull (int_div p r) (int_div p s) (int_div q r) (int_div q s)

-- so far out that its quotient by an end leaves i64, and that a quotient by the second is 0
abbrev pub far_dividend : ℤ
far_dividend = pos (3 * 2 ^ 125)

abbrev pub far_divisor : ℤ
far_divisor = pos (2 ^ 127 - 1)

-- 0 is the one number from low to high
abbrev pub is_zero : ℤ → ℤ → Bool
is_zero low high = int_le (pos 0) low && int_le high (pos 0)

-- the divisors other than 0 at which a quotient is least or greatest
abbrev pub first_divisor : ℤ → ℤ → ℤ
first_divisor low high = cond (int_le (pos 0) low) (int_max low (pos 1)) (cond (int_le (pos 1) high) (negsuc 0) low)

abbrev pub last_divisor : ℤ → ℤ → ℤ
last_divisor low high = cond (int_le high (pos 0)) (int_min high (negsuc 0)) (cond (int_le low (negsuc 0)) (pos 1) high)

abbrev pub divide : Bounds → Bounds → Bounds
divide a b = cond (is_zero (low_of far_divisor b) (high_of far_divisor b)) all
    (quotients (low_of far_dividend a) (high_of far_dividend a) (first_divisor (low_of far_divisor b) (high_of far_divisor b))
    (last_divisor (low_of far_divisor b) (high_of far_divisor b)))

-- the dividend's sign, and less in size than the greatest size of a divisor, and no more than the dividend's
abbrev pub remainders : ℤ → ℤ → ℤ → Bounds
remainders low high most = span (cond (int_le (pos 0) low) (pos 0) (int_max low (neg_ℤ most)))
    (cond (int_le high (pos 0)) (pos 0) (int_min high most))

abbrev pub remainder : Bounds → Bounds → Bounds
remainder a b = cond (is_zero (low_of far b) (high_of far b)) all
    (remainders (low_of far a) (high_of far a) (int_max (neg_ℤ (low_of far b)) (high_of far b) -ℤ pos 1))

abbrev pub mask : Bounds → Bounds → Bounds
mask a b = cond (int_le (pos 0) (low_of far a) && int_le (pos 0) (low_of far b))
    (span (pos 0) (int_min (high_of far a) (high_of far b))) all

abbrev pub shift_left : Bounds → ℕ → Bounds
shift_left a k = multiply a (span (pos (2 ^ k)) (pos (2 ^ k)))

abbrev pub shifted : Option ℤ → ℕ → Option ℤ
shifted None k = None
shifted (Some n) k = Some (int_div_euclid n (pos (2 ^ k)))

abbrev pub shift_right : Bounds → ℕ → Bounds
shift_right a k = record { low = shifted a.low k; high = shifted a.high k }

-- the one member, where there is one
abbrev pub residue : Bounds → Residue
residue b = single b.low b.high
  where
    none : Residue
    none = record { modulus = 1; remainder = pos 0 }

    single : Option ℤ → Option ℤ → Residue
    single (Some low) (Some high) = cond (int_le high low) (record { modulus = 0; remainder = low }) none
    single low high = none
