-- What ends and residues say of a whole number, as tests.
use Rattle.std.specs.Prelude.{ℤ, ◌-ℤ◌, ◌%◌, ◌==◌, ◌&&◌, Bool, true, Option, Some, None}
use Rattle.std.specs.Int.RustNames.{int_le, unsigned_abs}
use Rattle.domain.specs.declared.Bounds.{Bounds}
use Rattle.domain.specs.declared.Residue.{Residue}

-- z is at least the end, which may be open
abbrev pub is_above : Option ℤ → ℤ → Bool
is_above None z = true
is_above (Some low) z = int_le low z

-- z is at most the end
abbrev pub is_below : Option ℤ → ℤ → Bool
is_below None z = true
is_below (Some high) z = int_le z high

abbrev pub is_within : Bounds → ℤ → Bool
is_within b z = is_above b.low z && is_below b.high z

-- z differs from the remainder by a multiple of the modulus; of modulus 0, not at all
abbrev pub leaves : Residue → ℤ → Bool
leaves r z = unsigned_abs (z -ℤ r.remainder) % r.modulus == 0
