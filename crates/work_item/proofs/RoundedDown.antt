-- Bits shifted to the right are a quotient that is rounded down.
use Rattle.std.proofs.Common.{◌≡◌, ◌^◌, ℕ, ℤ, pos, negsuc, refl}
use Rattle.std.specs.Int.{int_shr, int_div_euclid}

pub shifted_down : (z : ℤ) (k : ℕ) → int_shr z k ≡ int_div_euclid z (pos (2 ^ k))
shifted_down (pos n) k = refl
shifted_down (negsuc n) k = refl
