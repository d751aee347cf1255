-- Powers of 2 that are words.
use Rattle.std.proofs.Common.{◌≡◌, ◌≤◌, ◌^◌, ◌*◌, ◌%◌, ℕ, ℤ, pos, negsuc, refl, arith, ap, ◌∙◌, mod-eq_of_lt}
use Rattle.std.proofs.Math.Pow.{pow_mono}
use Rattle.std.specs.Int.{int_shr, int_div_euclid}

pub small_power : (k : ℕ) → k ≤ 31 → 1 * 2 ^ k % 4294967296 ≡ 2 ^ k
small_power k h = let l : 2 ^ k ≤ 2 ^ 31 = pow_mono h in ap (λ n. n % 4294967296) (omega arith) ∙ mod-eq_of_lt (omega (arith, l))

-- bits shifted to the right are a quotient that is rounded down
pub shifted_down : (z : ℤ) (k : ℕ) → int_shr z k ≡ int_div_euclid z (pos (2 ^ k))
shifted_down (pos n) k = refl
shifted_down (negsuc n) k = refl
