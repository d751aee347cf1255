-- Sums and products of numbers of 64 bits, in 128 bits.
use Rattle.std.proofs.Common.{◌+◌, ◌≤◌, ◌^◌, arith, mul-le-mul}
use Rattle.std.specs.Prelude.{ℤ, pos, negsuc, ◌+ℤ◌, ◌*ℤ◌, unsigned_abs}
use Rattle.std.specs.Int.{w64, w128}
use Rattle.std.specs.Int.RustNames.{FitsSigned}
use Rattle.std.proofs.lemmas.Int.{ints, fits_signed_from_abs, unsigned_abs-mul}

size : (z : ℤ) → FitsSigned w64 z → unsigned_abs z ≤ 2 ^ 63
size (pos n) f = omega (arith, f.sfits)
size (negsuc n) f = omega (arith, f.sfits)

size-sum : (a b : ℤ) → unsigned_abs (a +ℤ b) ≤ unsigned_abs a + unsigned_abs b
size-sum a b = omega (arith, ints)

size-product : (a b : ℤ) → FitsSigned w64 a → FitsSigned w64 b → unsigned_abs (a *ℤ b) ≤ 2 ^ 126
size-product a b f g = omega (arith, unsigned_abs-mul a b, mul-le-mul (size a f) (size b g))

pub wider : (z : ℤ) → FitsSigned w64 z → FitsSigned w128 z
wider z f = fits_signed_from_abs w128 z (omega (arith, size z f))

pub product_fits : (a b : ℤ) → FitsSigned w64 a → FitsSigned w64 b → FitsSigned w128 (a *ℤ b)
product_fits a b f g = fits_signed_from_abs w128 (a *ℤ b) (omega (arith, size-product a b f g))

pub sum_fits : (x a b : ℤ) → FitsSigned w64 x → FitsSigned w64 a → FitsSigned w64 b → FitsSigned w128 (x +ℤ a *ℤ b)
sum_fits x a b e f g = fits_signed_from_abs w128 (x +ℤ a *ℤ b) (omega (arith, size-sum x (a *ℤ b), size x e, size-product a b f g))
