-- Tests of whole numbers.
use Rattle.std.proofs.Common.{◌≡◌, true, sym, arith}
use Rattle.std.specs.Prelude.{ℤ, ◌≤ℤ◌, ◌<ℤ◌, int_le, int_lt}
use Rattle.std.proofs.lemmas.Int.{ints}

pub le_true : (a b : ℤ) → a ≤ℤ b → int_le a b ≡ true
le_true a b h = sym (omega (arith, ints))

pub lt_true : (a b : ℤ) → a <ℤ b → int_lt a b ≡ true
lt_true a b h = sym (omega (arith, ints))

pub le_test : (a b : ℤ) → int_le a b ≡ true → a ≤ℤ b
le_test a b h = omega (arith, ints)

pub lt_test : (a b : ℤ) → int_lt a b ≡ true → a <ℤ b
lt_test a b h = omega (arith, ints)
