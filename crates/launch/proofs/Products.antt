-- Products of numbers by sign and size.
use Rattle.std.proofs.Common.{ℕ, ◌*◌, ◌<◌, ◌^◌}
use Rattle.std.proofs.lemmas.Nat.{mul-lt}

pub product_fits : (a b : ℕ) → a < 2 ^ 32 → b < 2 ^ 32 → a * b < 2 ^ 64
product_fits a b h k = mul-lt a b (2 ^ 32) (2 ^ 32) h k

pub large_fits : (a b : ℕ) → a < 2 ^ 32 → b < 2 ^ 64 → a * b < 2 ^ 96
large_fits a b h k = mul-lt a b (2 ^ 32) (2 ^ 64) h k

pub ruleset products = (product_fits, large_fits)
