-- All bits of a word but one.
use Rattle.std.proofs.Common.{◌≡◌, ◌≢◌, ℕ, ◌-◌, ◌*◌, ◌%◌, ◌^◌, ◌<◌, w64, ap, ◌∙◌, arith}
use Rattle.std.specs.Int.{bit_at, bit_not}
use Rattle.std.proofs.lemmas.Nat.{one_shl}
use Rattle.std.proofs.lemmas.Nat.Bits.{bit_at_not, bit_at-pow_other, bit_at-pow_same}

module _ (k : ℕ) where
  pub mask_others : (b : ℕ) → b < 64 → b ≢ k % 64 → bit_at (bit_not w64 (1 * 2 ^ (k % 64) % 2 ^ 64)) b ≡ 1
  mask_others b low other =
      let small : k % 64 < 64 = omega arith in
      let p : ℕ = 1 * 2 ^ (k % 64) % 2 ^ 64 in
      let fits : p < 2 ^ 64 = omega arith in
      let zero_bit : bit_at p b ≡ 0 = ap (λ n. bit_at n b) (one_shl (k % 64) 64 small) ∙ bit_at-pow_other (k % 64) b other in
      bit_at_not w64 p b fits low ∙ ap (λ n. 1 - n) zero_bit

  pub mask_lacks : bit_at (bit_not w64 (1 * 2 ^ (k % 64) % 2 ^ 64)) (k % 64) ≡ 0
  mask_lacks =
      let small : k % 64 < 64 = omega arith in
      let p : ℕ = 1 * 2 ^ (k % 64) % 2 ^ 64 in
      let fits : p < 2 ^ 64 = omega arith in
      let one_bit : bit_at p (k % 64) ≡ 1 = ap (λ n. bit_at n (k % 64)) (one_shl (k % 64) 64 small) ∙ bit_at-pow_same (k % 64) in
      bit_at_not w64 p (k % 64) fits small ∙ ap (λ n. 1 - n) one_bit

pub ruleset mask_rows = (mask_others, mask_lacks)
