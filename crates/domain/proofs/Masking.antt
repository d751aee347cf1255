-- What the code makes of known bits is what is defined.
use Rattle.std.proofs.Common.{◌≡◌, ℕ, arith, ◌+◌, ◌-◌, ◌*◌, ◌%◌, ◌^◌, ◌<◌, ◌≤◌, ap, sym, ◌∙◌}
use Rattle.std.specs.Prelude.{ℤ, pos, ◌-ℤ◌}
use Rattle.std.specs.Int.{trailing_ones, w32, w64, cast_signed}
use Rattle.std.specs.Int.RustNames.{bit_and, bit_or}
use Rattle.std.specs.Int.Bits.{and_self}
use Rattle.std.proofs.lemmas.Int.{ints, to_z_pos}
use Rattle.std.proofs.lemmas.Nat.{and_assoc, and_mask, and_le_l, one_shl, or_mod, or_shifted, pow_pos, pow_below}
use Rattle.std.proofs.Math.Nat.{mod-eq_of_lt}
use Rattle.domain.specs.declared.Residue.{Residue}
use Rattle.domain.specs.KnownBits.{Bits, modulo, lowest, low, residue}
use Rattle.domain.specs.KnownBitsMembers.{same, coarse}

pub low_is : (t known : ℕ) → known < 2 ^ 32 → t ≡ trailing_ones w32 known → t ≡ low known
unfolding low
low_is t known h e = e ∙ ap (trailing_ones w32) (sym (mod-eq_of_lt h))

pub masked_twice : (v m : ℕ) → bit_and (bit_and v m) m ≡ bit_and v m
masked_twice v m = and_assoc m v m ∙ ap (bit_and v) (and_self m)

-- a word's lowest bits are those of whatever number it is the half of
pub lowest_is : (r : Bits) (t s word : ℕ) (n : ℤ) → r ≡ record { known = 2 ^ t - 1; value = word % 2 ^ t } → t ≡ s → t ≤ 32 → word ≡ modulo n (2 ^ 32) → r ≡ lowest s n
lowest_is r t s word n e f h g =
    e ∙ ap (λ v. record { known = 2 ^ t - 1; value = v }) (ap (λ u. u % 2 ^ t) g ∙ coarse n t h) ∙ ap (λ u. lowest u n) f

pub difference_is : (a b : ℕ) → b < 2 ^ 32 → (a + (2 ^ 32 - b)) % 2 ^ 32 ≡ modulo (pos a -ℤ pos b) (2 ^ 32)
difference_is a b h = same (pos (a + (2 ^ 32 - b))) (pos a -ℤ pos b) (2 ^ 32) (pow_pos 32) (pos 1, omega (arith, ints))

pub shifted_known : (m k : ℕ) → k < 32 → bit_or ((m * 2 ^ k) % 2 ^ 32) (2 ^ k - 1) ≡ (m * 2 ^ k + (2 ^ k - 1)) % 2 ^ 32
shifted_known m k h =
    let p = pow_below k 32 h in
    let z = pow_pos k in
    let e : (2 ^ k - 1) % 2 ^ 32 ≡ 2 ^ k - 1 = mod-eq_of_lt (omega arith) in
    ap (bit_or ((m * 2 ^ k) % 2 ^ 32)) (sym e) ∙ sym (or_mod (m * 2 ^ k) (2 ^ k - 1) 32) ∙ ap (λ n. n % 2 ^ 32) (or_shifted m k (2 ^ k - 1) (omega arith))

pub residue_is : (a : Bits) (t m : ℕ) → a.value < 2 ^ 32 → t ≤ 32 → t ≡ low a.known → m ≡ 2 ^ t - 1
    → record { modulus = 1 * 2 ^ t % 2 ^ 64; remainder = cast_signed w64 (bit_and a.value m) } ≡ residue a
residue_is a t m h l e f =
    let b = and_le_l a.value m in
    let d : cast_signed w64 (bit_and a.value m) ≡ pos (a.value % 2 ^ t) = to_z_pos w64 (bit_and a.value m) (omega arith) ∙ ap pos (ap (bit_and a.value) f ∙ and_mask a.value t) in
    let g : 1 * 2 ^ t % 2 ^ 64 ≡ 2 ^ t = one_shl t 64 (omega arith) in
    let r : Residue = record { modulus = 2 ^ t; remainder = pos (a.value % 2 ^ t) } in
    let k : record { modulus = 1 * 2 ^ t % 2 ^ 64; remainder = cast_signed w64 (bit_and a.value m) } ≡ r = ap (λ n. record { modulus = n; remainder = cast_signed w64 (bit_and a.value m) }) g ∙ ap (λ z. record { modulus = 2 ^ t; remainder = z }) d in
    k ∙ ap (λ u. record { modulus = 2 ^ u; remainder = pos (a.value % 2 ^ u) }) e
