-- Powers of 2, one by one, and how large they are.
use Rattle.std.proofs.Common.{◌≡◌, ◌≤◌, ◌<◌, ◌^◌, ◌+◌, ℕ, Bool, true, false, ◌&&◌, ◌||◌, refl, sym, ◌∙◌, add-one, arith}
use Rattle.std.specs.Prelude.{ℤ, pos, ◌+ℤ◌, ◌≤ℤ◌, ◌<ℤ◌}
use Rattle.std.specs.Ordering.{int_eq}
use Rattle.std.proofs.Math.Bool.{or_comm}
use Rattle.std.proofs.Math.Pow.{pow_mono}
use Rattle.std.proofs.lemmas.Bool.{and_parts}
use Rattle.std.proofs.lemmas.Nat.{pow_pos}
use Rattle.std.proofs.lemmas.Int.{ints}
use Rattle.semantics.specs.Word.{Kind, Int, Uint, Size}
use Rattle.facts.specs.Symbols.{Fact}
use Rattle.walk_trees.specs.Walks.{is_number}
use Rattle.walk_trees.specs.Operators.{is_mask}
use Rattle.walk_trees.specs.Quotients.{is_power}
use Rattle.walk_trees.proofs.Divisions.{power_of}

-- one more of them
pub one_more : (n : ℕ) (c : ℤ) (found is : Bool) → found ≡ is_power n c → is ≡ int_eq c (pos (2 ^ (n + 1))) → (found || is) ≡ is_power (n + 1) c
unfolding is_power
one_more n c found is d e = or_comm found is ∙ (λ i. e i || d i) ∙ rw add-one refl

pub record IsInRange (c : ℤ) : Type 0 where
  pub above : pos 0 <ℤ c
  pub most : c ≤ℤ pos 4294967296

-- powers of fewer bits are among them
pub in_range : (n : ℕ) (c : ℤ) → n ≤ 32 → is_power n c ≡ true → IsInRange c
in_range n c b h =
    let p = power_of n c h in
    let m : p.0 ≤ 32 = omega (arith, p.1, b) in
    let l : 2 ^ p.0 ≤ 2 ^ 32 = pow_mono m in
    let k : 0 < 2 ^ p.0 = pow_pos p.0 in
    record { above = omega (arith, ints, p.2, k); most = omega (arith, ints, p.2, l) }

pub past_all : (b : Bool) (n : ℕ) (c : ℤ) → n ≤ 32 → is_power n c ≡ b → pos 4294967296 <ℤ c → b ≡ false
past_all false n c d h l = refl
past_all true n c d h l = let r = in_range n c d h in absurd (omega (arith, ints, r.most, l))

-- what is in front of the lowest bits is such a power
more_bits : (c : ℤ) → is_power 31 c ≡ true → is_power 32 c ≡ true
more_bits c h = sym (one_more 31 c true (int_eq c (pos (2 ^ 32))) (sym h) refl)

pub mask_power : (w : Bool) (k : Kind) (y : Fact) → is_mask w k y ≡ true → is_power 32 (y.constant +ℤ pos 1) ≡ true
mask_power w Int y h = more_bits (y.constant +ℤ pos 1) (and_parts (is_number y) (is_power 31 (y.constant +ℤ pos 1)) (and_parts w (is_number y && is_power 31 (y.constant +ℤ pos 1)) h).1).1
mask_power w Size y h = (and_parts (is_number y) (is_power 32 (y.constant +ℤ pos 1)) h).1
mask_power w Uint y h = (and_parts (is_number y) (is_power 32 (y.constant +ℤ pos 1)) h).1
