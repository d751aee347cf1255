-- Places of bits, one more at a time, and those that were found.
use Rattle.std.proofs.Common.{◌≡◌, ℕ, zero, suc, ◌+◌, ◌^◌, ◌<◌, ◌≤◌, Bool, true, false, cond, ◌&&◌, Option, Some, None, refl, ap, ◌∙◌, add-one, arith, inl, inr}
use Rattle.std.specs.Prelude.{ℤ, pos, ◌-ℤ◌, ◌+ℤ◌, ◌<ℤ◌, ◌≤ℤ◌, int_le, int_lt}
use Rattle.std.specs.Ordering.{int_eq}
use Rattle.std.proofs.lemmas.Bool.{and_parts, or_cases}
use Rattle.semantics.specs.Word.{Kind}
use Rattle.facts.specs.Symbols.{Fact}
use Rattle.facts.proofs.Integers.{lt_test}
use Rattle.walk_trees.specs.Walks.{is_number}
use Rattle.walk_trees.specs.Quotients.{is_power}
use Rattle.walk_trees.specs.Bits.{is_upper, is_run, run_of, run_in, bit_of, bit_in, widest}
use Rattle.walk_trees.proofs.BitTests.{run_of-is}
use Rattle.path_walk.proofs.PowerSizes.{in_range}

pub no_run : (k : Kind) (c : ℤ) → None ≡ run_of 0 k c
unfolding run_of
no_run k c = refl

pub longer_run : (n : ℕ) (k : Kind) (c : ℤ) (found r : Option ℕ) (is : Bool) → found ≡ run_of n k c → is ≡ is_run k (n + 1) c → r ≡ cond is (Some (n + 1)) found → r ≡ run_of (n + 1) k c
unfolding run_of
longer_run n k c found r is d e f = f ∙ (λ i. cond (e i) (Some (n + 1)) (d i)) ∙ rw add-one refl

pub first_bit : (c : ℤ) (r : Option ℕ) (is : Bool) → is ≡ int_eq c (pos (2 ^ 0)) → r ≡ cond is (Some 0) None → r ≡ bit_of 0 c
unfolding bit_of
first_bit c r is e f = f ∙ ap (λ b. cond b (Some 0) None) e

pub higher_bit : (n : ℕ) (c : ℤ) (found r : Option ℕ) (is : Bool) → found ≡ bit_of n c → is ≡ int_eq c (pos (2 ^ (n + 1))) → r ≡ cond is (Some (n + 1)) found → r ≡ bit_of (n + 1) c
unfolding bit_of
higher_bit n c found r is d e f = f ∙ (λ i. cond (e i) (Some (n + 1)) (d i)) ∙ rw add-one refl

pub no_width : (z : ℤ) → pos 0 ≡ widest 0 z
unfolding widest
no_width z = refl

pub wider : (n : ℕ) (z found r : ℤ) → found ≡ widest n z → r ≡ cond (int_le z (pos (2 ^ n) -ℤ pos 1)) found (pos (2 ^ (n + 1)) -ℤ pos 1) → r ≡ widest (n + 1) z
unfolding widest
wider n z found r d e = e ∙ ap (λ y. cond (int_le z (pos (2 ^ n) -ℤ pos 1)) y (pos (2 ^ (n + 1)) -ℤ pos 1)) d ∙ rw add-one refl

-- a run that was found
some-is : (b d : ℕ) → Some b ≡ Some d → b ≡ d
some-is b d e = cc

pub record IsFound (k : Kind) (f : Fact) (b : ℕ) : Type 0 where
  pub above : 0 < b
  pub few : b ≤ 31
  pub run : is_run k b f.constant ≡ true

run_above-zero : (n : ℕ) (k : Kind) (c : ℤ) (b : ℕ) → run_of n k c ≡ Some b → 0 < b
unfolding run_of
run_above-zero zero k c b e = cc
run_above-zero (suc n) k c b e = by (run_above-zero n k c b) (is_run k (suc n) c) e
  where
    by : (run_of n k c ≡ Some b → 0 < b) → (t : Bool) → cond t (Some (suc n)) (run_of n k c) ≡ Some b → 0 < b
    by before true h = let s = some-is (suc n) b h in omega (arith, s)
    by before false h = before h

pub found_run : (k : Kind) (f : Fact) (b : ℕ) → run_in k f ≡ Some b → IsFound k f b
found_run k f b e = by (is_number f) e
  where
    by : (t : Bool) → cond t (run_of 31 k f.constant) None ≡ Some b → IsFound k f b
    by true h = let p = run_of-is 31 k f.constant b h in record { above = run_above-zero 31 k f.constant b h; few = p.1; run = p.0 }
    by false h = cc

-- a bit that was found
bit_few : (n : ℕ) (c : ℤ) (b : ℕ) → bit_of n c ≡ Some b → b ≤ n
unfolding bit_of
bit_few zero c b e = by (int_eq c (pos 1)) e
  where
    by : (t : Bool) → cond t (Some 0) None ≡ Some b → b ≤ 0
    by true h = let s = some-is 0 b h in omega (arith, s)
    by false h = cc
bit_few (suc n) c b e = by (bit_few n c b) (int_eq c (pos (2 ^ suc n))) e
  where
    by : (bit_of n c ≡ Some b → b ≤ n) → (t : Bool) → cond t (Some (suc n)) (bit_of n c) ≡ Some b → b ≤ suc n
    by before true h = let s = some-is (suc n) b h in omega (arith, s)
    by before false h = let l = before h in omega (arith, l)

pub found_bit : (f : Fact) (b : ℕ) → bit_in f ≡ Some b → b ≤ 30
found_bit f b e = by (is_number f) e
  where
    by : (t : Bool) → cond t (bit_of 30 f.constant) None ≡ Some b → b ≤ 30
    by true h = bit_few 30 f.constant b h
    by false h = cc

-- a run that ends below another place, with its lowest bit once more
pub run_sum : (k : Kind) (b : ℕ) (c : ℤ) → is_run k b c ≡ true → is_upper k b c ≡ false → (pos 0 <ℤ c) × ((c +ℤ pos (2 ^ b)) ≤ℤ pos 4294967296)
run_sum k b c h u = elim (or_cases (is_upper k b c) (int_lt (pos 0) c && is_power 31 (c +ℤ pos (2 ^ b))) h) [
  | inl e ↦ cc
  | inr e ↦ (let p = and_parts (int_lt (pos 0) c) (is_power 31 (c +ℤ pos (2 ^ b))) e in (lt_test (pos 0) c p.0, (in_range 31 (c +ℤ pos (2 ^ b)) (omega arith) p.1).most))
]
