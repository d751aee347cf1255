-- The ranges of kinds.
use Rattle.std.proofs.Common.{◌≡◌, ℕ, ◌^◌, ◌<◌, Bool, true, false, cond, refl, ap, sym, arith, ltb-true, lt-ltb, Ok, Err}
use Rattle.std.specs.Prelude.{ℤ, pos, negsuc, ◌≤ℤ◌}
use Rattle.std.proofs.lemmas.Int.{ints}
use Rattle.std.proofs.lemmas.Bool.{and_from}
use Rattle.semantics.specs.Word.{Kind, Int, Uint, Size, Exact, word, Overflow, in_kind, bits_of, read_bits, as_kind, has, settle, bitwise}
use Rattle.semantics.specs.Evaluation.{operand}
use Rattle.semantics.proofs.Words.{as_kind-same}
use Rattle.walk_trees.specs.Walks.{least, greatest}

-- a kind has the numbers between its ends
pub in_kind-between : (k : Kind) (z : ℤ) → least k ≤ℤ z → z ≤ℤ greatest k → in_kind k z ≡ true
in_kind-between Int (pos n) h j = lt-ltb n (2 ^ 31) (omega (arith, ints))
in_kind-between Int (negsuc n) h j = lt-ltb n (2 ^ 31) (omega (arith, ints))
in_kind-between Uint (pos n) h j = lt-ltb n (2 ^ 32) (omega (arith, ints))
in_kind-between Uint (negsuc n) h j = absurd (omega (arith, ints))
in_kind-between Size (pos n) h j = lt-ltb n (2 ^ 32) (omega (arith, ints))
in_kind-between Size (negsuc n) h j = absurd (omega (arith, ints))

pub in_kind-ends : (k : Kind) (z : ℤ) → in_kind k z ≡ true → (least k ≤ℤ z) × (z ≤ℤ greatest k)
in_kind-ends Int (pos n) h = let l : n < 2 ^ 31 = ltb-true n (2 ^ 31) h in (omega (arith, ints), omega (arith, ints))
in_kind-ends Int (negsuc n) h = let l : n < 2 ^ 31 = ltb-true n (2 ^ 31) h in (omega (arith, ints), omega (arith, ints))
in_kind-ends Uint (pos n) h = let l : n < 2 ^ 32 = ltb-true n (2 ^ 32) h in (omega (arith, ints), omega (arith, ints))
in_kind-ends Uint (negsuc n) h = cc
in_kind-ends Size (pos n) h = let l : n < 2 ^ 32 = ltb-true n (2 ^ 32) h in (omega (arith, ints), omega (arith, ints))
in_kind-ends Size (negsuc n) h = cc

-- a size and a `uint` have the same numbers
pub uint-is : (z : ℤ) → in_kind Size z ≡ true → in_kind Uint z ≡ true
uint-is (pos n) h = h
uint-is (negsuc n) h = cc

pub size-is : (z : ℤ) → in_kind Uint z ≡ true → in_kind Size z ≡ true
size-is (pos n) h = h
size-is (negsuc n) h = cc

-- the numbers that a kind has where sizes are exact
pub has-is : (k : Kind) (z : ℤ) → has Exact k z ≡ in_kind k z
has-is Int z = refl
has-is Uint z = refl
has-is Size z = refl

settle-whole : (k : Kind) (z : ℤ) (b : Bool) → b ≡ true → as_kind k z ≡ z → cond b (Ok (word k z)) (Err Overflow) ≡ Ok (word k (as_kind k z))
settle-whole k z true h e = ap (λ y. Ok (word k y)) (sym e)
settle-whole k z false h e = cc

-- an exact result in its kind's range is the word
pub settle-same : (k : Kind) (z : ℤ) → in_kind k z ≡ true → settle Exact k z ≡ Ok (word k (as_kind k z))
settle-same Int z h = settle-whole Int z (in_kind Int z) h (as_kind-same Int z h)
settle-same Uint z h = refl
settle-same Size z h = settle-whole Size z (in_kind Size z) h (as_kind-same Size z h)

-- what an operator takes of a number that settles in its kind
pub operand-is : (k : Kind) (z : ℤ) → settle Exact k z ≡ Ok (word k (as_kind k z)) → operand k z ≡ as_kind k z
operand-is Int z h = refl
operand-is Uint z h = refl
operand-is Size z h = by (in_kind Size z) refl h
  where
    by : (b : Bool) → in_kind Size z ≡ b → cond b (Ok (word Size z)) (Err Overflow) ≡ Ok (word Size (as_kind Size z)) → z ≡ as_kind Size z
    by true e g = sym (as_kind-same Size z e)
    by false e g = cc

-- the bits of two numbers of a kind
pub bitwise-is : (f : ℕ → ℕ → ℕ) (k : Kind) (a b : ℤ) → in_kind k a ≡ true → in_kind k b ≡ true → bitwise f Exact k a b ≡ Ok (word k (read_bits k (f (bits_of a) (bits_of b))))
bitwise-is f Int a b h j = refl
bitwise-is f Uint a b h j = refl
bitwise-is f Size a b h j = ap (λ t. cond t (Ok (word Size (pos (f (bits_of a) (bits_of b))))) (Err Overflow)) (and_from (in_kind Size a) (in_kind Size b) h j)
