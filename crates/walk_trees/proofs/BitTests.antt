-- What the tests of runs and of single bits tell, and bounds of numbers by their bits.
use Rattle.std.proofs.Common.{◌≡◌, ℕ, zero, suc, ◌+◌, ◌-◌, ◌*◌, ◌/◌, ◌%◌, ◌^◌, ◌<◌, ◌≤◌, ◌&&◌, Bool, true, false, cond, nat_lt, Option, Some, None, arith, refl, sym, ap, ◌∙◌, subst, inl, inr, ltb-true, ltb-false, mod-eq_of_lt}
use Rattle.std.specs.Prelude.{ℤ, pos, negsuc, ◌+ℤ◌, ◌-ℤ◌, ◌*ℤ◌, ◌≤ℤ◌, ◌<ℤ◌, int_le, int_lt, int_div, bit_and, bit_or, bit_xor}
use Rattle.std.specs.Ordering.{int_eq}
use Rattle.std.specs.Int.{int_div_euclid, int_rem_euclid}
use Rattle.std.specs.Int.Bits.{or_add_and, xor_add_and}
use Rattle.std.proofs.lemmas.Int.{ints}
use Rattle.std.proofs.lemmas.Bool.{and_parts, or_cases}
use Rattle.std.proofs.lemmas.Bool.Decides.{Decides-int_eq}
use Rattle.std.proofs.lemmas.Nat.{and_le_r, or_lt, xor_lt, pow_pos, pow-add, pow_below, shl-shr}
use Rattle.std.proofs.lemmas.Nat.Bits.{and_pow}
use Rattle.semantics.specs.Word.{Kind, Int, Uint, Size, in_kind, bits_of, read_bits}
use Rattle.facts.proofs.Integers.{le_test, lt_test}
use Rattle.domain.specs.Members.{is_below}
use Rattle.walk_trees.specs.Walks.{greatest}
use Rattle.walk_trees.specs.Quotients.{is_power}
use Rattle.walk_trees.specs.Bits.{is_upper, is_run, run_of, bit_of, widest, upper, greater}
use Rattle.walk_trees.proofs.Divisions.{power_of}
use Rattle.walk_trees.proofs.BitNumbers.{run-bits, read-low}

abbrev place : Option ℕ → ℕ
place None = zero
place (Some b) = b

-- a run that was found is one
pub run_of-is : (n : ℕ) (k : Kind) (c : ℤ) (b : ℕ) → run_of n k c ≡ Some b → (is_run k b c ≡ true) × (b ≤ n)
unfolding run_of
run_of-is zero k c b e = cc
run_of-is (suc n) k c b e = by (run_of-is n k c b) (is_run k (suc n) c) refl e
  where
    by : (run_of n k c ≡ Some b → (is_run k b c ≡ true) × (b ≤ n)) → (t : Bool) → is_run k (suc n) c ≡ t → cond t (Some (suc n)) (run_of n k c) ≡ Some b → (is_run k b c ≡ true) × (b ≤ suc n)
    by before true h f = let s : suc n ≡ b = ap place f in (subst (λ i. is_run k i c ≡ true) s h, omega (arith, s))
    by before false h f = let p = before f in (p.0, omega (arith, p.1))

-- a single bit that was found is one
pub bit_of-is : (n : ℕ) (c : ℤ) (b : ℕ) → bit_of n c ≡ Some b → c ≡ pos (2 ^ b)
unfolding bit_of
bit_of-is zero c b e = by (int_eq c (pos 1)) refl e
  where
    by : (t : Bool) → int_eq c (pos 1) ≡ t → cond t (Some zero) None ≡ Some b → c ≡ pos (2 ^ b)
    by true h f = (Decides-int_eq c (pos 1)).0 h ∙ ap (λ i. pos (2 ^ place i)) f
    by false h f = cc
bit_of-is (suc n) c b e = by (bit_of-is n c b) (int_eq c (pos (2 ^ suc n))) refl e
  where
    by : (bit_of n c ≡ Some b → c ≡ pos (2 ^ b)) → (t : Bool) → int_eq c (pos (2 ^ suc n)) ≡ t → cond t (Some (suc n)) (bit_of n c) ≡ Some b → c ≡ pos (2 ^ b)
    by before true h f = (Decides-int_eq c (pos (2 ^ suc n))).0 h ∙ ap (λ i. pos (2 ^ place i)) f
    by before false h f = before f

-- all bits from a place on
pub upper-is : (k : Kind) (c : ℤ) (b : ℕ) → in_kind k c ≡ true → is_upper k b c ≡ true → bits_of c ≡ 2 ^ 32 - 2 ^ b
upper-is Int (pos n) b h e = let s = (Decides-int_eq (pos n +ℤ pos (2 ^ b)) (pos 0)).0 e in let l = pow_pos b in absurd (omega (arith, ints, s, l))
upper-is Int (negsuc n) b h e =
    let s = (Decides-int_eq (negsuc n +ℤ pos (2 ^ b)) (pos 0)).0 e in
    let l = ltb-true n (2 ^ 31) h in
    let m : n % 2 ^ 32 ≡ n = mod-eq_of_lt (omega (arith, l)) in
    let t : n + 1 ≡ 2 ^ b = omega (arith, ints, s) in
    ap (λ z. 2 ^ 32 - 1 - z) m ∙ omega (arith, t)
upper-is Uint (pos n) b h e =
    let s = (Decides-int_eq (pos n +ℤ pos (2 ^ b)) (pos 4294967296)).0 e in
    let m : n % 2 ^ 32 ≡ n = mod-eq_of_lt (ltb-true n (2 ^ 32) h) in
    m ∙ omega (arith, ints, s)
upper-is Uint (negsuc n) b h e = cc
upper-is Size (pos n) b h e =
    let s = (Decides-int_eq (pos n +ℤ pos (2 ^ b)) (pos 4294967296)).0 e in
    let m : n % 2 ^ 32 ≡ n = mod-eq_of_lt (ltb-true n (2 ^ 32) h) in
    m ∙ omega (arith, ints, s)
upper-is Size (negsuc n) b h e = cc

pow-more : (a b : ℕ) → 2 ^ b < 2 ^ a → b < a
pow-more a b h = by (nat_lt b a) refl
  where
    by : (t : Bool) → nat_lt b a ≡ t → b < a
    by true e = ltb-true b a e
    by false e =
        let l : a ≤ b = ltb-false b a e in
        let s : b ≡ (b - a) + a = omega (arith, l) in
        let p : 2 ^ b ≡ 2 ^ (b - a) * 2 ^ a = ap (λ n. 2 ^ n) s ∙ pow-add 2 (b - a) a in
        let q = pow_pos (b - a) in
        let r : 2 ^ (b - a) ≡ (2 ^ (b - a) - 1) + 1 = omega (arith, q) in
        let t : 2 ^ b ≡ (2 ^ (b - a) - 1) * 2 ^ a + 2 ^ a = p ∙ ap (λ n. n * 2 ^ a) r ∙ omega arith in
        absurd (omega (arith, h, t))

-- bits from a place on up to below another
pub record Middle (c : ℤ) (b : ℕ) : Type 0 where
  pub over : ℕ
  pub wide : ℕ
  pub places : over + (wide + b) ≡ 32
  pub bits : bits_of c ≡ 2 ^ (wide + b) - 2 ^ b
  pub low : bits_of c < 2 ^ 31
  pub quotient : int_div (c +ℤ pos (2 ^ b)) (pos (2 ^ b)) ≡ pos (2 ^ wide)

middle-of : (k : Kind) (n b a : ℕ) → a ≤ 31 → 0 < n → n + 2 ^ b ≡ 2 ^ a → Middle (pos n) b
middle-of k n b a l p e =
    let m : b < a = pow-more a b (omega (arith, p, e)) in
    let w = a - b in
    let s : w + b ≡ a = omega (arith, m) in
    let f : 2 ^ a ≡ 2 ^ w * 2 ^ b = ap (λ i. 2 ^ i) (sym s) ∙ pow-add 2 w b in
    let g : 2 ^ a ≤ 2 ^ 31 = by (nat_lt a 31) refl in
    let c : n < 2 ^ 31 = let z = pow_pos b in omega (arith, e, g, z) in
    let r : n % 2 ^ 32 ≡ n = mod-eq_of_lt (omega (arith, c)) in
    record {
      over = 32 - a;
      wide = w;
      places = omega (arith, m, l);
      bits = r ∙ omega (arith, e) ∙ ap (λ i. 2 ^ i - 2 ^ b) (sym s);
      low = omega (arith, r, c);
      quotient = ap (λ i. pos (i / 2 ^ b)) (e ∙ f) ∙ ap pos (shl-shr (2 ^ w) b);
    }
  where
    by : (t : Bool) → nat_lt a 31 ≡ t → 2 ^ a ≤ 2 ^ 31
    by true h = let x = pow_below a 31 (ltb-true a 31 h) in omega (arith, x)
    by false h = let x = ltb-false a 31 h in let y : a ≡ 31 = omega (arith, x, l) in omega (arith, ap (λ i. 2 ^ i) y)

pub middle-is : (k : Kind) (c : ℤ) (b : ℕ) → is_run k b c ≡ true → is_upper k b c ≡ false → Middle c b
middle-is k c b h u = elim (or_cases (is_upper k b c) (int_lt (pos 0) c && is_power 31 (c +ℤ pos (2 ^ b))) h) [
  | inl e ↦ cc
  | inr e ↦ (let p = and_parts (int_lt (pos 0) c) (is_power 31 (c +ℤ pos (2 ^ b))) e in let q = power_of 31 (c +ℤ pos (2 ^ b)) p.1 in of c (lt_test (pos 0) c p.0) q.0 q.1 q.2)
]
  where
    of : (c : ℤ) → pos 0 <ℤ c → (a : ℕ) → a ≤ 31 → c +ℤ pos (2 ^ b) ≡ pos (2 ^ a) → Middle c b
    of (pos n) l a m e = middle-of k n b a m (omega (arith, ints, l)) (omega (arith, ints, e))
    of (negsuc n) l a m e = absurd (omega (arith, ints, l))

pub middle-bits : (k : Kind) (x c : ℤ) (b : ℕ) (m : Middle c b) → in_kind k x ≡ true → read_bits k (bit_and (bits_of x) (bits_of c)) ≡ pos (2 ^ b) *ℤ int_rem_euclid (int_div_euclid x (pos (2 ^ b))) (pos (2 ^ m.wide))
middle-bits k x c b m h =
    let l = and_le_r (bits_of x) (bits_of c) in
    let d = m.low in
    read-low k (bit_and (bits_of x) (bits_of c)) (omega (arith, l, d)) ∙ ap (λ z. pos (bit_and (bits_of x) z)) m.bits ∙ run-bits k x m.over m.wide b h m.places

-- one bit more or less
pub or-bit : (m b : ℕ) → pos (bit_or m (2 ^ b)) +ℤ pos (2 ^ b) *ℤ pos (m / 2 ^ b % 2) ≡ pos m +ℤ pos (2 ^ b)
or-bit m b = let e = or_add_and m (2 ^ b) in let f = and_pow m b in omega (arith, ints, e, f)

pub xor-bit : (m b : ℕ) → pos (bit_xor m (2 ^ b)) +ℤ pos (2 ^ suc b) *ℤ pos (m / 2 ^ b % 2) ≡ pos m +ℤ pos (2 ^ b)
xor-bit m b =
    let e = xor_add_and m (2 ^ b) in
    let f = and_pow m b in
    let r = m / 2 ^ b % 2 in
    let s : 2 ^ suc b ≡ 2 ^ b * 2 = omega arith in
    let t : 2 ^ suc b * r ≡ r * 2 ^ b * 2 = ap (λ p. p * r) s ∙ omega arith in
    omega (arith, ints, e, f, t)

-- a number of so many bits
pub widest-is : (n : ℕ) (z : ℤ) → z ≤ℤ (pos (2 ^ n) -ℤ pos 1) → (w : ℕ) × (widest n z ≡ pos (2 ^ w) -ℤ pos 1) × (z ≤ℤ (pos (2 ^ w) -ℤ pos 1))
unfolding widest
widest-is zero z h = (0, refl, h)
widest-is (suc n) z h = by (widest-is n z) (int_le z (pos (2 ^ n) -ℤ pos 1)) refl
  where
    by : (z ≤ℤ (pos (2 ^ n) -ℤ pos 1) → (w : ℕ) × (widest n z ≡ pos (2 ^ w) -ℤ pos 1) × (z ≤ℤ (pos (2 ^ w) -ℤ pos 1))) → (t : Bool) → int_le z (pos (2 ^ n) -ℤ pos 1) ≡ t → (w : ℕ) × (cond t (widest n z) (pos (2 ^ suc n) -ℤ pos 1) ≡ pos (2 ^ w) -ℤ pos 1) × (z ≤ℤ (pos (2 ^ w) -ℤ pos 1))
    by before true e = before (le_test z (pos (2 ^ n) -ℤ pos 1) e)
    by before false e = (suc n, refl, h)

pub greater-left : (a b : ℤ) → a ≤ℤ greater a b
greater-left a b = by (int_lt a b) refl
  where
    by : (t : Bool) → int_lt a b ≡ t → a ≤ℤ cond t b a
    by true e = let l = lt_test a b e in omega (arith, ints, l)
    by false e = omega (arith, ints)

pub greater-right : (a b : ℤ) → b ≤ℤ greater a b
greater-right a b = by (int_lt a b) refl
  where
    by : (t : Bool) → int_lt a b ≡ t → b ≤ℤ cond t b a
    by true e = omega (arith, ints)
    by false e = omega (arith, ints, e)

pub greater-below : (a b c : ℤ) → a ≤ℤ c → b ≤ℤ c → greater a b ≤ℤ c
greater-below a b c h j = by (int_lt a b)
  where
    by : (t : Bool) → cond t b a ≤ℤ c
    by true = j
    by false = h

pub upper-above : (k : Kind) (o : Option ℤ) (z : ℤ) → is_below o z ≡ true → z ≤ℤ greatest k → z ≤ℤ upper k o
upper-above k None z h g = g
upper-above k (Some high) z h g = by (int_lt high (greatest k))
  where
    by : (t : Bool) → z ≤ℤ cond t high (greatest k)
    by true = le_test z high h
    by false = g

greatest-below : (k : Kind) → greatest k ≤ℤ (pos (2 ^ 32) -ℤ pos 1)
greatest-below Int = omega (arith, ints)
greatest-below Uint = omega (arith, ints)
greatest-below Size = omega (arith, ints)

pub upper-below : (k : Kind) (o : Option ℤ) → upper k o ≤ℤ (pos (2 ^ 32) -ℤ pos 1)
upper-below k None = greatest-below k
upper-below k (Some high) = by (int_lt high (greatest k)) refl
  where
    by : (t : Bool) → int_lt high (greatest k) ≡ t → cond t high (greatest k) ≤ℤ (pos (2 ^ 32) -ℤ pos 1)
    by true e = let l = lt_test high (greatest k) e in let m = greatest-below k in omega (arith, ints, l, m)
    by false e = greatest-below k

-- neither `|` nor `^` has more bits than both have
pub record Joined (m n : ℕ) (z : ℤ) : Type 0 where
  pub or : pos (bit_or m n) ≤ℤ z
  pub xor : pos (bit_xor m n) ≤ℤ z

pub joined-below : (m n : ℕ) (u v : ℤ) → pos m ≤ℤ u → pos n ≤ℤ v → u ≤ℤ (pos (2 ^ 32) -ℤ pos 1) → v ≤ℤ (pos (2 ^ 32) -ℤ pos 1) → Joined m n (widest 32 (greater u v))
joined-below m n u v h j g i =
    let z = greater u v in
    let p = widest-is 32 z (greater-below u v (pos (2 ^ 32) -ℤ pos 1) g i) in
    let w = p.0 in
    let a = greater-left u v in
    let b = greater-right u v in
    let q = p.1 in
    let r = p.2 in
    let c : m < 2 ^ w = omega (arith, ints, h, a, r) in
    let d : n < 2 ^ w = omega (arith, ints, j, b, r) in
    let o = or_lt w m n c d in
    let x = xor_lt w m n c d in
    record { or = omega (arith, ints, o, q); xor = omega (arith, ints, x, q) }
