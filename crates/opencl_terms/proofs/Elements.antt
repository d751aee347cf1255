-- What a load gives and what a store keeps, of elements by the number of their bits.
use Rattle.std.proofs.Common.{◌≡◌, ◌+◌, ◌-◌, ◌*◌, ◌/◌, ◌%◌, ◌^◌, ◌≤◌, ◌<◌, ℕ, List, Bool, true, false, cond, nat_lt, Ok, Err, arith, refl, ap, ap₂, ◌∙◌, subst, ltb-true, lt-ltb, mod-eq_of_lt}
use Rattle.std.specs.Prelude.{ℤ, pos, negsuc, ◌-ℤ◌, ◌≤ℤ◌, bit_and, bit_xor}
use Rattle.std.specs.Int.Bits.{xor_disjoint, xor_add_and}
use Rattle.std.proofs.lemmas.Int.{ints}
use Rattle.std.proofs.Math.Pow.{pow_mono}
use Rattle.std.proofs.lemmas.Nat.{and_mask, pow_pos, pow-add, mod_below, mod-mul-add, div-mul-add}
use Rattle.std.proofs.lemmas.Nat.Bits.{and_high_mask}
use Rattle.std.proofs.lemmas.Bool.Decides.{nat_tests}
use Rattle.semantics.specs.Word.{Kind, Int, Uint, Word, word, Fault, in_kind, bits_of, read_bits, as_kind, settle, convert, BitAnd, BitXor, Subtract, Operator, Overflow}
use Rattle.semantics.specs.Core.{Array, Site, Term, Literal, Binary, Convert}
use Rattle.semantics.specs.Setup.{Setup}
use Rattle.semantics.specs.Evaluation.{Gives, Needs, Faults, and_then, settled, operate, evaluate}
use Rattle.semantics.proofs.Words.{bits_of-below, as_kind-same}
use Rattle.opencl_terms.proofs.Storage.{Storage, IsNarrow, bits_kept, number_by, number_of, HasBy, Has, narrowed, signed_term, widened}

half-small : (b : ℕ) → b ≤ 15 → 2 ^ b ≤ 32768
half-small b h = pow_mono h

doubled : (b : ℕ) → 2 ^ (b + 1) ≡ 2 ^ b + 2 ^ b
doubled b = pow-add 2 b 1 ∙ omega arith

pub kept-below : (of : Storage) (z : ℤ) → bits_kept of z < 2 ^ of.below + 2 ^ of.below
kept-below of z = subst (λ n. bits_kept of z < n) (doubled of.below) (mod_below (bits_of z) (2 ^ (of.below + 1)) (pow_pos (of.below + 1)))

-- a low mask is a remainder
masked : (of : Storage) → IsNarrow of → (z : ℤ) → bit_and (bits_of z) (bits_of (pos (2 ^ (of.below + 1) - 1))) ≡ bits_kept of z
masked of h z =
    let l = half-small of.below h in
    let d = doubled of.below in
    let e : (2 ^ (of.below + 1) - 1) % 2 ^ 32 ≡ 2 ^ (of.below + 1) - 1 = mod-eq_of_lt (omega (arith, l, d)) in
    ap (λ n. bit_and (bits_of z) n) e ∙ and_mask (bits_of z) (of.below + 1)

bits-again : (z : ℤ) → bits_of (pos (bits_of z)) ≡ bits_of z
bits-again z = mod-eq_of_lt (bits_of-below z)

narrow-is : (of : Storage) → IsNarrow of → (w : _) (v : Word) → operate BitAnd w Uint v (word Uint (pos (2 ^ (of.below + 1) - 1))) ≡ Ok (word Uint (pos (bits_kept of v.value)))
narrow-is of h w v =
    let l = half-small of.below h in
    let d = doubled of.below in
    let e : bits_of (pos (bits_of (pos (2 ^ (of.below + 1) - 1)))) ≡ bits_of (pos (2 ^ (of.below + 1) - 1)) = bits-again (pos (2 ^ (of.below + 1) - 1)) in
    ap₂ (λ a b. Ok (word Uint (pos (bit_and a b)))) (bits-again v.value) e ∙ ap (λ n. Ok (word Uint (pos n))) (masked of h v.value)

-- to `int` it fits
int-is : (of : Storage) → IsNarrow of → (w : _) (z : ℤ) → convert w Int (pos (bits_kept of z)) ≡ Ok (word Int (pos (bits_kept of z)))
int-is of h w z =
    let l = half-small of.below h in
    let k = kept-below of z in
    let t : nat_lt (bits_kept of z) (2 ^ 31) ≡ true = lt-ltb (bits_kept of z) (2 ^ 31) (omega (arith, l, k)) in
    ap (λ b. cond b (Ok (word Int (pos (bits_kept of z)))) (Err Overflow)) t

-- a number of 16 bits and its sign is an `int`
in-int : (z : ℤ) → (pos 0 -ℤ pos 32768) ≤ℤ z → z ≤ℤ pos 65535 → in_kind Int z ≡ true
in-int (pos n) l h = lt-ltb n (2 ^ 31) (omega (arith, ints, h))
in-int (negsuc n) l h = lt-ltb n (2 ^ 31) (omega (arith, ints, l))

-- a bit turned
met : (b m : ℕ) → m < 2 ^ b + 2 ^ b → bit_and m (2 ^ b) ≡ m / 2 ^ b * 2 ^ b
met b m l =
    let d = doubled b in
    let e : 2 ^ b ≡ 2 ^ (b + 1) - 2 ^ b = omega (arith, d) in
    ap (bit_and m) e ∙ and_high_mask (b + 1) b (omega arith) m (omega (arith, d, l))

low-met : (b m : ℕ) → m < 2 ^ b → bit_and m (2 ^ b) ≡ 0
low-met b m l =
    let r : m ≡ 0 * 2 ^ b + m = omega arith in
    let q : m / 2 ^ b ≡ 0 = ap (λ n. n / 2 ^ b) r ∙ div-mul-add 0 (2 ^ b) m l in
    met b m (omega (arith, l)) ∙ ap (λ n. n * 2 ^ b) q ∙ omega arith

high-met : (b m : ℕ) → 2 ^ b ≤ m → m < 2 ^ b + 2 ^ b → bit_and m (2 ^ b) ≡ 2 ^ b
high-met b m g l =
    let r : m ≡ 1 * 2 ^ b + (m - 2 ^ b) = omega (arith, g) in
    let q : m / 2 ^ b ≡ 1 = ap (λ n. n / 2 ^ b) r ∙ div-mul-add 1 (2 ^ b) (m - 2 ^ b) (omega (arith, g, l)) in
    met b m l ∙ ap (λ n. n * 2 ^ b) q ∙ omega arith

turned-low : (b m : ℕ) → m < 2 ^ b → bit_xor m (2 ^ b) ≡ m + 2 ^ b
turned-low b m l = xor_disjoint m (2 ^ b) (low-met b m l)

turned-high : (b m : ℕ) → 2 ^ b ≤ m → m < 2 ^ b + 2 ^ b → bit_xor m (2 ^ b) + 2 ^ b ≡ m
turned-high b m g l =
    let e = xor_add_and m (2 ^ b) in
    let q = high-met b m g l in
    omega (arith, e, q)

turned-below : (b m : ℕ) → m < 2 ^ b + 2 ^ b → bit_xor m (2 ^ b) < 2 ^ b + 2 ^ b
turned-below b m l = by (nat_lt m (2 ^ b)) refl
  where
    by : (t : Bool) → nat_lt m (2 ^ b) ≡ t → bit_xor m (2 ^ b) < 2 ^ b + 2 ^ b
    by true e = let k = ltb-true m (2 ^ b) e in let q = turned-low b m k in omega (arith, k, q)
    by false e = let k : 2 ^ b ≤ m = grind (arith, nat_tests) in let q = turned-high b m k l in omega (arith, l, q)

-- and the sign taken off
signed-number : (b m : ℕ) → m < 2 ^ b + 2 ^ b → pos (bit_xor m (2 ^ b)) -ℤ pos (2 ^ b) ≡ number_by true (2 ^ b) m
signed-number b m l = by (nat_lt m (2 ^ b)) refl
  where
    by : (t : Bool) → nat_lt m (2 ^ b) ≡ t → pos (bit_xor m (2 ^ b)) -ℤ pos (2 ^ b) ≡ cond t (pos m) (pos m -ℤ pos (2 ^ b + 2 ^ b))
    by true e = let k = ltb-true m (2 ^ b) e in let q = turned-low b m k in omega (arith, ints, q)
    by false e = let k : 2 ^ b ≤ m = grind (arith, nat_tests) in let q = turned-high b m k l in omega (arith, ints, q)

pub number-inside : (t : Bool) (b m : ℕ) → m < 2 ^ b + 2 ^ b → HasBy t (2 ^ b) (number_by t (2 ^ b) m)
number-inside false b m l = (omega (arith, ints), omega (arith, ints, l))
number-inside true b m l = by (nat_lt m (2 ^ b)) refl
  where
    by : (t : Bool) → nat_lt m (2 ^ b) ≡ t → HasBy true (2 ^ b) (cond t (pos m) (pos m -ℤ pos (2 ^ b + 2 ^ b)))
    by true e = let k = ltb-true m (2 ^ b) e in (omega (arith, ints, k), omega (arith, ints, k))
    by false e = let k : 2 ^ b ≤ m = grind (arith, nat_tests) in (omega (arith, ints, k), omega (arith, ints, l))

small-int : (n : ℕ) → n < 65536 → as_kind Int (pos n) ≡ pos n
small-int n l = as_kind-same Int (pos n) (lt-ltb n (2 ^ 31) (omega (arith, l)))

small-bits : (n : ℕ) → n < 65536 → bits_of (as_kind Int (pos n)) ≡ n
small-bits n l = ap bits_of (small-int n l) ∙ mod-eq_of_lt (omega (arith, l))

small-read : (n : ℕ) → n < 65536 → read_bits Int n ≡ pos n
small-read n l = ap (λ t. cond t (pos n) (pos n -ℤ pos (2 ^ 32))) (lt-ltb n (2 ^ 31) (omega (arith, l)))

xor-is : (b : ℕ) → b ≤ 15 → (w : _) (m : ℕ) → m < 2 ^ b + 2 ^ b → operate BitXor w Int (word Int (pos m)) (word Int (pos (2 ^ b))) ≡ Ok (word Int (pos (bit_xor m (2 ^ b))))
xor-is b h w m l =
    let s = half-small b h in
    let x = turned-below b m l in
    ap₂ (λ a c. Ok (word Int (read_bits Int (bit_xor a c)))) (small-bits m (omega (arith, s, l))) (small-bits (2 ^ b) (omega (arith, s)))
    ∙ ap (λ z. Ok (word Int z)) (small-read (bit_xor m (2 ^ b)) (omega (arith, s, x)))

sub-is : (b : ℕ) → b ≤ 15 → (w : _) (m : ℕ) → m < 2 ^ b + 2 ^ b → operate Subtract w Int (word Int (pos (bit_xor m (2 ^ b)))) (word Int (pos (2 ^ b))) ≡ Ok (word Int (number_by true (2 ^ b) m))
sub-is b h w m l =
    let s = half-small b h in
    let x = turned-below b m l in
    let i = number-inside true b m l in
    let t : in_kind Int (number_by true (2 ^ b) m) ≡ true = in-int (number_by true (2 ^ b) m) (omega (arith, ints, i.0, s)) (omega (arith, ints, i.1, s)) in
    ap₂ (λ a c. settle w Int (a -ℤ c)) (small-int (bit_xor m (2 ^ b)) (omega (arith, s, x))) (small-int (2 ^ b) (omega (arith, s)))
    ∙ ap (settle w Int) (signed-number b m l) ∙ ap (λ c. cond c (Ok (word Int (number_by true (2 ^ b) m))) (Err Overflow)) t

module _ (s : Setup) (i : ℕ) (now : List ℕ) (vars : List Word) where
  with-number : (op : Operator) (k j : Kind) (site : Site) (e : Term) (z : ℤ) (answers rest : List Word) (v r : Word) → evaluate s i now e vars answers ≡ Gives v rest → operate op s.width k v (word j z) ≡ Ok r → evaluate s i now (Binary op k site e (Literal j z)) vars answers ≡ Gives r rest
  unfolding evaluate
  with-number op k j site e z answers rest v r h q =
      ap (λ o. and_then o (λ a rest. settled (operate op s.width k a (word j z)) site rest)) h ∙ ap (λ x. settled x site rest) q

  to-int : (site : Site) (e : Term) (answers rest : List Word) (v r : Word) → evaluate s i now e vars answers ≡ Gives v rest → convert s.width Int v.value ≡ Ok r → evaluate s i now (Convert Int site e) vars answers ≡ Gives r rest
  unfolding evaluate
  to-int site e answers rest v r h q = ap (λ o. and_then o (λ a rest. settled (convert s.width Int a.value) site rest)) h ∙ ap (λ x. settled x site rest) q

  pub stores : (of : Storage) (site : Site) (e : Term) (answers rest : List Word) (v : Word) → IsNarrow of → evaluate s i now e vars answers ≡ Gives v rest → evaluate s i now (narrowed of site e) vars answers ≡ Gives (word Uint (pos (bits_kept of v.value))) rest
  stores of site e answers rest v n h = with-number BitAnd Uint Uint site e _ answers rest v _ h (narrow-is of n s.width v)

  signs : (t : Bool) (b m : ℕ) → b ≤ 15 → m < 2 ^ b + 2 ^ b → (site : Site) (e : Term) (answers rest : List Word) → evaluate s i now e vars answers ≡ Gives (word Int (pos m)) rest → evaluate s i now (signed_term t (2 ^ b) site e) vars answers ≡ Gives (word Int (number_by t (2 ^ b) m)) rest
  signs false b m n l site e answers rest h = h
  signs true b m n l site e answers rest h =
      with-number Subtract Int Int site _ _ answers rest _ _ (with-number BitXor Int Int site e _ answers rest _ _ h (xor-is b n s.width m l)) (sub-is b n s.width m l)

  pub loads : (of : Storage) (site : Site) (e : Term) (answers rest : List Word) (v : Word) → IsNarrow of → evaluate s i now e vars answers ≡ Gives v rest → evaluate s i now (widened of site e) vars answers ≡ Gives (word Int (number_of of v.value)) rest
  loads of site e answers rest v n h =
      signs of.is_signed of.below (bits_kept of v.value) n (kept-below of v.value) site _ answers rest
      (to-int site _ answers rest _ _ (stores of site e answers rest v n h) (int-is of n s.width v.value))

  -- what asks or fails, does so
  needs-on : (op : Operator) (k : Kind) (site : Site) (e f : Term) (answers : List Word) (a : Array) (n : ℕ) (at : Site) → evaluate s i now e vars answers ≡ Needs a n at → evaluate s i now (Binary op k site e f) vars answers ≡ Needs a n at
  unfolding evaluate
  needs-on op k site e f answers a n at h = ap (λ o. and_then o (λ x rest. and_then (evaluate s i now f vars rest) (λ y rest'. settled (operate op s.width k x y) site rest'))) h

  needs-int : (site : Site) (e : Term) (answers : List Word) (a : Array) (n : ℕ) (at : Site) → evaluate s i now e vars answers ≡ Needs a n at → evaluate s i now (Convert Int site e) vars answers ≡ Needs a n at
  unfolding evaluate
  needs-int site e answers a n at h = ap (λ o. and_then o (λ x rest. settled (convert s.width Int x.value) site rest)) h

  needs-signed : (t : Bool) (half : ℕ) (site : Site) (e : Term) (answers : List Word) (a : Array) (n : ℕ) (at : Site) → evaluate s i now e vars answers ≡ Needs a n at → evaluate s i now (signed_term t half site e) vars answers ≡ Needs a n at
  needs-signed false half site e answers a n at h = h
  needs-signed true half site e answers a n at h = needs-on Subtract Int site _ _ answers a n at (needs-on BitXor Int site e _ answers a n at h)

  pub asks : (of : Storage) (site : Site) (e : Term) (answers : List Word) (a : Array) (n : ℕ) (at : Site) → evaluate s i now e vars answers ≡ Needs a n at → evaluate s i now (widened of site e) vars answers ≡ Needs a n at
  asks of site e answers a n at h = needs-signed of.is_signed (2 ^ of.below) site _ answers a n at (needs-int site _ answers a n at (needs-on BitAnd Uint site e _ answers a n at h))

  fails-on : (op : Operator) (k : Kind) (site : Site) (e f : Term) (answers : List Word) (x : Fault) (at : Site) → evaluate s i now e vars answers ≡ Faults x at → evaluate s i now (Binary op k site e f) vars answers ≡ Faults x at
  unfolding evaluate
  fails-on op k site e f answers x at h = ap (λ o. and_then o (λ x rest. and_then (evaluate s i now f vars rest) (λ y rest'. settled (operate op s.width k x y) site rest'))) h

  fails-int : (site : Site) (e : Term) (answers : List Word) (x : Fault) (at : Site) → evaluate s i now e vars answers ≡ Faults x at → evaluate s i now (Convert Int site e) vars answers ≡ Faults x at
  unfolding evaluate
  fails-int site e answers x at h = ap (λ o. and_then o (λ x rest. settled (convert s.width Int x.value) site rest)) h

  fails-signed : (t : Bool) (half : ℕ) (site : Site) (e : Term) (answers : List Word) (x : Fault) (at : Site) → evaluate s i now e vars answers ≡ Faults x at → evaluate s i now (signed_term t half site e) vars answers ≡ Faults x at
  fails-signed false half site e answers x at h = h
  fails-signed true half site e answers x at h = fails-on Subtract Int site _ _ answers x at (fails-on BitXor Int site e _ answers x at h)

  pub fails : (of : Storage) (site : Site) (e : Term) (answers : List Word) (x : Fault) (at : Site) → evaluate s i now e vars answers ≡ Faults x at → evaluate s i now (widened of site e) vars answers ≡ Faults x at
  fails of site e answers x at h = fails-signed of.is_signed (2 ^ of.below) site _ answers x at (fails-int site _ answers x at (fails-on BitAnd Uint site e _ answers x at h))

pub kept-again : (of : Storage) (z : ℤ) → IsNarrow of → bits_kept of (pos (bits_kept of z)) ≡ bits_kept of z
kept-again of z h =
    let s = half-small of.below h in
    let l = kept-below of z in
    let d = doubled of.below in
    ap (λ n. n % 2 ^ (of.below + 1)) (mod-eq_of_lt (omega (arith, s, l))) ∙ mod-eq_of_lt (omega (arith, l, d))

-- a number of the type is kept
kept-pos : (b n : ℕ) → b ≤ 15 → n < 2 ^ b + 2 ^ b → n % 2 ^ 32 % 2 ^ (b + 1) ≡ n
kept-pos b n h l =
    let s = half-small b h in
    let d = doubled b in
    ap (λ k. k % 2 ^ (b + 1)) (mod-eq_of_lt (omega (arith, s, l))) ∙ mod-eq_of_lt (omega (arith, l, d))

kept-neg : (b n : ℕ) → b ≤ 15 → n < 2 ^ b → (2 ^ 32 - 1 - n % 2 ^ 32) % 2 ^ (b + 1) ≡ 2 ^ b + 2 ^ b - 1 - n
kept-neg b n h l =
    let s = half-small b h in
    let d = doubled b in
    let p = 2 ^ (31 - b) in
    let w = 2 ^ (b + 1) in
    let z : 0 < p = pow_pos (31 - b) in
    let x : 32 ≡ (31 - b) + (b + 1) = omega (arith, h) in
    let e : 2 ^ 32 ≡ p * w = ap (λ k. 2 ^ k) x ∙ pow-add 2 (31 - b) (b + 1) in
    let m : n % 2 ^ 32 ≡ n = mod-eq_of_lt (omega (arith, s, l)) in
    let o : p ≡ (p - 1) + 1 = omega (arith, z) in
    let f : p * w ≡ (p - 1) * w + w = ap (λ k. k * w) o ∙ omega arith in
    let g : 2 ^ 32 - 1 - n % 2 ^ 32 ≡ (p - 1) * w + (w - 1 - n) = omega (arith, e, m, f, d, l) in
    ap (λ k. k % w) g ∙ mod-mul-add (p - 1) w (w - 1 - n) (omega (arith, d, l)) ∙ omega (arith, d)

same-by : (t : Bool) (b : ℕ) (z : ℤ) → b ≤ 15 → HasBy t (2 ^ b) z → number_by t (2 ^ b) (bits_of z % 2 ^ (b + 1)) ≡ z
same-by false b (pos n) h i = ap pos (kept-pos b n h (omega (arith, ints, i.1)))
same-by false b (negsuc n) h i = absurd (let l = i.0 in omega (arith, ints, l))
same-by true b (pos n) h i =
    let l : n < 2 ^ b = omega (arith, ints, i.1) in
    ap (number_by true (2 ^ b)) (kept-pos b n h (omega (arith, l))) ∙ ap (λ t. cond t (pos n) (pos n -ℤ pos (2 ^ b + 2 ^ b))) (lt-ltb n (2 ^ b) l)
same-by true b (negsuc n) h i =
    let l : n < 2 ^ b = omega (arith, ints, i.0) in
    let m = 2 ^ b + 2 ^ b - 1 - n in
    ap (number_by true (2 ^ b)) (kept-neg b n h l) ∙ by m (omega (arith, l)) (omega (arith, l)) (nat_lt m (2 ^ b)) refl
  where
    by : (m : ℕ) → m + n + 1 ≡ 2 ^ b + 2 ^ b → 2 ^ b ≤ m → (t : Bool) → nat_lt m (2 ^ b) ≡ t → cond t (pos m) (pos m -ℤ pos (2 ^ b + 2 ^ b)) ≡ negsuc n
    by m e g true q = absurd (let k = ltb-true m (2 ^ b) q in omega (arith, k, g))
    by m e g false q = omega (arith, ints, e)

pub same : (of : Storage) (z : ℤ) → IsNarrow of → Has of z → number_of of z ≡ z
same of z h i = same-by of.is_signed of.below z h i
