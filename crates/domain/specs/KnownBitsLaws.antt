-- The operations on known bits hold what they promise.
use Rattle.std.proofs.Common.{◌≡◌, ℕ, true, arith, ◌+◌, ◌-◌, ◌*◌, ◌/◌, ◌%◌, ◌^◌, ◌<◌, ◌⊎◌, inl, inr, subst, ap, sym, ◌∙◌}
use Rattle.std.specs.Prelude.{ℤ, pos, ◌+ℤ◌, ◌-ℤ◌, ◌*ℤ◌, min, max}
use Rattle.std.specs.Int.{int_div_euclid, bit_at}
use Rattle.std.specs.Int.RustNames.{bit_and, bit_or, bit_xor}
use Rattle.std.proofs.lemmas.Bool.{eq-eqb}
use Rattle.std.proofs.lemmas.Int.{ints}
use Rattle.std.proofs.lemmas.Nat.{and_mod, and_mask, and_shr, and_block, and_le_l, and_le_r, mod_below, pow_pos, pow-add, shr_below}
use Rattle.std.proofs.lemmas.Nat.Bits.{bit_at_and, bit_at_or, bit_at_xor, bit_at-lt, same_from_bits}
use Rattle.std.proofs.Math.Nat.{mod-eq_of_lt}
use Rattle.semantics.proofs.Integers.{mul_comm, mul-add, mul_assoc}
use Rattle.domain.specs.Members.{leaves}
use Rattle.domain.specs.Multiples.{Multiple, to-test, plus, minus, times}
use Rattle.domain.specs.ResidueQuotients.{floors}
use Rattle.domain.specs.KnownBits.{Bits, modulo, agrees, nothing, number, low, shared, without, alike, zeros, join, add, subtract, multiply, mask, shift_left, shift_right, residue}
use Rattle.domain.specs.KnownBitsMembers.{has, differs, in_lowest, apart, same, below, coarse, low-within, low-known, shared-first, shared-second}

pub nothing_holds : (z : ℤ) → agrees nothing z ≡ true
nothing_holds z = eq-eqb (bit_and (modulo z (2 ^ 32)) 0) 0 (and_mask (modulo z (2 ^ 32)) 0 ∙ omega arith)

pub number_holds : (n : ℤ) → agrees (number n) n ≡ true
number_holds n = in_lowest 32 n n (omega arith) (pos 0, omega (arith, ints))

-- ---- bit by bit
-- a bit that both know alike is that of a member of either
joined-first : (w k v l u : ℕ) → w < 2 → k < 2 → v < 2 → l < 2 → u < 2 → v ≡ min w k
    → min w ((min k l + min (min k l) ((v + u) % 2)) % 2) ≡ min v ((min k l + min (min k l) ((v + u) % 2)) % 2)
joined-first w k v l u a b c d e h = omega arith

joined-second : (w k v l u : ℕ) → w < 2 → k < 2 → v < 2 → l < 2 → u < 2 → u ≡ min w l
    → min w ((min k l + min (min k l) ((v + u) % 2)) % 2) ≡ min v ((min k l + min (min k l) ((v + u) % 2)) % 2)
joined-second w k v l u a b c d e h = omega arith

-- a bit of both numbers, by what is known of theirs
masked : (x y k v l u : ℕ) → x < 2 → y < 2 → k < 2 → v < 2 → l < 2 → u < 2 → v ≡ min x k → u ≡ min y l
    → min (min x y) (max (min k l) (max ((k + min k v) % 2) ((l + min l u) % 2))) ≡ min v u
masked x y k v l u a b c d e f g h = omega arith

without-bit : (m n i : ℕ) → bit_at (without m n) i ≡ (bit_at m i + min (bit_at m i) (bit_at n i)) % 2
without-bit m n i = bit_at_xor m (bit_and m n) i ∙ ap (λ x. (bit_at m i + x) % 2) (bit_at_and m n i)

alike-bit : (a b : Bits) (i : ℕ)
    → bit_at (alike a b) i ≡ (min (bit_at a.known i) (bit_at b.known i)
    + min (min (bit_at a.known i) (bit_at b.known i)) ((bit_at a.value i + bit_at b.value i) % 2)) % 2
alike-bit a b i =
    let n = bit_xor a.value b.value in
    let m = min (bit_at a.known i) (bit_at b.known i) in
    without-bit (bit_and a.known b.known) n i ∙ ap (λ x. (x + min x (bit_at n i)) % 2) (bit_at_and a.known b.known i)
    ∙ ap (λ x. (m + min m x) % 2) (bit_at_xor a.value b.value i)

-- a bit of the value is the number's, where it is known
value-bit : (w m v i : ℕ) → bit_and w m ≡ v → bit_at v i ≡ min (bit_at w i) (bit_at m i)
value-bit w m v i e = ap (λ n. bit_at n i) (sym e) ∙ bit_at_and w m i

-- two numbers have the same bits under a mask
under : (w v m i n : ℕ) → bit_at m i ≡ n → min (bit_at w i) n ≡ min (bit_at v i) n → bit_at (bit_and w m) i ≡ bit_at (bit_and v m) i
under w v m i n e h = bit_at_and w m i ∙ ap (min (bit_at w i)) e ∙ h ∙ ap (min (bit_at v i)) (sym e) ∙ sym (bit_at_and v m i)

pub joins : (a b : Bits) (z : ℤ) → (agrees a z ≡ true) ⊎ (agrees b z ≡ true) → agrees (join a b) z ≡ true
joins a b z (inl p) =
    let w = modulo z (2 ^ 32) in
    eq-eqb (bit_and w (alike a b)) (bit_and a.value (alike a b))
    (same_from_bits _ _ (λ i. under w a.value (alike a b) i _ (alike-bit a b i)
    (joined-first _ _ _ _ _ (bit_at-lt w i) (bit_at-lt a.known i) (bit_at-lt a.value i) (bit_at-lt b.known i)
    (bit_at-lt b.value i) (value-bit w a.known a.value i (has a z p)))))
joins a b z (inr p) =
    let w = modulo z (2 ^ 32) in
    eq-eqb (bit_and w (alike a b)) (bit_and a.value (alike a b))
    (same_from_bits _ _ (λ i. under w a.value (alike a b) i _ (alike-bit a b i)
    (joined-second _ _ _ _ _ (bit_at-lt w i) (bit_at-lt a.known i) (bit_at-lt a.value i) (bit_at-lt b.known i)
    (bit_at-lt b.value i) (value-bit w b.known b.value i (has b z p)))))

pub adds : (a b : Bits) (x y : ℤ) → agrees a x ≡ true → agrees b y ≡ true → agrees (add a b) (x +ℤ y) ≡ true
adds a b x y p q =
    let t = shared a b in
    let i = low-within (bit_and a.known b.known) in
    let u = differs a x t i (shared-first a b) p in
    let v = differs b y t i (shared-second a b) q in
    let e : (x -ℤ pos a.value) +ℤ (y -ℤ pos b.value) ≡ (x +ℤ y) -ℤ (pos a.value +ℤ pos b.value) = omega (arith, ints) in
    in_lowest t (pos a.value +ℤ pos b.value) (x +ℤ y) i (subst (Multiple (2 ^ t)) e (plus (2 ^ t) _ _ u v))

pub subtracts : (a b : Bits) (x y : ℤ) → agrees a x ≡ true → agrees b y ≡ true → agrees (subtract a b) (x -ℤ y) ≡ true
subtracts a b x y p q =
    let t = shared a b in
    let i = low-within (bit_and a.known b.known) in
    let u = differs a x t i (shared-first a b) p in
    let v = differs b y t i (shared-second a b) q in
    let e : (x -ℤ pos a.value) -ℤ (y -ℤ pos b.value) ≡ (x -ℤ y) -ℤ (pos a.value -ℤ pos b.value) = omega (arith, ints) in
    in_lowest t (pos a.value -ℤ pos b.value) (x -ℤ y) i (subst (Multiple (2 ^ t)) e (minus (2 ^ t) _ _ u v))

scaled : (x r k : ℤ) → k *ℤ (x -ℤ r) ≡ x *ℤ k -ℤ r *ℤ k
scaled x r k =
    let e : (x -ℤ r) +ℤ r ≡ x = omega (arith, ints) in
    let f : k *ℤ x ≡ k *ℤ (x -ℤ r) +ℤ k *ℤ r = subst (λ z. k *ℤ z ≡ k *ℤ (x -ℤ r) +ℤ k *ℤ r) e (mul-add k (x -ℤ r) r) in
    let c = mul_comm x k in
    let d = mul_comm r k in
    omega (arith, ints, f, c, d)

-- a product's distance from the values' product, by those of the factors
spread : (x y r s : ℤ) → y *ℤ (x -ℤ r) +ℤ r *ℤ (y -ℤ s) ≡ x *ℤ y -ℤ r *ℤ s
spread x y r s =
    let a = scaled x r y in
    let b = scaled y s r in
    let c = mul_comm r y in
    let d = mul_comm s r in
    omega (arith, ints, a, b, c, d)

pub multiplies : (a b : Bits) (x y : ℤ) → agrees a x ≡ true → agrees b y ≡ true → agrees (multiply a b) (x *ℤ y) ≡ true
multiplies a b x y p q =
    let t = shared a b in
    let r = pos a.value in let s = pos b.value in
    let i = low-within (bit_and a.known b.known) in
    let u = times (2 ^ t) (x -ℤ r) y (differs a x t i (shared-first a b) p) in
    let v = times (2 ^ t) (y -ℤ s) r (differs b y t i (shared-second a b) q) in
    in_lowest t (r *ℤ s) (x *ℤ y) i (subst (Multiple (2 ^ t)) (spread x y r s) (plus (2 ^ t) _ _ u v))

abbrev known_of_both : Bits → Bits → ℕ
known_of_both a b = bit_or (bit_and a.known b.known) (bit_or (zeros a) (zeros b))

both-bit : (a b : Bits) (i : ℕ)
    → bit_at (known_of_both a b) i ≡ max (min (bit_at a.known i) (bit_at b.known i))
    (max ((bit_at a.known i + min (bit_at a.known i) (bit_at a.value i)) % 2)
    ((bit_at b.known i + min (bit_at b.known i) (bit_at b.value i)) % 2))
both-bit a b i =
    let m = min (bit_at a.known i) (bit_at b.known i) in
    bit_at_or (bit_and a.known b.known) (bit_or (zeros a) (zeros b)) i
    ∙ ap (λ x. max x (bit_at (bit_or (zeros a) (zeros b)) i)) (bit_at_and a.known b.known i)
    ∙ ap (max m) (bit_at_or (zeros a) (zeros b) i ∙ ap (λ x. max x (bit_at (zeros b) i)) (without-bit a.known a.value i)
    ∙ ap (max ((bit_at a.known i + min (bit_at a.known i) (bit_at a.value i)) % 2)) (without-bit b.known b.value i))

pub both-under : (x y : ℕ) (a b : Bits) → bit_and x a.known ≡ a.value → bit_and y b.known ≡ b.value
    → bit_and (bit_and x y) (known_of_both a b) ≡ bit_and a.value b.value
both-under x y a b e f =
    same_from_bits _ _ (λ i. bit_at_and (bit_and x y) (known_of_both a b) i ∙ ap (λ u. min u (bit_at (known_of_both a b) i))
    (bit_at_and x y i) ∙ ap (min (min (bit_at x i) (bit_at y i))) (both-bit a b i)
    ∙ masked _ _ _ _ _ _ (bit_at-lt x i) (bit_at-lt y i) (bit_at-lt a.known i) (bit_at-lt a.value i) (bit_at-lt b.known i)
    (bit_at-lt b.value i) (value-bit x a.known a.value i e) (value-bit y b.known b.value i f)
    ∙ sym (bit_at_and a.value b.value i))

pub masks : (a b : Bits) (m n : ℕ) → agrees a (pos m) ≡ true → agrees b (pos n) ≡ true → agrees (mask a b) (pos (bit_and m n)) ≡ true
masks a b m n p q =
    eq-eqb (bit_and (bit_and m n % 2 ^ 32) (known_of_both a b)) (bit_and a.value b.value)
    (ap (λ w. bit_and w (known_of_both a b)) (and_mod m n 32)
    ∙ both-under (m % 2 ^ 32) (n % 2 ^ 32) a b (has a (pos m) p) (has b (pos n) q))

-- ---- shifts
pub shifted-under : (w k : ℕ) (a : Bits) → bit_and w a.known ≡ a.value
    → bit_and ((w * 2 ^ k) % 2 ^ 32) (shift_left a k).known ≡ (shift_left a k).value
shifted-under w k a e =
    let n = a.known * 2 ^ k + (2 ^ k - 1) in
    let z = pow_pos k in
    let f : w * 2 ^ k ≡ w * 2 ^ k + 0 = omega arith in
    let g : bit_and (w * 2 ^ k) n ≡ a.value * 2 ^ k = ap (λ u. bit_and u n) f
    ∙ and_block k w a.known 0 (2 ^ k - 1) z (omega arith) ∙ ap (λ u. u * 2 ^ k + 0) e ∙ omega arith in
    sym (and_mod (w * 2 ^ k) n 32) ∙ ap (λ u. u % 2 ^ 32) g

pub shifts_left : (a : Bits) (k : ℕ) (x : ℤ) → k < 32 → agrees a x ≡ true → agrees (shift_left a k) (x *ℤ pos (2 ^ k)) ≡ true
shifts_left a k x h p =
    let w = modulo x (2 ^ 32) in
    let d : Multiple (2 ^ 32) (x *ℤ pos (2 ^ k) -ℤ pos (w * 2 ^ k)) = subst (Multiple (2 ^ 32)) (scaled x (pos w) (pos (2 ^ k)))
    (times (2 ^ 32) (x -ℤ pos w) (pos (2 ^ k)) (apart x (2 ^ 32) (pow_pos 32))) in
    let e : modulo (x *ℤ pos (2 ^ k)) (2 ^ 32) ≡ (w * 2 ^ k) % 2 ^ 32 = same (x *ℤ pos (2 ^ k)) (pos (w * 2 ^ k)) (2 ^ 32) (pow_pos 32) d in
    eq-eqb (bit_and (modulo (x *ℤ pos (2 ^ k)) (2 ^ 32)) (shift_left a k).known) (shift_left a k).value
    (ap (λ u. bit_and u (shift_left a k).known) e ∙ shifted-under w k a (has a x p))

-- of an and with a number of j bits, the j lowest bits of the other are enough
narrow : (u c j : ℕ) → c < 2 ^ j → bit_and u c ≡ bit_and (u % 2 ^ j) c
narrow u c j h =
    let l = and_le_r u c in
    let b : bit_and u c < 2 ^ j = omega arith in
    sym (mod-eq_of_lt b) ∙ and_mod u c j ∙ ap (bit_and (u % 2 ^ j)) (mod-eq_of_lt h)

whole : (w m : ℕ) → w < 2 ^ 32 → bit_and w m ≡ bit_and w (m % 2 ^ 32)
whole w m h =
    let l = and_le_l w m in
    let b : bit_and w m < 2 ^ 32 = omega arith in
    sym (mod-eq_of_lt b) ∙ and_mod w m 32 ∙ ap (λ n. bit_and n (m % 2 ^ 32)) (mod-eq_of_lt h)

-- the quotients of a number and of its lowest 32 bits
quotients : (x : ℤ) (k : ℕ) → k < 32 → Multiple (2 ^ (32 - k)) (int_div_euclid x (pos (2 ^ k)) -ℤ pos (modulo x (2 ^ 32) / 2 ^ k))
quotients x k h =
    let w = modulo x (2 ^ 32) in
    let j = 32 - k in
    let s : j + k ≡ 32 = omega arith in
    let d = apart x (2 ^ 32) (pow_pos 32) in
    let e : pos (2 ^ 32) ≡ pos (2 ^ j) *ℤ pos (2 ^ k) = ap pos (ap (λ n. 2 ^ n) (sym s) ∙ pow-add 2 j k) in
    (d.0, floors x (pos w) (d.0 *ℤ pos (2 ^ j)) (2 ^ k) (pow_pos k) (d.1 ∙ ap (λ z. d.0 *ℤ z) e ∙ sym (mul_assoc d.0 (pos (2 ^ j)) (pos (2 ^ k)))))

pub shifts_right : (a : Bits) (k : ℕ) (x : ℤ) → k < 32 → agrees a x ≡ true
    → agrees (shift_right a k) (int_div_euclid x (pos (2 ^ k))) ≡ true
shifts_right a k x h p =
    let w = modulo x (2 ^ 32) in
    let q = int_div_euclid x (pos (2 ^ k)) in
    let j = 32 - k in
    let c = a.known % 2 ^ 32 / 2 ^ k in
    let s : j + k ≡ 32 = omega arith in
    let wide : 2 ^ 32 ≡ 2 ^ (j + k) = ap (λ n. 2 ^ n) (sym s) in
    let b : w < 2 ^ 32 = below x (2 ^ 32) (pow_pos 32) in
    let small : c < 2 ^ j = shr_below (a.known % 2 ^ 32) j k
    (subst (λ n. a.known % 2 ^ 32 < n) wide (mod_below a.known (2 ^ 32) (pow_pos 32))) in
    let short : w / 2 ^ k < 2 ^ j = shr_below w j k (subst (λ n. w < n) wide b) in
    let e : modulo q (2 ^ 32) % 2 ^ j ≡ w / 2 ^ k = coarse q j (omega arith)
    ∙ same q (pos (w / 2 ^ k)) (2 ^ j) (pow_pos j) (quotients x k h) ∙ mod-eq_of_lt short in
    eq-eqb (bit_and (modulo q (2 ^ 32)) c) (a.value / 2 ^ k)
    (narrow (modulo q (2 ^ 32)) c j small ∙ ap (λ u. bit_and u c) e ∙ sym (and_shr w (a.known % 2 ^ 32) k)
    ∙ ap (λ u. u / 2 ^ k) (sym (whole w a.known b) ∙ has a x p))

pub left : (a : Bits) (x : ℤ) → agrees a x ≡ true → leaves (residue a) x ≡ true
left a x p =
    let t = low a.known in
    let v = pos a.value in
    let u = differs a x t (low-within a.known) (low-known a.known) p in
    let e : (x -ℤ v) +ℤ (v -ℤ pos (a.value % 2 ^ t)) ≡ x -ℤ pos (a.value % 2 ^ t) = omega (arith, ints) in
    to-test (2 ^ t) (x -ℤ pos (a.value % 2 ^ t)) (subst (Multiple (2 ^ t)) e (plus (2 ^ t) _ _ u (apart v (2 ^ t) (pow_pos t))))
