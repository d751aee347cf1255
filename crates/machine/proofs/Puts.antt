-- Elements written.
use Rattle.std.proofs.Common.{◌≡◌, ◌≢◌, ◌<◌, ◌≤◌, ◌+◌, ℕ, zero, suc, List, [], Bool, true, false, ◌&&◌, cond, refl, ap, ◌∙◌, subst, arith, nat_eq, nat_lt, length, map, slice_set, ltb-true}
use Rattle.std.specs.Prelude.{ℤ, slice_index_or}
use Rattle.std.proofs.lemmas.Bool.Decides.{nat_tests}
use Rattle.std.proofs.lemmas.List.{get_or-set_same, get_or-set_other, length-set, set_past, get_or_past}
use Rattle.std.proofs.Math.Seq.{map-set_same}
use Rattle.write_log.specs.Written.{put_word}
use Rattle.std.proofs.Math.Path.{fun_ext}
use Rattle.semantics.specs.Memory.{Cell, put}
use Rattle.machine.specs.Memories.{element_or, arrays_in, past_of}

-- a number put at an element
module _ (bs : List (List ℤ)) (b i : ℕ) (z d : ℤ) where
  abbrev row : ℕ → List ℤ
  row c = slice_index_or (put_word bs b i z) c []

  row_same : b < length bs → row b ≡ slice_set (slice_index_or bs b []) i z
  row_same l = get_or-set_same bs b _ [] l

  row_other : (c : ℕ) → nat_eq c b ≡ false → row c ≡ slice_index_or bs c []
  row_other c h = get_or-set_other bs b c _ [] (grind (arith, nat_tests))

  row_past : (c : ℕ) → length bs ≤ b → row c ≡ slice_index_or bs c []
  row_past c l = ap (λ x. slice_index_or x c []) (set_past bs b _ l)

  put-here : i < length (slice_index_or bs b []) → element_or (put_word bs b i z) b i d ≡ z
  put-here l = by (nat_lt b (length bs)) refl
    where
      by : (t : Bool) → nat_lt b (length bs) ≡ t → element_or (put_word bs b i z) b i d ≡ z
      by true e = ap (λ x. slice_index_or x i d) (row_same (ltb-true b (length bs) e)) ∙ get_or-set_same (slice_index_or bs b []) i z d l
      by false e = absurd (let n = get_or_past bs b [] (grind (arith, nat_tests)) in let k : i < length {A = ℤ} [] = subst (λ x. i < length x) n l in omega (arith, k))

  put-elsewhere : (c j : ℕ) → (nat_eq c b && nat_eq j i) ≡ false → element_or (put_word bs b i z) c j d ≡ element_or bs c j d
  put-elsewhere c j h = by (nat_eq c b) refl (nat_lt b (length bs)) refl
    where
      by : (e : Bool) → nat_eq c b ≡ e → (t : Bool) → nat_lt b (length bs) ≡ t → element_or (put_word bs b i z) c j d ≡ element_or bs c j d
      by false e t q = ap (λ x. slice_index_or x j d) (row_other c e)
      by true e false q = ap (λ x. slice_index_or x j d) (row_past c (grind (arith, nat_tests)))
      by true e true q =
          let same : c ≡ b = grind (arith, nat_tests) in
          let other : j ≢ i = grind (arith, nat_tests) in
          rw same (ap (λ x. slice_index_or x j d) (row_same (ltb-true b (length bs) q)) ∙ get_or-set_other (slice_index_or bs b []) i j z d other)

  pub put-at : (c j : ℕ) → i < length (slice_index_or bs b []) → element_or (put_word bs b i z) c j d ≡ cond (nat_eq c b && nat_eq j i) z (element_or bs c j d)
  put-at c j l = by (nat_eq c b) refl (nat_eq j i) refl
    where
      by : (e : Bool) → nat_eq c b ≡ e → (t : Bool) → nat_eq j i ≡ t → element_or (put_word bs b i z) c j d ≡ cond (e && t) z (element_or bs c j d)
      by true e true q =
          let x : c ≡ b = grind (arith, nat_tests) in
          let y : j ≡ i = grind (arith, nat_tests) in
          rw (x, y) (put-here l)
      by true e false q = put-elsewhere c j (rw (e, q) refl)
      by false e t q = put-elsewhere c j (rw e refl)

  pub put-lengths : map length (put_word bs b i z) ≡ map length bs
  put-lengths = map-set_same length bs b _ [] (length-set (slice_index_or bs b []) i z)

-- one element of one owner's arrays written
pub written : (old new : ℕ → List (List ℤ)) (past : ℕ → ℤ) (c : Cell) (v : ℤ) → new c.owner ≡ put_word (old c.owner) c.array c.index v → ((o : ℕ) → nat_eq o c.owner ≡ false → new o ≡ old o)
    → c.index < length (slice_index_or (old c.owner) c.array [])
    → (λ (d : Cell). element_or (new d.owner) d.array d.index (past d.owner)) ≡ put c v (λ d. element_or (old d.owner) d.array d.index (past d.owner))
unfolding put
written old new past c v here others l = fun_ext (λ d. at d (nat_eq d.owner c.owner) refl)
  where
    at : (d : Cell) (e : Bool) → nat_eq d.owner c.owner ≡ e → element_or (new d.owner) d.array d.index (past d.owner) ≡ cond (e && (nat_eq d.array c.array && nat_eq d.index c.index)) v (element_or (old d.owner) d.array d.index (past d.owner))
    at d true e =
        let same : d.owner ≡ c.owner = grind (arith, nat_tests) in
        rw (same, here) (put-at (old c.owner) c.array c.index v (past c.owner) d.array d.index l)
    at d false e = ap (λ rows. element_or rows d.array d.index (past d.owner)) (others d.owner e)

-- the launch's buffers
pub written_buffers : (old new : List (List ℤ)) (groups : List (List (List ℤ))) (fill : ℕ) (c : Cell) (v : ℤ) → c.owner ≡ 0 → new ≡ put_word old c.array c.index v → c.index < length (slice_index_or (arrays_in old groups c.owner) c.array [])
    → (λ (d : Cell). element_or (arrays_in new groups d.owner) d.array d.index (past_of fill d.owner)) ≡ put c v (λ d. element_or (arrays_in old groups d.owner) d.array d.index (past_of fill d.owner))
written_buffers old new groups fill c v z h l =
    written (arrays_in old groups) (arrays_in new groups) (past_of fill) c v (rw z h) (λ o ne. other o (rw (← z) ne)) l
  where
    other : (o : ℕ) → nat_eq o 0 ≡ false → arrays_in new groups o ≡ arrays_in old groups o
    other zero ne = absurd (grind (arith, nat_tests))
    other (suc g) ne = refl

-- a group's arrays
pub written_group : (buffers : List (List ℤ)) (old : List (List (List ℤ))) (g : ℕ) (new : List (List ℤ)) (fill : ℕ) (c : Cell) (v : ℤ) → c.owner ≡ suc g → g < length old → new ≡ put_word (slice_index_or old g []) c.array c.index v → c.index < length (slice_index_or (arrays_in buffers old c.owner) c.array [])
    → (λ (d : Cell). element_or (arrays_in buffers (slice_set old g new) d.owner) d.array d.index (past_of fill d.owner)) ≡ put c v (λ d. element_or (arrays_in buffers old d.owner) d.array d.index (past_of fill d.owner))
written_group buffers old g new fill c v z k h l =
    written (arrays_in buffers old) (arrays_in buffers (slice_set old g new)) (past_of fill) c v (rw z (get_or-set_same old g new [] k ∙ h)) (λ o ne. other o (rw (← z) ne)) l
  where
    other : (o : ℕ) → nat_eq o (suc g) ≡ false → arrays_in buffers (slice_set old g new) o ≡ arrays_in buffers old o
    other zero ne = refl
    other (suc p) ne = get_or-set_other old g p new [] (grind (arith, nat_tests))

pub one_more : (g : ℕ) → 1 + g ≡ suc g
one_more g = omega arith
