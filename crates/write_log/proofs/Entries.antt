-- Entries of a log, and what writing them does.
use Rattle.std.proofs.Common.{◌≡◌, ◌<◌, ℕ, List, [], ◌∷◌, Bool, true, false, ◌&&◌, cond, refl, sym, ap, ◌∙◌, subst, arith, nat_eq, nat_lt, length, map, ltb-true, ◌≤◌, ◌≢◌}
use Rattle.std.specs.Prelude.{ℤ, pos, Option, Some, None, slice_index_or, slice_set}
use Rattle.std.proofs.lemmas.Bool.Decides.{nat_tests}
use Rattle.std.proofs.lemmas.Cmp.{nat_cmp_total}
use Rattle.std.proofs.Math.Seq.{map-set_same}
use Rattle.std.proofs.Math.ListN as lists
use Rattle.std.proofs.lemmas.Bool.{and_parts}
use Rattle.std.proofs.lemmas.Map.{lookup-none}
use Rattle.std.proofs.lemmas.Map.Entries.{none_past_head}
use Rattle.std.proofs.lemmas.Cmp.{then_total, on_total, eq_by_cmp_equiv}
use Rattle.std.proofs.lemmas.List.{map-set, get_or-map, get_or-set_same, get_or-set_other, length-set, set_past, get_or_past}
use Rattle.std.specs.Prelude.{Vec}
use Rattle.std.specs.Vec.{with_item}
use Rattle.std.specs.declared.alloc.Global.{Global}
use Rattle.std.specs.declared.cmp.Ordering.{Ordering}
use Rattle.std.specs.declared.cmp.Ordering.TheVariants.{Less, Equal, Greater}
use Rattle.std.specs.Ordering.{nat_cmp, ordering_then, is_eq, eq_by_cmp}
use Rattle.std.specs.Option.{option_map}
use Rattle.std.specs.Map.{lookup, keys_of}
use Rattle.std.specs.List.{IsDistinct}
use Rattle.std.specs.Cmp.{IsTotalOrder}
use Rattle.std.specs.BTreeMap.{is_at}
use Rattle.semantics.specs.Rounds.{logged}
use Rattle.words.specs.View.{value_of}
use Rattle.words.specs.declared.word.Word.{Word}
use Rattle.launch.specs.View.{buffer}
use Rattle.write_log.specs.Written.{Entry, by_element, found, element, put_word, put_all}

same-number : (x y : ℕ) → is_eq (nat_cmp x y) ≡ nat_eq y x
same-number x y = by (nat_lt x y) (nat_eq x y) refl refl
  where
    by : (l e : Bool) → nat_lt x y ≡ l → nat_eq x y ≡ e → is_eq (cond l Less (cond e Equal Greater)) ≡ nat_eq y x
    by true e p q = grind (arith, nat_tests)
    by false true p q = grind (arith, nat_tests)
    by false false p q = grind (arith, nat_tests)

turned : (x y : ℕ) → nat_eq x y ≡ nat_eq y x
turned x y = by (nat_eq x y) refl
  where
    by : (t : Bool) → nat_eq x y ≡ t → t ≡ nat_eq y x
    by true q = grind (arith, nat_tests)
    by false q = grind (arith, nat_tests)

both : (o p : Ordering) → is_eq (ordering_then o p) ≡ (is_eq o && is_eq p)
both Less p = refl
both Equal p = refl
both Greater p = refl

-- two elements are one where their buffers and their indices are
pub same-element : (b i c j : ℕ) → is_at (by_element (b, i)) (c, j) ≡ (nat_eq c b && nat_eq j i)
same-element b i c j = both (nat_cmp b c) (nat_cmp i j) ∙ rw (same-number b c, same-number i j) refl

pub value-cond : (b : Bool) (w : Word) (o : Option Word) → option_map value_of (cond b (Some w) o) ≡ cond b (Some (value_of w)) (option_map value_of o)
value-cond true w o = refl
value-cond false w o = refl

-- a word put into one of the code's buffers
pub put-is : (vs : List (Vec Word Global)) (b i : ℕ) (v : Vec Word Global) (w : Word) → b < length vs → v ≡ slice_index_or vs b v → map buffer (slice_set vs b (with_item v i w)) ≡ put_word (map buffer vs) b i (value_of w)
put-is vs b i v w l h =
    map-set buffer vs b (with_item v i w)
    ∙ ap (λ x. slice_set (map buffer vs) b x) (map-set value_of v.items i w ∙ ap (λ y. slice_set y i (value_of w)) (sym (get_or-map buffer vs b v [] l ∙ ap buffer (sym h))))

-- a number put at an element of the buffers
module _ (bs : List (List ℤ)) (b i : ℕ) (z : ℤ) where
  abbrev row : ℕ → List ℤ
  row c = slice_index_or (put_word bs b i z) c []

  row_same : b < length bs → row b ≡ slice_set (slice_index_or bs b []) i z
  row_same l = get_or-set_same bs b _ [] l

  row_other : (c : ℕ) → nat_eq c b ≡ false → row c ≡ slice_index_or bs c []
  row_other c h = get_or-set_other bs b c _ [] (grind (arith, nat_tests))

  -- past its end
  row_past : (c : ℕ) → length bs ≤ b → row c ≡ slice_index_or bs c []
  row_past c l = ap (λ x. slice_index_or x c []) (set_past bs b _ l)

  pub put-here : i < length (slice_index_or bs b []) → element (put_word bs b i z) b i ≡ z
  put-here l = by (nat_lt b (length bs)) refl
    where
      by : (t : Bool) → nat_lt b (length bs) ≡ t → element (put_word bs b i z) b i ≡ z
      by true e = ap (λ x. slice_index_or x i (pos 0)) (row_same (ltb-true b (length bs) e)) ∙ get_or-set_same (slice_index_or bs b []) i z (pos 0) l
      by false e = absurd (let n = get_or_past bs b [] (grind (arith, nat_tests)) in let k : i < length {A = ℤ} [] = subst (λ x. i < length x) n l in omega (arith, k))

  pub put-elsewhere : (c j : ℕ) → (nat_eq c b && nat_eq j i) ≡ false → element (put_word bs b i z) c j ≡ element bs c j
  put-elsewhere c j h = by (nat_eq c b) refl (nat_lt b (length bs)) refl
    where
      by : (e : Bool) → nat_eq c b ≡ e → (t : Bool) → nat_lt b (length bs) ≡ t → element (put_word bs b i z) c j ≡ element bs c j
      by false e t q = ap (λ x. slice_index_or x j (pos 0)) (row_other c e)
      by true e false q = ap (λ x. slice_index_or x j (pos 0)) (row_past c (grind (arith, nat_tests)))
      by true e true q =
          let same : c ≡ b = grind (arith, nat_tests) in
          let other : j ≢ i = grind (arith, nat_tests) in
          rw same (ap (λ x. slice_index_or x j (pos 0)) (row_same (ltb-true b (length bs) q)) ∙ get_or-set_other (slice_index_or bs b []) i j z (pos 0) other)

  pub put-lengths : map length (put_word bs b i z) ≡ map length bs
  put-lengths = map-set_same length bs b _ [] (length-set (slice_index_or bs b []) i z)

-- the lengths of the buffers stay
pub all-lengths : (es : List Entry) (bs : List (List ℤ)) → map length (put_all es bs) ≡ map length bs
all-lengths [] bs = refl
all-lengths (e ∷ es) bs = all-lengths es (put_word bs e.0.0 e.0.1 (value_of e.1)) ∙ put-lengths bs e.0.0 e.0.1 (value_of e.1)

-- what no entry has stays
pub all-elsewhere : (es : List Entry) (bs : List (List ℤ)) (c j : ℕ) → lookup (is_at (by_element (c, j))) es ≡ None → element (put_all es bs) c j ≡ element bs c j
all-elsewhere [] bs c j h = refl
all-elsewhere (e ∷ es) bs c j h = by (is_at (by_element (c, j)) e.0) refl h (all-elsewhere es (put_word bs e.0.0 e.0.1 (value_of e.1)) c j)
  where
    by : (t : Bool) → is_at (by_element (c, j)) e.0 ≡ t → cond t (Some e.1) (lookup (is_at (by_element (c, j))) es) ≡ None → (lookup (is_at (by_element (c, j))) es ≡ None → element (put_all es (put_word bs e.0.0 e.0.1 (value_of e.1))) c j ≡ element (put_word bs e.0.0 e.0.1 (value_of e.1)) c j) → element (put_all es (put_word bs e.0.0 e.0.1 (value_of e.1))) c j ≡ element bs c j
    by true q n r = cc
    by false q n r = r n ∙ put-elsewhere bs e.0.0 e.0.1 (value_of e.1) c j (apart (sym (same-element c j e.0.0 e.0.1) ∙ q))
      where
        apart : (nat_eq e.0.0 c && nat_eq e.0.1 j) ≡ false → (nat_eq c e.0.0 && nat_eq j e.0.1) ≡ false
        apart a = rw (turned c e.0.0, turned j e.0.1) a

pub order : IsTotalOrder by_element
order = then_total (on_total (λ p. p.0) nat_cmp_total) (on_total (λ p. p.1) nat_cmp_total)

pub row-length : (bs : List (List ℤ)) (b : ℕ) → length (slice_index_or bs b []) ≡ slice_index_or (map length bs) b 0
row-length bs b = sym (lists.get_or-map length bs b [])

-- after all, an element has what an entry has of it, or what it had
pub all-elements : (es : List Entry) (bs : List (List ℤ)) (b i : ℕ) → IsDistinct (eq_by_cmp by_element) (keys_of es) → i < length (slice_index_or bs b []) → element (put_all es bs) b i ≡ logged (found es b i) (element bs b i)
unfolding IsDistinct
all-elements [] bs b i h l = refl
all-elements (e ∷ es) bs b i h l =
    let more = put_word bs e.0.0 e.0.1 (value_of e.1) in
    by (is_at (by_element (b, i)) e.0) refl (all-elements es more b i h.1 (subst (λ n. i < n) (row-length bs b ∙ ap (λ x. slice_index_or x b 0) (sym (put-lengths bs e.0.0 e.0.1 (value_of e.1))) ∙ sym (row-length more b)) l))
  where
    by : (t : Bool) → is_at (by_element (b, i)) e.0 ≡ t → element (put_all es (put_word bs e.0.0 e.0.1 (value_of e.1))) b i ≡ logged (found es b i) (element (put_word bs e.0.0 e.0.1 (value_of e.1)) b i) → element (put_all es (put_word bs e.0.0 e.0.1 (value_of e.1))) b i ≡ logged (option_map value_of (cond t (Some e.1) (lookup (is_at (by_element (b, i))) es))) (element bs b i)
    by true q r =
        let parts = and_parts (nat_eq e.0.0 b) (nat_eq e.0.1 i) (sym (same-element b i e.0.0 e.0.1) ∙ q) in
        let eb : e.0.0 ≡ b = grind (arith, nat_tests) in
        let ei : e.0.1 ≡ i = grind (arith, nat_tests) in
        all-elsewhere es (put_word bs e.0.0 e.0.1 (value_of e.1)) b i (lookup-none (is_at (by_element (b, i))) es (none_past_head (eq_by_cmp_equiv order) (b, i) e es h q))
        ∙ rw (eb, ei) (put-here bs b i (value_of e.1) l)
    by false q r = r ∙ ap (logged (found es b i)) (put-elsewhere bs e.0.0 e.0.1 (value_of e.1) b i (rw (turned b e.0.0, turned i e.0.1) (sym (same-element b i e.0.0 e.0.1) ∙ q)))
