-- Writing the entries of stretches, one stretch after another.
use Rattle.std.proofs.Common.{◌≡◌, ◌<◌, ◌≤◌, ◌+◌, ◌-◌, ℕ, zero, suc, List, [], ◌∷◌, ◌++◌, Bool, true, false, refl, sym, ap, ◌∙◌, arith, nat_lt, length, map, min, get_or, set-set}
use Rattle.std.specs.Prelude.{ℤ, slice_index_or, slice_set, Vec}
use Rattle.std.specs.declared.alloc.Global.{Global}
use Rattle.std.proofs.lemmas.Bool.Decides.{nat_tests}
use Rattle.std.proofs.lemmas.List.{map-set, get_or-map, get_or-set_same, set-get_or, length-set, set_past}
use Rattle.words.specs.View.{value_of}
use Rattle.words.specs.declared.word.Word.{Word}
use Rattle.launch.specs.View.{buffer}
use Rattle.write_log.specs.Elements.{Entry, AreApart, border, entry_at, entry_of, first_entries, nowhere, read_word}
use Rattle.write_log.specs.Written.{put_all, put_bits, put_word}
use Rattle.write_log.specs.declared.stretch.Stretch.{Stretch}
use Rattle.write_log.proofs.Stretches.{border-is, from_place, in-stretch}

pub length-put_bits : (s : Stretch) (bits : List ℕ) (n : ℕ) (row : List ℤ) → length (put_bits s bits n row) ≡ length row
length-put_bits s bits zero row = refl
length-put_bits s bits (suc n) row = length-set (put_bits s bits n row) (s.first + n) _ ∙ length-put_bits s bits n row

-- past the end of a buffer nothing changes
put_bits-past : (s : Stretch) (bits : List ℕ) (m n : ℕ) (row : List ℤ) → m ≤ n → length row ≤ s.first + m → put_bits s bits n row ≡ put_bits s bits m row
put_bits-past s bits m zero row l past = let none : 0 ≡ m = omega (arith, l) in ap (λ k. put_bits s bits k row) none
put_bits-past s bits m (suc n) row l past = by (put_bits-past s bits m n row) (nat_lt n m) refl
  where
    by : (m ≤ n → length row ≤ s.first + m → put_bits s bits n row ≡ put_bits s bits m row) → (t : Bool) → nat_lt n m ≡ t → put_bits s bits (suc n) row ≡ put_bits s bits m row
    by rest true e = let all : suc n ≡ m = grind (arith, nat_tests) in ap (λ k. put_bits s bits k row) all
    by rest false e =
        let within : m ≤ n = grind (arith, nat_tests) in
        let count = length-put_bits s bits n row in
        set_past (put_bits s bits n row) (s.first + n) _ (omega (arith, count, within, past)) ∙ rest within past

-- a loop that stops there has written all
pub put_bits-rest : (s : Stretch) (bits : List ℕ) (m n k : ℕ) (row : List ℤ) → m ≤ n → min k n ≤ m → length row ≤ s.first + k → put_bits s bits n row ≡ put_bits s bits m row
put_bits-rest s bits m n k row l stop inside = by (nat_lt m n) refl
  where
    by : (t : Bool) → nat_lt m n ≡ t → put_bits s bits n row ≡ put_bits s bits m row
    by true e =
        let less : m < n = grind (arith, nat_tests) in
        put_bits-past s bits m n row l (omega (arith, less, stop, inside))
    by false e = let all : n ≡ m = grind (arith, nat_tests) in ap (λ j. put_bits s bits j row) all

put_all-snoc : (es : List Entry) (e : Entry) (bs : List (List ℤ)) → put_all (es ++ e ∷ []) bs ≡ put_word (put_all es bs) e.0.0 e.0.1 (value_of e.1)
put_all-snoc [] e bs = refl
put_all-snoc (f ∷ es) e bs = put_all-snoc es e (put_word bs f.0.0 f.0.1 (value_of f.1))

-- the entries of a stretch, after those before it
module _ (ts : List Stretch) (bits : List ℕ) (h : AreApart ts (length bits)) (number : ℕ) (l : number < length ts) (t : Stretch) (is : t ≡ get_or ts number t) (bs : List (List ℤ)) where
  abbrev end : ℕ
  end = border ts (length bits) (number + 1)

  abbrev so_far : ℕ → List (List ℤ)
  so_far n = put_all (first_entries ts bits n) bs

  starts : border ts (length bits) number ≡ t.start
  starts = border-is ts (length bits) number nowhere l ∙ ap (λ (u : Stretch). u.start) (from_place ts number nowhere t l is)

  entry : (m : ℕ) → t.start + m < border ts (length bits) (number + 1) → entry_at ts bits (t.start + m) ≡ ((t.buffer, t.first + m), read_word t.kind (get_or bits (t.start + m) 0))
  entry m to =
      let index : t.first + (t.start + m - t.start) ≡ t.first + m = omega arith in
      ap (λ (u : Stretch). entry_of u (t.start + m) (get_or bits (t.start + m) 0)) (in-stretch ts bits h number l t is (t.start + m) (omega arith) to)
      ∙ ap (λ i. ((t.buffer, i), read_word t.kind (get_or bits (t.start + m) 0))) index

  one_more : (m : ℕ) → t.start + m < border ts (length bits) (number + 1) → so_far (t.start + suc m) ≡ put_word (so_far (t.start + m)) t.buffer (t.first + m) (value_of (read_word t.kind (get_or bits (t.start + m) 0)))
  one_more m to =
      let next : t.start + suc m ≡ suc (t.start + m) = omega arith in
      ap so_far next ∙ put_all-snoc (first_entries ts bits (t.start + m)) (entry_at ts bits (t.start + m)) bs ∙ ap (λ (e : Entry). put_word (so_far (t.start + m)) e.0.0 e.0.1 (value_of e.1)) (entry m to)

  -- its buffer is there
  inside : (old : List (List ℤ)) → old ≡ so_far t.start → t.buffer < length old → (m : ℕ) → t.start + m ≤ border ts (length bits) (number + 1) → so_far (t.start + m) ≡ slice_set old t.buffer (put_bits t bits m (slice_index_or old t.buffer []))
  inside old e there zero to =
      let here : t.start + 0 ≡ t.start = omega arith in
      ap so_far here ∙ sym e ∙ sym (set-get_or old t.buffer [])
  inside old e there (suc m) to =
      let row = put_bits t bits m (slice_index_or old t.buffer []) in
      let z = value_of (read_word t.kind (get_or bits (t.start + m) 0)) in
      one_more m (omega (arith, to))
      ∙ ap (λ x. put_word x t.buffer (t.first + m) z) (inside old e there m (omega (arith, to)))
      ∙ ap (λ r. slice_set (slice_set old t.buffer row) t.buffer (slice_set r (t.first + m) z)) (get_or-set_same old t.buffer row [] there)
      ∙ set-set old t.buffer row (slice_set row (t.first + m) z)

  -- or not
  outside : (old : List (List ℤ)) → old ≡ so_far t.start → length old ≤ t.buffer → (m : ℕ) → t.start + m ≤ border ts (length bits) (number + 1) → so_far (t.start + m) ≡ old
  outside old e past zero to =
      let here : t.start + 0 ≡ t.start = omega arith in
      ap so_far here ∙ sym e
  outside old e past (suc m) to =
      one_more m (omega (arith, to))
      ∙ ap (λ x. put_word x t.buffer (t.first + m) (value_of (read_word t.kind (get_or bits (t.start + m) 0)))) (outside old e past m (omega (arith, to)))
      ∙ set_past old t.buffer _ past

  to_end : t.start + (border ts (length bits) (number + 1) - t.start) ≡ border ts (length bits) (number + 1)
  to_end = let up = h number l in omega (arith, up, starts)

  pub written-inside : (old new : List (List ℤ)) → old ≡ put_all (first_entries ts bits (border ts (length bits) number)) bs → t.buffer < length old
      → new ≡ slice_set old t.buffer (put_bits t bits (border ts (length bits) (number + 1) - t.start) (slice_index_or old t.buffer []))
      → new ≡ put_all (first_entries ts bits (border ts (length bits) (number + 1))) bs
  written-inside old new e there is_new =
      is_new
      ∙ sym (inside old (e ∙ ap so_far starts) there (border ts (length bits) (number + 1) - t.start) (omega (arith, to_end)))
      ∙ ap so_far to_end

  pub written-outside : (old : List (List ℤ)) → old ≡ put_all (first_entries ts bits (border ts (length bits) number)) bs → length old ≤ t.buffer → old ≡ put_all (first_entries ts bits (border ts (length bits) (number + 1))) bs
  written-outside old e past = sym (outside old (e ∙ ap so_far starts) past (border ts (length bits) (number + 1) - t.start) (omega (arith, to_end))) ∙ ap so_far to_end

-- a buffer of the code that got new words
pub row-is : (vs : List (Vec Word Global)) (b : ℕ) (v w : Vec Word Global) (row : List ℤ → List ℤ) → b < length vs → v ≡ slice_index_or vs b v → buffer w ≡ row (buffer v) → map buffer (slice_set vs b w) ≡ slice_set (map buffer vs) b (row (slice_index_or (map buffer vs) b []))
row-is vs b v w row l h e =
    map-set buffer vs b w
    ∙ ap (slice_set (map buffer vs) b) (e ∙ ap row (sym (get_or-map buffer vs b v [] l ∙ ap buffer (sym h))))
