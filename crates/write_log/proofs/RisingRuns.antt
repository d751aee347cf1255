-- Runs of entries: sorted where the first one is above all before, and what they have of each element.
use Rattle.std.proofs.Common.{◌≡◌, ◌+◌, ◌-◌, ℕ, zero, suc, List, [], ◌∷◌, ◌++◌, true, false, ◌&&◌, cond, refl, sym, ap, ◌∙◌, subst, arith, nat_eq, nat_lt, length, get_or, length-append, append_assoc}
use Rattle.std.specs.Prelude.{Some}
use Rattle.std.specs.List.Sorted.{IsStrictlySortedBy}
use Rattle.std.specs.Map.{keys_of}
use Rattle.std.specs.declared.cmp.Ordering.TheVariants.{Less}
use Rattle.std.proofs.Math.Seq.{get_or-append_seam}
use Rattle.std.proofs.lemmas.Bool.Decides.{nat_tests}
use Rattle.std.proofs.lemmas.List.{map-append, append-nil}
use Rattle.words.specs.View.{value_of}
use Rattle.words.specs.declared.word.Word.{Word}
use Rattle.write_log.specs.Elements.{Entry, by_element, found, word_at, run, noted}
use Rattle.write_log.proofs.RisingEntries.{found-pushed, rises-more}

-- the keys of one entry more
keys_next : (es : List Entry) (e : Entry) → keys_of (es ++ e ∷ []) ≡ keys_of es ++ e.0 ∷ []
keys_next es e = map-append (λ (x : Entry). x.0) es (e ∷ [])

-- the last one
abbrev last_of : List Entry → ℕ × ℕ
last_of es = get_or (keys_of es) (length (keys_of es) - 1) (0, 0)

last_next : (es : List Entry) (e : Entry) → last_of (es ++ e ∷ []) ≡ e.0
last_next es e =
    ap (λ ks. get_or ks (length ks - 1) (0, 0)) (keys_next es e)
    ∙ ap (λ n. get_or (keys_of es ++ e.0 ∷ []) n (0, 0)) (count (keys_of es) e.0)
    ∙ get_or-append_seam (keys_of es) e.0 [] (0, 0)
  where
    count : (ks : List (ℕ × ℕ)) (k : ℕ × ℕ) → length (ks ++ k ∷ []) - 1 ≡ length ks
    count ks k = omega (arith, length-append ks (k ∷ []))

above : (b i : ℕ) → by_element (b, i) (b, i + 1) ≡ Less
above b i =
    let p : nat_lt b b ≡ false = grind (arith, nat_tests) in
    let q : nat_eq b b ≡ true = grind (arith, nat_tests) in
    let r : nat_lt i (i + 1) ≡ true = grind (arith, nat_tests) in
    rw (p, q, r) refl

-- a run whose first entry is above all others
module _ (es : List Entry) (b i : ℕ) (ws : List Word) (s : IsStrictlySortedBy by_element (keys_of es)) (t : IsStrictlySortedBy by_element (keys_of es ++ (b, i) ∷ [])) where
  abbrev all : ℕ → List Entry
  all n = es ++ run b i ws n

  all_next : (n : ℕ) → all (suc n) ≡ all n ++ ((b, i + n), word_at ws n) ∷ []
  all_next n = sym (append_assoc es (run b i ws n) (((b, i + n), word_at ws n) ∷ []))

  -- so many entries rise, and so do they with one more
  rises : (n : ℕ) → IsStrictlySortedBy by_element (keys_of (all n)) × IsStrictlySortedBy by_element (keys_of (all n) ++ (b, i + n) ∷ [])
  rises zero =
      let here : i + 0 ≡ i = omega arith in
      (rw (append-nil es) s, rw (append-nil es, here) t)
  rises (suc n) =
      let so_far = rises n in
      let one_more = subst (λ ks. IsStrictlySortedBy by_element ks) (sym (ap keys_of (all_next n) ∙ keys_next (all n) ((b, i + n), word_at ws n))) so_far.1 in
      let next : i + suc n ≡ (i + n) + 1 = omega arith in
      (one_more, rises-more (keys_of (all (suc n))) (b, i + n) (b, i + suc n) one_more (ap last_of (all_next n) ∙ last_next (all n) ((b, i + n), word_at ws n)) (ap (λ m. by_element (b, i + n) (b, m)) next ∙ above b (i + n)))

  pub run_rises : (n : ℕ) → IsStrictlySortedBy by_element (keys_of (es ++ run b i ws n))
  run_rises n = (rises n).0

  -- and with the next element
  pub run_next : (n : ℕ) → IsStrictlySortedBy by_element (keys_of (es ++ run b i ws n) ++ (b, i + n) ∷ [])
  run_next n = (rises n).1

  pub run_found : (n c j : ℕ) → found (es ++ run b i ws n) c j ≡ noted b i ws n c j (found es c j)
  run_found zero c j = ap (λ fs. found fs c j) (append-nil es)
  run_found (suc n) c j =
      found-pushed (all n) (all (suc n)) (b, i + n) (word_at ws n) (rises n).0 (rises n).1 (all_next n) c j
      ∙ ap (λ o. cond (nat_eq c b && nat_eq j (i + n)) (Some (value_of (word_at ws n))) o) (run_found n c j)
