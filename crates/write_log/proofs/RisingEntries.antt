-- Lists of entries in rising order: one more at the end, a map of them, and what a search by halves finds.
use Rattle.std.proofs.Common.{◌≡◌, ◌<◌, ◌≤◌, ◌+◌, ◌-◌, ℕ, List, [], ◌∷◌, ◌++◌, Bool, true, false, ◌&&◌, cond, refl, sym, ap, ◌∙◌, subst, arith, nat_eq, nat_lt, length, get_or, slice_get, length-append}
use Rattle.std.specs.Prelude.{Some, None}
use Rattle.std.specs.BTreeMap.{is_at}
use Rattle.std.specs.List.Sorted.{IsStrictlySortedBy}
use Rattle.std.specs.Map.{lookup, keys_of, update_all}
use Rattle.std.specs.Option.{option_map}
use Rattle.std.specs.Ordering.{eq_by_cmp, is_lt}
use Rattle.std.specs.declared.cmp.Ordering.{Ordering}
use Rattle.std.specs.declared.cmp.Ordering.TheVariants.{Less, Equal, Greater}
use Rattle.std.proofs.Math.ListN as lists
use Rattle.std.proofs.Math.Seq.{get_or-append_seam}
use Rattle.std.proofs.lemmas.Bool.Decides.{nat_tests}
use Rattle.std.proofs.lemmas.Cmp.{eq_by_cmp_equiv}
use Rattle.std.proofs.lemmas.List.{map-append}
use Rattle.std.proofs.lemmas.Map.{update_all_push}
use Rattle.std.proofs.lemmas.Map.Entries.{length-keys_of}
use Rattle.std.proofs.lemmas.Map.Keys.{IsDistinct-from_sorted, Less-from_sorted, sorted_from_all_adjacent}
use Rattle.std.proofs.lemmas.Map.Made.{update_all_none}
use Rattle.std.proofs.lemmas.Option.{get_or_from_slice_get}
use Rattle.words.specs.View.{value_of}
use Rattle.words.specs.declared.word.Word.{Word}
use Rattle.write_log.specs.Elements.{Entry, by_element, found}
use Rattle.write_log.proofs.Entries.{order, same-element, value-cond}

-- no entry
pub rising-none : IsStrictlySortedBy by_element []
unfolding IsStrictlySortedBy
rising-none = tt

-- entries that have a word at an element, and at each other one what others have
pub found-updated : (es fs : List Entry) (k : ℕ × ℕ) (w : Word) → ((q : ℕ × ℕ) → lookup (is_at (by_element q)) fs ≡ cond (is_at (by_element k) q) (Some w) (lookup (is_at (by_element q)) es)) → (b i : ℕ) → found fs b i ≡ cond (nat_eq b k.0 && nat_eq i k.1) (Some (value_of w)) (found es b i)
found-updated es fs k w h b i =
    ap (option_map value_of) (h (b, i))
    ∙ value-cond (is_at (by_element k) (b, i)) w (lookup (is_at (by_element (b, i))) es)
    ∙ ap (λ t. cond t (Some (value_of w)) (found es b i)) (same-element k.0 k.1 b i)

-- entries put into an empty map one after another
pub put-in_turn : (es : List Entry) → IsStrictlySortedBy by_element (keys_of es) → (q : ℕ × ℕ) → update_all (eq_by_cmp by_element) (λ _. None) es q ≡ lookup (is_at (by_element q)) es
put-in_turn es s q = update_all_none (eq_by_cmp_equiv order) (eq_by_cmp by_element) (λ _ _. refl) es q (IsDistinct-from_sorted by_element (keys_of es) s)

-- one more entry at the end, whose element is above all
lookup-pushed : (es : List Entry) (k : ℕ × ℕ) (w : Word) → IsStrictlySortedBy by_element (keys_of es) → IsStrictlySortedBy by_element (keys_of es ++ k ∷ []) → (q : ℕ × ℕ) → lookup (is_at (by_element q)) (es ++ (k, w) ∷ []) ≡ cond (is_at (by_element k) q) (Some w) (lookup (is_at (by_element q)) es)
lookup-pushed es k w s t q =
    sym (put-in_turn (es ++ (k, w) ∷ []) (subst (IsStrictlySortedBy by_element) (sym (map-append (λ (e : Entry). e.0) es ((k, w) ∷ []))) t) q)
    ∙ sym (update_all_push (eq_by_cmp by_element) (λ _. None) (update_all (eq_by_cmp by_element) (λ _. None) es) es (k, w) q refl)
    ∙ ap (λ o. cond (is_at (by_element k) q) (Some w) o) (put-in_turn es s q)

-- the numbers of such a list
pub found-pushed : (es fs : List Entry) (k : ℕ × ℕ) (w : Word) → IsStrictlySortedBy by_element (keys_of es) → IsStrictlySortedBy by_element (keys_of es ++ k ∷ []) → fs ≡ es ++ (k, w) ∷ [] → (b i : ℕ) → found fs b i ≡ cond (nat_eq b k.0 && nat_eq i k.1) (Some (value_of w)) (found es b i)
found-pushed es fs k w s t e = found-updated es fs k w (λ q. ap (lookup (is_at (by_element q))) e ∙ lookup-pushed es k w s t q)

pub is_less : (o : Ordering) → is_lt o ≡ true → o ≡ Less
is_less Less h = refl
is_less Equal h = cc
is_less Greater h = cc

-- elements that rise, and one more that is above the last
module _ (ks : List (ℕ × ℕ)) (l k : ℕ × ℕ) (s : IsStrictlySortedBy by_element ks) (last : get_or ks (length ks - 1) (0, 0) ≡ l) (above : by_element l k ≡ Less) where
  next : (j : ℕ) → j + 1 < length (ks ++ k ∷ []) → by_element (get_or (ks ++ k ∷ []) j (0, 0)) (get_or (ks ++ k ∷ []) (j + 1) (0, 0)) ≡ Less
  next j h = by (nat_lt (j + 1) (length ks)) refl
    where
      by : (t : Bool) → nat_lt (j + 1) (length ks) ≡ t → by_element (get_or (ks ++ k ∷ []) j (0, 0)) (get_or (ks ++ k ∷ []) (j + 1) (0, 0)) ≡ Less
      by true q =
          let in_range : j + 1 < length ks = grind (arith, nat_tests) in
          let here : j < length ks = omega arith in
          rw (lists.get_or-append ks (k ∷ []) (0, 0) j here, lists.get_or-append ks (k ∷ []) (0, 0) (j + 1) in_range) (Less-from_sorted by_element ks j (j + 1) (0, 0) s (omega arith) in_range)
      by false q =
          let out : length ks ≤ j + 1 = grind (arith, nat_tests) in
          let end : j + 1 ≡ length ks = omega (arith, length-append ks (k ∷ [])) in
          let here : j < length ks = omega arith in
          let place : j ≡ length ks - 1 = omega arith in
          rw (lists.get_or-append ks (k ∷ []) (0, 0) j here, end, get_or-append_seam ks k [] (0, 0)) (ap (λ x. by_element x k) (ap (λ p. get_or ks p (0, 0)) place ∙ last) ∙ above)

  pub rises-more : IsStrictlySortedBy by_element (ks ++ k ∷ [])
  rises-more = sorted_from_all_adjacent order (ks ++ k ∷ []) (0, 0) next

-- the same of a list of entries and its last one
pub rises-entry : (es : List Entry) (e : Entry) (k : ℕ × ℕ) → IsStrictlySortedBy by_element (keys_of es) → Some e ≡ slice_get es (length es - 1) → is_lt (by_element e.0 k) ≡ true → IsStrictlySortedBy by_element (keys_of es ++ k ∷ [])
rises-entry es e k s last less =
    rises-more (keys_of es) e.0 k s
    (ap (λ n. get_or (keys_of es) (n - 1) (0, 0)) (length-keys_of es)
    ∙ lists.get_or-map (λ (x : Entry). x.0) es (length es - 1) ((0, 0), e.1)
    ∙ ap (λ (x : Entry). x.0) (get_or_from_slice_get es (length es - 1) e ((0, 0), e.1) (sym last)))
    (is_less (by_element e.0 k) less)

-- one element alone
pub rises-alone : (k : ℕ × ℕ) → IsStrictlySortedBy by_element (k ∷ [])
unfolding IsStrictlySortedBy
rises-alone k = (tt, tt)
