-- What stretches and bits have of an element.
use Rattle.std.proofs.Common.{◌≡◌, ◌<◌, ◌≤◌, ◌+◌, ◌-◌, ◌⊎◌, inl, inr, ⊎_elim, ℕ, List, Bool, true, false, refl, sym, ap, ◌∙◌, subst, arith, nat_eq, nat_lt, length, get_or, slice_get}
use Rattle.std.specs.Prelude.{Some, None}
use Rattle.std.specs.BTreeMap.{is_at}
use Rattle.std.specs.List.Sorted.{IsStrictlySortedBy}
use Rattle.std.specs.Map.{lookup, keys_of}
use Rattle.std.specs.Ordering.{is_lt, ordering_reverse}
use Rattle.std.specs.declared.cmp.Ordering.TheVariants.{Less, Greater}
use Rattle.std.proofs.Math.ListN as lists
use Rattle.std.proofs.lemmas.Bool.Decides.{nat_tests}
use Rattle.std.proofs.lemmas.Cmp.{eq_by_cmp_equiv}
use Rattle.std.proofs.lemmas.Map.Entries.{lookup_from_place, lookup_at_gap, length-keys_of}
use Rattle.std.proofs.lemmas.Map.Keys.{IsDistinct-from_sorted, Less-from_sorted}
use Rattle.std.proofs.lemmas.Option.{get_or_from_slice_get, slice_get-get_or, slice_get_within}
use Rattle.write_log.specs.Elements.{Entry, AreApart, border, by_element, entries_in, entry_at, head_of, nowhere, read_word, stretch_at}
use Rattle.write_log.specs.declared.stretch.Stretch.{Stretch}
use Rattle.write_log.proofs.Entries.{order}
use Rattle.write_log.proofs.RisingEntries.{is_less}
use Rattle.write_log.proofs.Stretches.{border-is, border-past, border-within, first-at, last-is, length-first}

-- an element is below another by its buffer, or by its index
below-buffer : (b c x y : ℕ) → b < c → is_lt (by_element (b, x) (c, y)) ≡ true
below-buffer b c x y l =
    let less : nat_lt b c ≡ true = grind (arith, nat_tests) in
    rw less refl

below-index : (b x y : ℕ) → x < y → is_lt (by_element (b, x) (b, y)) ≡ true
below-index b x y l =
    let not_less : nat_lt b b ≡ false = grind (arith, nat_tests) in
    let same : nat_eq b b ≡ true = grind (arith, nat_tests) in
    let less : nat_lt x y ≡ true = grind (arith, nat_tests) in
    rw (not_less, same, less) refl

not-below : (b c x y : ℕ) → is_lt (by_element (c, y) (b, x)) ≡ false → (b < c) ⊎ ((b ≡ c) × (x ≤ y))
not-below b c x y h = by (nat_lt c b) refl (nat_eq c b) refl (nat_lt y x) refl
  where
    by : (s : Bool) → nat_lt c b ≡ s → (t : Bool) → nat_eq c b ≡ t → (u : Bool) → nat_lt y x ≡ u → (b < c) ⊎ ((b ≡ c) × (x ≤ y))
    by true p t q u r = absurd (let no : true ≡ false = sym (rw p refl) ∙ h in cc)
    by false p false q u r = inl (grind (arith, nat_tests))
    by false p true q true r = absurd (let no : true ≡ false = sym (rw (p, q, r) refl) ∙ h in cc)
    by false p true q false r = inr (grind (arith, nat_tests), grind (arith, nat_tests))

module _ (ts : List Stretch) (bits : List ℕ) (s : IsStrictlySortedBy by_element (keys_of (entries_in ts bits))) (b : border ts (length bits) 0 ≡ 0) (h : AreApart ts (length bits)) (q : ℕ × ℕ) where
  key_at : (place : ℕ) → place < length bits → get_or (keys_of (entries_in ts bits)) place (0, 0) ≡ (entry_at ts bits place).0
  key_at place l =
      let d : Entry = ((0, 0), (entry_at ts bits place).1) in
      lists.get_or-map (λ (x : Entry). x.0) (entries_in ts bits) place d ∙ ap (λ (x : Entry). x.0) (first-at ts bits (length bits) place d l)

  -- entries rise from place to place
  less_at : (i j : ℕ) → i < j → j < length bits → by_element (entry_at ts bits i).0 (entry_at ts bits j).0 ≡ Less
  less_at i j l m =
      let count : j < length (keys_of (entries_in ts bits)) = subst (λ k. j < k) (sym (length-keys_of (entries_in ts bits) ∙ length-first ts bits (length bits))) m in
      subst (λ x. by_element x (entry_at ts bits j).0 ≡ Less) (key_at i (omega (arith, l, m)))
      (subst (λ x. by_element (get_or (keys_of (entries_in ts bits)) i (0, 0)) x ≡ Less) (key_at j m) (Less-from_sorted by_element (keys_of (entries_in ts bits)) i j (0, 0) s l count))

  entry_is : (place : ℕ) (e : Entry) → slice_get (entries_in ts bits) place ≡ Some e → (place < length bits) × (entry_at ts bits place ≡ e)
  entry_is place e g =
      let l : place < length bits = subst (λ k. place < k) (length-first ts bits (length bits)) (slice_get_within (entries_in ts bits) place e g) in
      (l, sym (first-at ts bits (length bits) place e l) ∙ get_or_from_slice_get (entries_in ts bits) place e e g)

  -- between two entries there is nothing
  gap : (i : ℕ) → i ≤ length bits → (0 < i → is_lt (by_element (entry_at ts bits (i - 1)).0 q) ≡ true) → (i < length bits → is_lt (by_element q (entry_at ts bits i).0) ≡ true) → lookup (is_at (by_element q)) (entries_in ts bits) ≡ None
  gap i l below above = lookup_at_gap order q (entries_in ts bits) i s before behind
    where
      before_q : (j : ℕ) → j < i → by_element (entry_at ts bits j).0 q ≡ Less
      before_q j m = by (nat_lt (j + 1) i) refl
        where
          last : by_element (entry_at ts bits (i - 1)).0 q ≡ Less
          last = is_less (by_element (entry_at ts bits (i - 1)).0 q) (below (omega (arith, m)))

          by : (t : Bool) → nat_lt (j + 1) i ≡ t → by_element (entry_at ts bits j).0 q ≡ Less
          by true e =
              let further : j + 1 < i = grind (arith, nat_tests) in
              order.trans (entry_at ts bits j).0 (entry_at ts bits (i - 1)).0 q (less_at j (i - 1) (omega (arith, further)) (omega (arith, further, l))) last
          by false e =
              let near : i ≤ j + 1 = grind (arith, nat_tests) in
              let same : i - 1 ≡ j = omega (arith, near, m) in
              subst (λ k. by_element (entry_at ts bits k).0 q ≡ Less) same last

      before : (j : ℕ) (e : Entry) → j < i → slice_get (entries_in ts bits) j ≡ Some e → by_element q e.0 ≡ Greater
      before j e m g = order.antisymm q e.0 ∙ ap ordering_reverse (subst (λ (x : Entry). by_element x.0 q ≡ Less) (entry_is j e g).1 (before_q j m))

      behind : (e : Entry) → slice_get (entries_in ts bits) i ≡ Some e → by_element q e.0 ≡ Less
      behind e g =
          let is = entry_is i e g in
          subst (λ (x : Entry). by_element q x.0 ≡ Less) is.1 (is_less (by_element q (entry_at ts bits i).0) (above is.0))

  -- the entry of a place
  found_at : (place : ℕ) → place < length bits → (entry_at ts bits place).0 ≡ q → lookup (is_at (by_element q)) (entries_in ts bits) ≡ Some (entry_at ts bits place).1
  found_at place l same =
      let e = entry_at ts bits place in
      let count : place < length (entries_in ts bits) = subst (λ k. place < k) (sym (length-first ts bits (length bits))) l in
      lookup_from_place (eq_by_cmp_equiv order) (entries_in ts bits) place q e.1 (IsDistinct-from_sorted by_element (keys_of (entries_in ts bits)) s)
      (slice_get-get_or (entries_in ts bits) place e count ∙ ap (λ x. Some x) (first-at ts bits (length bits) place e l) ∙ ap (λ k. Some (k, e.1)) same)

  -- the entry where a stretch starts
  head_key : (number : ℕ) → number < length ts → (entry_at ts bits (border ts (length bits) number)).0 ≡ head_of ts number
  head_key number l =
      let t = get_or ts number nowhere in
      let there : stretch_at ts (border ts (length bits) number) ≡ t = last-is ts (length bits) (border ts (length bits) number) nowhere number h l (omega arith) (h number l) in
      let starts = border-is ts (length bits) number nowhere l in
      let index : t.first + (border ts (length bits) number - t.start) ≡ t.first = omega (arith, starts) in
      ap (λ (u : Stretch). (u.buffer, u.first + (border ts (length bits) number - u.start))) there ∙ ap (λ i. (t.buffer, i)) index

  -- above the element: the stretches that are not up to it
  above_at : (number : ℕ) → (number < length ts → is_lt (by_element q (head_of ts number)) ≡ true) → border ts (length bits) number < length bits → is_lt (by_element q (entry_at ts bits (border ts (length bits) number)).0) ≡ true
  above_at number above l = by (nat_lt number (length ts)) refl
    where
      by : (t : Bool) → nat_lt number (length ts) ≡ t → is_lt (by_element q (entry_at ts bits (border ts (length bits) number)).0) ≡ true
      by true e =
          let inside : number < length ts = grind (arith, nat_tests) in
          subst (λ k. is_lt (by_element q k) ≡ true) (sym (head_key number inside)) (above inside)
      by false e = let past = border-past ts (length bits) number (grind (arith, nat_tests)) in absurd (omega (arith, past, l))

  -- no stretch begins up to the element
  pub none_up_to : (0 < length ts → is_lt (by_element q (head_of ts 0)) ≡ true) → lookup (is_at (by_element q)) (entries_in ts bits) ≡ None
  none_up_to above = gap 0 (omega arith) (λ l. absurd (omega (arith, l))) (λ l. subst (λ k. is_lt (by_element q (entry_at ts bits k).0) ≡ true) b (above_at 0 above (subst (λ k. k < length bits) (sym b) l)))

  pub place_within : (heads place : ℕ) → place < border ts (length bits) heads → place < length bits
  place_within heads place l = let w = border-within ts (length bits) heads h in omega (arith, w, l)

  -- the last stretch that begins up to the element
  module _ (heads : ℕ) (some_ : 0 < heads) (count : heads ≤ length ts) (t : Stretch) (is : get_or ts (heads - 1) nowhere ≡ t) where
    before_end : heads - 1 < length ts
    before_end = omega (arith, some_, count)

    next : heads - 1 + 1 ≡ heads
    next = omega (arith, some_)

    starts : border ts (length bits) (heads - 1) ≡ t.start
    starts = border-is ts (length bits) (heads - 1) nowhere before_end ∙ ap (λ (u : Stretch). u.start) is

    in_stretch : (place : ℕ) → t.start ≤ place → place < border ts (length bits) heads → stretch_at ts place ≡ t
    in_stretch place from to = last-is ts (length bits) place nowhere (heads - 1) h before_end (omega (arith, starts, from)) (subst (λ m. place < border ts (length bits) m) (sym next) to) ∙ is

    -- it has the element
    pub found_in : (place : ℕ) → t.start ≤ place → place < border ts (length bits) heads → q.0 ≡ t.buffer → t.first + (place - t.start) ≡ q.1 → lookup (is_at (by_element q)) (entries_in ts bits) ≡ Some (read_word t.kind (get_or bits place 0))
    found_in place from to buffer_is index_is =
        let here = in_stretch place from to in
        found_at place (place_within heads place to) (ap (λ (u : Stretch). (u.buffer, u.first + (place - u.start))) here ∙ rw (index_is, buffer_is) refl)
        ∙ ap (λ (u : Stretch). Some (read_word u.kind (get_or bits place 0))) here

    -- or ends below it
    pub none_in : is_lt (by_element q (t.buffer, t.first)) ≡ false → (q.0 ≡ t.buffer → t.first ≤ q.1 → border ts (length bits) heads ≤ t.start + (q.1 - t.first)) → (heads < length ts → is_lt (by_element q (head_of ts heads)) ≡ true) → lookup (is_at (by_element q)) (entries_in ts bits) ≡ None
    none_in begins ends above = gap (border ts (length bits) heads) within (λ l. below) (above_at heads above)
      where
        within : border ts (length bits) heads ≤ length bits
        within = border-within ts (length bits) heads h

        up : t.start < border ts (length bits) heads
        up = let l = subst (λ m. border ts (length bits) (heads - 1) < border ts (length bits) m) next (h (heads - 1) before_end) in omega (arith, l, starts)

        there : stretch_at ts (border ts (length bits) heads - 1) ≡ t
        there = in_stretch (border ts (length bits) heads - 1) (omega (arith, up)) (omega (arith, up))

        below_t : is_lt (by_element (t.buffer, t.first + (border ts (length bits) heads - 1 - t.start)) q) ≡ true
        below_t = ⊎_elim
            (λ l. below-buffer t.buffer q.0 (t.first + (border ts (length bits) heads - 1 - t.start)) q.1 l)
            (λ same.
            let far = ends (sym same.0) same.1 in
            let from = same.1 in
            let less : t.first + (border ts (length bits) heads - 1 - t.start) < q.1 = omega (arith, far, up, from) in
            subst (λ c. is_lt (by_element (t.buffer, t.first + (border ts (length bits) heads - 1 - t.start)) (c, q.1)) ≡ true) same.0 (below-index t.buffer (t.first + (border ts (length bits) heads - 1 - t.start)) q.1 less))
            (not-below t.buffer q.0 t.first q.1 begins)

        below : is_lt (by_element (entry_at ts bits (border ts (length bits) heads - 1)).0 q) ≡ true
        below = subst (λ (u : Stretch). is_lt (by_element (u.buffer, u.first + (border ts (length bits) heads - 1 - u.start)) q) ≡ true) (sym there) below_t
