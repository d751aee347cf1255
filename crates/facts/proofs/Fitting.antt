-- The numbers of a launch, of ids and of new symbols are members of their elements.
use Rattle.std.proofs.Common.{◌≡◌, ℕ, zero, suc, ◌<◌, ◌≤◌, true, List, [], ◌∷◌, ◌++◌, map, length, slice_index_or, Option, Some, None, arith, refl, ap, subst}
use Rattle.std.specs.Prelude.{ℤ, pos, ◌-ℤ◌, ◌≤ℤ◌}
use Rattle.std.specs.List.{AllZip}
use Rattle.std.proofs.lemmas.Int.{ints}
use Rattle.std.proofs.lemmas.Bool.{and_parts}
use Rattle.semantics.specs.Word.{Kind, Word, zero_word}
use Rattle.semantics.specs.Launch.{Launch, IsBuffer}
use Rattle.semantics.specs.Setup.{Setup, item_count, local_id, group_id}
use Rattle.semantics.specs.Conditions.{Range, Summand, Conditions, IsIn, IsLongEnough, Meets, sum_value}
use Rattle.domain.specs.declared.Domain.{Ghosts}
use Rattle.domain.specs.Members.{is_above, is_below}
use Rattle.facts.specs.Symbols as symbols
use Rattle.facts.specs.Symbols.{First, Second, Symbol, ArgumentOf, Length, Local, Group, New, Variable, AtAnchor, Turns, Fact}
use Rattle.facts.specs.Elements.{nth, between, element_of}
use Rattle.facts.specs.Launching.{sum_form, of_range, known_so_far, least_of, from_least, at_least_some, below, known}
use Rattle.facts.proofs.Integers.{le_test}
use Rattle.facts.proofs.Members.{Lawful, Members, by_number, by_number-multiplicative, numbered, between-has, element_of-has}
use Rattle.facts.proofs.Launched.{local-below, group_id-below, IsWorth, sum_form-value}
use Rattle.facts.proofs.Worlds.{Walked, setup_of, Root, opening_root, meaning, groups_at}

-- numbers are members of elements, place by place
abbrev pub Fit : {E : Type 0} → Ghosts E → List E → List ℤ → Type 0
Fit {E} g es zs = AllZip (λ (e : E) (z : ℤ). g.has e z ≡ true) es zs

pub fit-length : {E : Type 0} (g : Ghosts E) (es : List E) (zs : List ℤ) → Fit g es zs → length zs ≡ length es
fit-length g [] [] h = refl
fit-length g [] (z ∷ zs) h = elim h [ ]
fit-length g (e ∷ es) [] h = elim h [ ]
fit-length g (e ∷ es) (z ∷ zs) h = ap suc (fit-length g es zs h.1)

pub fit-append : {E : Type 0} (g : Ghosts E) (es : List E) (zs : List ℤ) (e : E) (z : ℤ) → Fit g es zs → g.has e z ≡ true → Fit g (es ++ e ∷ []) (zs ++ z ∷ [])
fit-append g [] [] e z h k = (k, tt)
fit-append g [] (y ∷ zs) e z h k = elim h [ ]
fit-append g (x ∷ es) [] e z h k = elim h [ ]
fit-append g (x ∷ es) (y ∷ zs) e z h k = (h.0, fit-append g es zs e z h.1 k)

module _ {E : Type 0} (g : Ghosts E) (laws : Lawful g) where
  fit-nth : (es : List E) (zs : List ℤ) → Fit g es zs → (n : ℕ) → g.has (nth g es n) (slice_index_or zs n (pos 0)) ≡ true
  fit-nth [] [] h n = laws.top (pos 0)
  fit-nth [] (z ∷ zs) h n = elim h [ ]
  fit-nth (e ∷ es) [] h n = elim h [ ]
  fit-nth (e ∷ es) (z ∷ zs) h zero = h.0
  fit-nth (e ∷ es) (z ∷ zs) h (suc n) = fit-nth es zs h.1 n

  range-has : (r : Range) (z : ℤ) → IsIn r z → g.has (of_range g r) z ≡ true
  range-has r z h = between-has g laws r.low r.high z h.0 h.1

  counts-has : (c : Conditions) (l : Launch) → Meets c l → (d : ℕ) → g.has (nth g (of_range g c.groups.x ∷ of_range g c.groups.y ∷ of_range g c.groups.z ∷ []) d) (groups_at l d) ≡ true
  counts-has c l m zero = range-has c.groups.x (pos l.groups.x) m.groups_x
  counts-has c l m (suc zero) = range-has c.groups.y (pos l.groups.y) m.groups_y
  counts-has c l m (suc (suc zero)) = range-has c.groups.z (pos l.groups.z) m.groups_z
  counts-has c l m (suc (suc (suc d))) = laws.top (pos 1)

  arguments-has : (rs : List Range) (ws : List Word) → AllZip (λ (r : Range) (w : Word). IsIn r w.value) rs ws → (n : ℕ) → g.has (nth g (map (of_range g) rs) n) (slice_index_or ws n zero_word).value ≡ true
  arguments-has [] [] h n = laws.top (pos 0)
  arguments-has [] (w ∷ ws) h n = elim h [ ]
  arguments-has (r ∷ rs) [] h n = elim h [ ]
  arguments-has (r ∷ rs) (w ∷ ws) h zero = range-has r w.value h.0
  arguments-has (r ∷ rs) (w ∷ ws) h (suc n) = arguments-has rs ws h.1 n

  at_least_some-has : (e : E) (o : Option ℤ) (y z : ℤ) → g.has e z ≡ true → is_above o y ≡ true → y ≤ℤ z → g.has (at_least_some g e o) z ≡ true
  at_least_some-has e None y z h a l = h
  at_least_some-has e (Some low) y z h a l = laws.at_least e low z h (let b = le_test low y a in omega (arith, ints))

  -- a form that there is has the number as a member
  abbrev HasForm : Conditions → Option Fact → ℤ → Type 0
  HasForm c None y = Unit {0}
  HasForm c (Some f) y = g.has (element_of g (known_so_far g c) f) y ≡ true

  least-below : (c : Conditions) (o : Option Fact) (y : ℤ) → HasForm c o y → is_above (least_of g (known_so_far g c) o) y ≡ true
  least-below c None y h = refl
  least-below c (Some f) y h =
      let x = element_of g (known_so_far g c) f in
      (and_parts (is_above (g.bounds_of x).low y) (is_below (g.bounds_of x).high y) (laws.bounds x y h)).0

  length-has : (c : Conditions) (s : List Summand) (y : ℤ) (b : List ℤ) → HasForm c (sum_form s) y → y ≤ℤ pos (length b) → length b ≤ 4294967295 → g.has (from_least g (known_so_far g c) s) (pos (length b)) ≡ true
  length-has c s y b h k m =
      at_least_some-has (between g (pos 0) (pos 4294967295)) (least_of g (known_so_far g c) (sum_form s)) y (pos (length b)) (between-has g laws (pos 0) (pos 4294967295) (pos (length b)) (omega (arith, ints)) (omega (arith, ints)))
      (least-below c (sum_form s) y h) k

  lengths-has : (c : Conditions) (l : Launch) → ((s : List Summand) → HasForm c (sum_form s) (sum_value l s)) → (ss : List (List Summand)) (ks : List Kind) (bs : List (List ℤ)) → AllZip (IsLongEnough l) ss bs → AllZip IsBuffer ks bs → (n : ℕ) → g.has (nth g (map (from_least g (known_so_far g c)) ss) n) (pos (length (slice_index_or bs n []))) ≡ true
  lengths-has c l s [] ks [] h k n = laws.top (pos 0)
  lengths-has c l s [] ks (b ∷ bs) h k n = elim h [ ]
  lengths-has c l s (x ∷ ss) ks [] h k n = elim h [ ]
  lengths-has c l s (x ∷ ss) [] (b ∷ bs) h k n = elim k [ ]
  lengths-has c l s (x ∷ ss) (q ∷ ks) (b ∷ bs) h k zero = length-has c x (sum_value l x) b (s x) h.0 k.0.0
  lengths-has c l s (x ∷ ss) (q ∷ ks) (b ∷ bs) h k (suc n) = lengths-has c l s ss ks bs h.1 k.1 n

  below-has : (n : ℤ) (k : ℕ) → pos k ≤ℤ (n -ℤ pos 1) → g.has (below g n) (pos k) ≡ true
  below-has n k h = between-has g laws (pos 0) (n -ℤ pos 1) (pos k) (omega (arith, ints)) h

  locals-has : (s : Setup) (i : ℕ) → i < item_count s → (d : ℕ) → g.has (nth g (below g (pos s.kernel.sizes.x) ∷ below g (pos s.kernel.sizes.y) ∷ below g (pos s.kernel.sizes.z) ∷ []) d) (pos (local_id s i d)) ≡ true
  locals-has s i h zero = below-has (pos s.kernel.sizes.x) (local_id s i 0) (let b = local-below s i h 0 (omega arith) in omega (arith, ints, b))
  locals-has s i h (suc zero) = below-has (pos s.kernel.sizes.y) (local_id s i 1) (let b = local-below s i h 1 (omega arith) in omega (arith, ints, b))
  locals-has s i h (suc (suc zero)) = below-has (pos s.kernel.sizes.z) (local_id s i 2) (let b = local-below s i h 2 (omega arith) in omega (arith, ints, b))
  locals-has s i h (suc (suc (suc d))) = laws.top (pos 0)

  groups-has : (s : Setup) (c : Conditions) → Meets c s.launch → (i : ℕ) → i < item_count s → (d : ℕ) → g.has (nth g (below g c.groups.x.high ∷ below g c.groups.y.high ∷ below g c.groups.z.high ∷ []) d) (pos (group_id s i d)) ≡ true
  groups-has s c m i h zero = below-has c.groups.x.high (group_id s i 0) (let b = group_id-below s i h 0 (omega arith) in let w = m.groups_x.1 in omega (arith, ints, b, w))
  groups-has s c m i h (suc zero) = below-has c.groups.y.high (group_id s i 1) (let b = group_id-below s i h 1 (omega arith) in let w = m.groups_y.1 in omega (arith, ints, b, w))
  groups-has s c m i h (suc (suc zero)) = below-has c.groups.z.high (group_id s i 2) (let b = group_id-below s i h 2 (omega arith) in let w = m.groups_z.1 in omega (arith, ints, b, w))
  groups-has s c m i h (suc (suc (suc d))) = laws.top (pos 0)

  -- counts and arguments alone
  so_far-has : (s : Setup) (c : Conditions) → Meets c s.launch → Members g (known_so_far g c) (meaning s 0 0 opening_root opening_root [] [])
  so_far-has s c m (symbols.Groups d) = counts-has c s.launch m d
  so_far-has s c m (ArgumentOf n) = arguments-has c.arguments s.launch.arguments m.arguments n
  so_far-has s c m (Length b) = laws.top _
  so_far-has s c m (Local First d) = laws.top _
  so_far-has s c m (Local Second d) = laws.top _
  so_far-has s c m (Group First d) = laws.top _
  so_far-has s c m (Group Second d) = laws.top _
  so_far-has s c m (New First k) = laws.top _
  so_far-has s c m (New Second k) = laws.top _
  so_far-has s c m (Variable w x) = laws.top _
  so_far-has s c m (AtAnchor w x) = laws.top _
  so_far-has s c m (Turns w k) = laws.top _

  worth-has : (s : Setup) (c : Conditions) → Meets c s.launch → (o : Option Fact) (z : ℤ) → IsWorth (by_number (meaning s 0 0 opening_root opening_root [] [])) o z → HasForm c o z
  worth-has s c m None z h = tt
  worth-has s c m (Some f) z h =
      subst (λ y. g.has (element_of g (known_so_far g c) f) y ≡ true) h
      (element_of-has g laws (known_so_far g c) (meaning s 0 0 opening_root opening_root [] []) (so_far-has s c m) f)

  sums-has : (s : Setup) (c : Conditions) → Meets c s.launch → (xs : List Summand) → HasForm c (sum_form xs) (sum_value s.launch xs)
  sums-has s c m xs =
      let w = meaning s 0 0 opening_root opening_root [] [] in
      worth-has s c m (sum_form xs) (sum_value s.launch xs)
      (sum_form-value (by_number w) s.launch (by_number-multiplicative w) (λ d. numbered w (symbols.Groups d)) (λ n. numbered w (ArgumentOf n)) xs)

-- of two items, with the new numbers of each
pub members : {E : Type 0} (c : Walked E) (i j : ℕ) (root other : Root) → i < item_count (setup_of c) → j < item_count (setup_of c) → (es fs : List E) (news more : List ℤ) → Fit c.domain es news → Fit c.domain fs more → Members c.domain (record { known = known c.domain c.kernel.sizes c.conditions; first = es; second = fs }) (meaning (setup_of c) i j root other news more)
members c i j root other hi hj es fs news more p q (symbols.Groups d) = counts-has c.domain c.lawful c.conditions c.launch c.meets d
members c i j root other hi hj es fs news more p q (ArgumentOf n) = arguments-has c.domain c.lawful c.conditions.arguments c.launch.arguments c.meets.arguments n
members c i j root other hi hj es fs news more p q (Length b) = lengths-has c.domain c.lawful c.conditions c.launch (sums-has c.domain c.lawful (setup_of c) c.conditions c.meets) c.conditions.lengths c.kernel.buffers c.launch.buffers c.meets.lengths c.fits.buffers b
members c i j root other hi hj es fs news more p q (Local First d) = locals-has c.domain c.lawful (setup_of c) i hi d
members c i j root other hi hj es fs news more p q (Local Second d) = locals-has c.domain c.lawful (setup_of c) j hj d
members c i j root other hi hj es fs news more p q (Group First d) = groups-has c.domain c.lawful (setup_of c) c.conditions c.meets i hi d
members c i j root other hi hj es fs news more p q (Group Second d) = groups-has c.domain c.lawful (setup_of c) c.conditions c.meets j hj d
members c i j root other hi hj es fs news more p q (New First k) = fit-nth c.domain c.lawful es news p k
members c i j root other hi hj es fs news more p q (New Second k) = fit-nth c.domain c.lawful fs more q k
members c i j root other hi hj es fs news more p q (Variable w x) = c.lawful.top _
members c i j root other hi hj es fs news more p q (AtAnchor w x) = c.lawful.top _
members c i j root other hi hj es fs news more p q (Turns w k) = c.lawful.top _
