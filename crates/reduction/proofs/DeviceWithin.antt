-- What honest solo runs keep where sizes are exact, they keep on each device.
use Rattle.std.proofs.Common.{◌≡◌, ℕ, zero, suc, ◌≤◌, ◌<◌, ℤ, pos, List, [], ◌∷◌, inl, inr, refl, sym, ap, ◌∙◌, subst, arith}
use Rattle.semantics.specs.Word.{Width, Exact}
use Rattle.semantics.specs.Setup.{Setup, on_device, group_size, group_count, item_count}
use Rattle.semantics.specs.Memory.{opening_memory}
use Rattle.semantics.specs.Item.{Item, Status, Waiting, Ended, Stopped, trail}
use Rattle.semantics.specs.Ask.{Ask, Loads, Stores, Goes, Waits, Rests, ask}
use Rattle.semantics.specs.Solo.{Access, moved, after, touch, Touched, is_waiting, passed, arrived}
use Rattle.semantics.specs.Conditions.{Content}
use Rattle.semantics.specs.Contents.{HoldsIn, Heeds, IsHonest, IsKept, StoresKept}
use Rattle.semantics.specs.Rounds.{result_by_rounds}
use Rattle.semantics.specs.Safety.{IsPairSafeWithin}
use Rattle.semantics.specs.Headline.{Headline}
use Rattle.semantics.proofs.DeviceSteps.{Agrees, Same, Stops, ask-agrees}
use Rattle.reduction.proofs.DeviceRuns.{opening-on}
use Rattle.reduction.proofs.DeviceLaw.{clash-on}
use Rattle.reduction.proofs.DeviceClauses.{full-on, headline_on, result_on}
use Rattle.reduction.proofs.Whole.{headline_within, defined_within}

-- what buffers may hold is the same
holds-on : (v w : Width) (s : Setup) (cs : List Content) (owner array : ℕ) (z : ℤ) → HoldsIn (on_device v s) cs owner array z → HoldsIn (on_device w s) cs owner array z
holds-on v w s cs zero a z h = h
holds-on v w s cs (suc g) a z h = tt

heeds-on : (v w : Width) (s : Setup) (cs : List Content) (k : Ask) (answer : ℤ) → Heeds (on_device v s) cs k answer → Heeds (on_device w s) cs k answer
heeds-on v w s cs (Loads at kind site) answer h = holds-on v w s cs at.owner at.array _ h
heeds-on v w s cs (Stores at site value next) answer h = tt
heeds-on v w s cs (Goes next) answer h = tt
heeds-on v w s cs (Waits next) answer h = tt
heeds-on v w s cs Rests answer h = tt

stores-on : (v w : Width) (s : Setup) (cs : List Content) (k : Ask) → StoresKept (on_device v s) cs k → StoresKept (on_device w s) cs k
stores-on v w s cs (Loads at kind site) h = tt
stores-on v w s cs (Stores at site value next) h = holds-on v w s cs at.owner at.array value h
stores-on v w s cs (Goes next) h = tt
stores-on v w s cs (Waits next) h = tt
stores-on v w s cs Rests h = tt

module _ (device : Width) (cs : List Content) (s : Setup) (bound : ℕ) where
  abbrev e : Setup
  e = on_device Exact s

  abbrev t : Setup
  t = on_device device s

  module _ (p : IsPairSafeWithin cs e bound) where
    ask_by : (i : ℕ) → i < item_count e → (ws : List ℤ) → IsHonest e cs i ws → (k k' : Ask) → ask e i (after e i ws) ≡ k → Agrees (after e i ws) k k' → k' ≡ k
    ask_by i lt ws q k k' h (Same a) = a
    ask_by i lt ws q k k' h (Stops f site a) =
        let honest : IsHonest e cs i (pos 0 ∷ ws) = (q, subst (λ x. Heeds e cs x (pos 0)) (sym (h ∙ a)) tt) in
        absurd (p.quiet i (pos 0 ∷ ws) f site lt honest (ap (λ x. (moved (after e i ws) x (pos 0)).status) (h ∙ a)))

    ask-same : (i : ℕ) → i < item_count e → (ws : List ℤ) → IsHonest e cs i ws → ask t i (after e i ws) ≡ ask e i (after e i ws)
    ask-same i lt ws q = ask_by i lt ws q (ask e i (after e i ws)) (ask t i (after e i ws)) refl (ask-agrees device s i (after e i ws))

    after-same : (i : ℕ) → i < item_count e → (ws : List ℤ) → IsHonest e cs i ws → after t i ws ≡ after e i ws
    after-same i lt [] q = ap (λ (f : ℕ → Item). f i) (opening-on device Exact s)
    after-same i lt (z ∷ ws) q =
        ap (λ it. moved it (ask t i it) z) (after-same i lt ws q.0) ∙ ap (λ k. moved (after e i ws) k z) (ask-same i lt ws q.0)

    asked-same : (i : ℕ) → i < item_count e → (ws : List ℤ) → IsHonest e cs i ws → ask t i (after t i ws) ≡ ask e i (after e i ws)
    asked-same i lt ws q = ap (ask t i) (after-same i lt ws q) ∙ ask-same i lt ws q

    -- a solo run that is honest on the device is where sizes are exact
    here : (i : ℕ) → i < item_count e → (ws : List ℤ) → IsHonest t cs i ws → IsHonest e cs i ws
    here i lt [] h = tt
    here i lt (z ∷ ws) h =
        let q = here i lt ws h.0 in
        (q, heeds-on device Exact s cs (ask e i (after e i ws)) z (subst (λ k. Heeds t cs k z) (asked-same i lt ws q) h.1))

    touched : (i : ℕ) → i < item_count e → (ws : List ℤ) → IsHonest e cs i ws → (a : Access) → Touched t i ws a → Touched e i ws a
    touched i lt [] q a h = h
    touched i lt (z ∷ ws) q a (inl h) = inl (sym (ap (λ it. touch i it (ask t i it)) (after-same i lt ws q.0) ∙ ap (touch i (after e i ws)) (ask-same i lt ws q.0)) ∙ h)
    touched i lt (z ∷ ws) q a (inr h) = inr (touched i lt ws q.0 a h)

    passed-same : (i : ℕ) → i < item_count e → (ws : List ℤ) → IsHonest e cs i ws → passed t i ws ≡ passed e i ws
    passed-same i lt [] q = refl
    passed-same i lt (z ∷ ws) q = let a = ap (λ (it : Item). is_waiting it.status) (after-same i lt ws q.0) in let b = passed-same i lt ws q.0 in omega (arith, a, b)

    arrived-same : (i : ℕ) → i < item_count e → (ws : List ℤ) → IsHonest e cs i ws → arrived t i ws ≡ arrived e i ws
    arrived-same i lt ws q = let a = ap (λ (it : Item). is_waiting it.status) (after-same i lt ws q) in let b = passed-same i lt ws q in omega (arith, a, b)

    at : (i : ℕ) → i < item_count e → (ws : List ℤ) → IsHonest e cs i ws → (st : Status) → (after t i ws).status ≡ st → (after e i ws).status ≡ st
    at i lt ws q st h = ap (λ (it : Item). it.status) (sym (after-same i lt ws q)) ∙ h

    within-kept : IsPairSafeWithin cs t bound
    unfolding group_size group_count
    within-kept = record {
      quiet = λ i ws f site lt h u. let q = here i lt ws h in p.quiet i ws f site lt q (at i lt ws q (Stopped f site) u);
      short = λ i ws lt h. let q = here i lt ws h in subst (λ (it : Item). it.steps ≤ bound) (sym (after-same i lt ws q)) (p.short i ws lt q);
      apart = λ i j ws vs a b hi hj ne hw hv ta tb c.
          let q = here i hi ws hw in let r = here j hj vs hv in
          p.apart i j ws vs a b hi hj ne q r (touched i hi ws q a ta) (touched j hj vs r b tb) (clash-on device Exact s a b c);
      agree = λ i j hi hj ne g ws vs hw hv a b u.
          let q = here i hi ws hw in let r = here j hj vs hv in
          ap (λ (it : Item). trail it.left) (after-same i hi ws q) ∙
          p.agree i j hi hj ne g ws vs q r (at i hi ws q Waiting a) (at j hj vs r Waiting b) (sym (passed-same i hi ws q) ∙ u ∙ passed-same j hj vs r) ∙
          ap (λ (it : Item). trail it.left) (sym (after-same j hj vs r));
      ends = λ i j hi hj ne g ws vs hw hv h.
          let q = here i hi ws hw in let r = here j hj vs hv in
          let x = p.ends i j hi hj ne g ws vs q r (at i hi ws q Ended h) in
          let a = arrived-same i hi ws q in let b = arrived-same j hj vs r in omega (arith, x, a, b);
      keeps = λ i ws lt h.
          let q = here i lt ws h in
          stores-on Exact device s cs (ask t i (after t i ws)) (subst (λ k. StoresKept e cs k) (sym (asked-same i lt ws q)) (p.keeps i ws lt q));
    }

pub within_on : (w : Width) (cs : List Content) (s : Setup) (bound : ℕ) → IsPairSafeWithin cs (on_device Exact s) bound → IsPairSafeWithin cs (on_device w s) bound
within_on w cs s bound p = within-kept w cs s bound p

pub within_headline_on : (w : Width) (cs : List Content) (s : Setup) (bound : ℕ) → 0 < group_size s → IsPairSafeWithin cs (on_device Exact s) bound → IsKept (on_device Exact s) cs (opening_memory (on_device Exact s)) → Headline (on_device w s) bound
within_headline_on w cs s bound full p kept = headline_on w s bound full (headline_within (on_device Exact s) bound (full-on s full) p kept)

pub within_result_on : (w : Width) (cs : List Content) (s : Setup) (bound : ℕ) → 0 < group_size s → IsPairSafeWithin cs (on_device Exact s) bound → IsKept (on_device Exact s) cs (opening_memory (on_device Exact s)) → result_by_rounds (on_device w s) bound ≡ result_by_rounds (on_device Exact s) bound
within_result_on w cs s bound full p kept = result_on w s bound full (defined_within (on_device Exact s) bound (full-on s full) p kept)
