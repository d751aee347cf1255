-- What holds where sizes are exact holds on each device.
use Rattle.std.proofs.Common.{◌≡◌, ℕ, ◌≤◌, ◌<◌, ℤ, pos, List, [], ◌∷◌, ◌++◌, Some, inl, inr, refl, sym, ap, ◌∙◌, subst, arith}
use Rattle.semantics.specs.Word.{Width, Exact}
use Rattle.semantics.specs.Setup.{Setup, on_device, group_size, group_count, item_count}
use Rattle.semantics.specs.Item.{Item, Status, Waiting, Ended, Stopped, trail}
use Rattle.semantics.specs.Ask.{Ask, ask}
use Rattle.semantics.specs.Solo.{Access, moved, after, touch, Touched, is_waiting, passed, arrived}
use Rattle.semantics.specs.World.{World, Event, opening_world, then_run, run}
use Rattle.semantics.specs.Rounds.{IsDefined}
use Rattle.semantics.specs.Safety.{Clash, IsSafe, IsPairSafe}
use Rattle.semantics.specs.Headline.{IsOver, HoldsOfRun, Headline}
use Rattle.semantics.proofs.DeviceSteps.{Agrees, Same, Stops, ask-agrees}
use Rattle.semantics.proofs.Runs.{run-append}
use Rattle.reduction.proofs.DeviceRuns.{Quiet, opening-on, opening_world-on, happens-same, run-same}
use Rattle.reduction.proofs.DeviceRounds.{result-same}

pub clash-on : (v w : Width) (s : Setup) (a b : Access) → Clash (on_device v s) a b → Clash (on_device w s) a b
unfolding group_size
clash-on v w s a b c = record { items = c.items; element = c.element; stored = c.stored; unordered = c.unordered }

safe-on : (v w : Width) (s : Setup) (bound : ℕ) (x : World) → IsSafe (on_device v s) bound x → IsSafe (on_device w s) bound x
unfolding group_size group_count
safe-on v w s bound x h = record {
  no_fault = h.no_fault;
  no_data_race = λ a b ha hb c. h.no_data_race a b ha hb (clash-on w v s a b c);
  no_barrier_divergence = λ i j hi hj d. h.no_barrier_divergence i j hi hj (record { group = d.group; waits = d.waits; apart = d.apart });
  within_budget = h.within_budget;
}

quiet-run : (s : Setup) (es : List Event) (w v : World) → Quiet s w → run s es w ≡ Some v → Quiet s v
quiet-run s es w v q h = λ fs u r. q (es ++ fs) u (run-append s es fs w ∙ ap (λ o. then_run o (run s fs)) h ∙ r)

module _ (device : Width) (s : Setup) (bound : ℕ) where
  abbrev e : Setup
  e = on_device Exact s

  abbrev t : Setup
  t = on_device device s

  module _ (full : 0 < group_size e) (holds : Headline e bound) where
    quiet : Quiet e (opening_world e)
    quiet es v r = (holds es v r).is_safe.no_fault

    pub runs-same : (es : List Event) → run t es (opening_world t) ≡ run e es (opening_world e)
    runs-same es = ap (run t es) (opening_world-on device Exact s) ∙ run-same device s es (opening_world e) full quiet

    over-there : (w : World) → Quiet e w → IsOver e w → IsOver t w
    over-there w q over ev = happens-same device s w ev full q ∙ over ev

    over-here : (w : World) → Quiet e w → IsOver t w → IsOver e w
    over-here w q over ev = sym (happens-same device s w ev full q) ∙ over ev

    of_run : (defined : IsDefined e bound) (es : List Event) (w : World) → HoldsOfRun e bound es w → Quiet e w → HoldsOfRun t bound es w
    unfolding group_size group_count
    of_run defined es w x q =
        let on = x.can_go_on in
        record {
          is_safe = safe-on Exact device s bound w x.is_safe;
          is_bounded = x.is_bounded;
          can_go_on = (on.0, on.1, run-same device s on.0 w full q ∙ on.2, over-there on.1 (quiet-run e on.0 w on.1 q on.2) on.3);
          all_ended = λ over i lt. x.all_ended (over-here w q over) i lt;
          ends_with_the_result = λ over. x.ends_with_the_result (over-here w q over) ∙ sym (result-same device s full bound defined);
        }

    pub headline-kept : IsDefined e bound → Headline t bound
    headline-kept defined es w r =
        let r' : run e es (opening_world e) ≡ Some w = sym (runs-same es) ∙ r in
        of_run defined es w (holds es w r') (quiet-run e es (opening_world e) w quiet r')

  module _ (p : IsPairSafe e bound) where
    ask_by : (i : ℕ) → i < item_count e → (ws : List ℤ) (k k' : Ask) → ask e i (after e i ws) ≡ k → Agrees (after e i ws) k k' → k' ≡ k
    ask_by i lt ws k k' h (Same a) = a
    ask_by i lt ws k k' h (Stops f site a) =
        absurd (p.quiet i (pos 0 ∷ ws) f site lt (ap (λ x. (moved (after e i ws) x (pos 0)).status) (h ∙ a)))

    pub ask-same : (i : ℕ) → i < item_count e → (ws : List ℤ) → ask t i (after e i ws) ≡ ask e i (after e i ws)
    ask-same i lt ws = ask_by i lt ws (ask e i (after e i ws)) (ask t i (after e i ws)) refl (ask-agrees device s i (after e i ws))

    pub after-same : (i : ℕ) → i < item_count e → (ws : List ℤ) → after t i ws ≡ after e i ws
    after-same i lt [] = ap (λ (f : ℕ → Item). f i) (opening-on device Exact s)
    after-same i lt (z ∷ ws) =
        ap (λ it. moved it (ask t i it) z) (after-same i lt ws) ∙ ap (λ k. moved (after e i ws) k z) (ask-same i lt ws)

    touched : (i : ℕ) → i < item_count e → (ws : List ℤ) (a : Access) → Touched t i ws a → Touched e i ws a
    touched i lt [] a h = h
    touched i lt (z ∷ ws) a (inl h) = inl (sym (ap (λ it. touch i it (ask t i it)) (after-same i lt ws) ∙ ap (touch i (after e i ws)) (ask-same i lt ws)) ∙ h)
    touched i lt (z ∷ ws) a (inr h) = inr (touched i lt ws a h)

    passed-same : (i : ℕ) → i < item_count e → (ws : List ℤ) → passed t i ws ≡ passed e i ws
    passed-same i lt [] = refl
    passed-same i lt (z ∷ ws) = let a = ap (λ (it : Item). is_waiting it.status) (after-same i lt ws) in let b = passed-same i lt ws in omega (arith, a, b)

    arrived-same : (i : ℕ) → i < item_count e → (ws : List ℤ) → arrived t i ws ≡ arrived e i ws
    arrived-same i lt ws = let a = ap (λ (it : Item). is_waiting it.status) (after-same i lt ws) in let b = passed-same i lt ws in omega (arith, a, b)

    at : (i : ℕ) → i < item_count e → (ws : List ℤ) (st : Status) → (after t i ws).status ≡ st → (after e i ws).status ≡ st
    at i lt ws st h = ap (λ (it : Item). it.status) (sym (after-same i lt ws)) ∙ h

    pub pair_safe-kept : IsPairSafe t bound
    unfolding group_size group_count
    pair_safe-kept = record {
      quiet = λ i ws f site lt h. p.quiet i ws f site lt (at i lt ws (Stopped f site) h);
      short = λ i ws lt. subst (λ (it : Item). it.steps ≤ bound) (sym (after-same i lt ws)) (p.short i ws lt);
      apart = λ i j ws vs a b hi hj ne ta tb c. p.apart i j ws vs a b hi hj ne (touched i hi ws a ta) (touched j hj vs b tb) (clash-on device Exact s a b c);
      agree = λ i j hi hj ne g ws vs a b q.
          ap (λ (it : Item). trail it.left) (after-same i hi ws) ∙
          p.agree i j hi hj ne g ws vs (at i hi ws Waiting a) (at j hj vs Waiting b) (sym (passed-same i hi ws) ∙ q ∙ passed-same j hj vs) ∙
          ap (λ (it : Item). trail it.left) (sym (after-same j hj vs));
      ends = λ i j hi hj ne g ws vs h.
          let x = p.ends i j hi hj ne g ws vs (at i hi ws Ended h) in
          let a = arrived-same i hi ws in let b = arrived-same j hj vs in omega (arith, x, a, b);
    }
