-- The headline, positions aside: a kernel has it exactly where it has it without positions.
use Rattle.std.proofs.Common.{◌≡◌, ◌<◌, ℕ, zero, suc, ◌+◌, List, [], ◌∷◌, inl, inr, length, map, get_or, refl, ap, sym, subst, ◌∙◌, arith}
use Rattle.std.specs.Prelude.{Option, Some, None}
use Rattle.std.specs.Option.{option_map}
use Rattle.std.specs.List.{Contains}
use Rattle.semantics.specs.Core.{Site}
use Rattle.semantics.specs.Word.{Fault}
use Rattle.semantics.specs.Launch.{Kernel, Launch, Fits}
use Rattle.semantics.specs.Setup.{Setup, at_launch, group_size, group_count}
use Rattle.semantics.specs.Item.{Status, Running, Waiting, Ended, Stopped}
use Rattle.semantics.specs.Memory.{opening_memory}
use Rattle.semantics.specs.Solo.{opening, Access}
use Rattle.semantics.specs.World.{World, Event, opening_world, happens, run}
use Rattle.semantics.specs.Safety.{Clash, Divergent, IsSafe}
use Rattle.semantics.specs.Rounds.{rounds_end, IsDefined, result_by_rounds}
use Rattle.semantics.specs.Headline.{IsOver, HoldsOfRun, Headline}
use Rattle.texts.specs.Bare.{nowhere}
use Rattle.printer.specs.BareCore.{bare_core}
use Rattle.printer.specs.Meaning.{MeansTheSame}
use Rattle.printer.specs.BareRuns.{bare_status, bare_setup}
use Rattle.printer.proofs.BareSteps.{bare-trail}
use Rattle.printer.proofs.BareWorlds.{bare_access, bare_world, bare-happens, bare-run, bare-opening_world}
use Rattle.printer.proofs.BareRounds.{bare-ends, bare-result}

-- options and lists
none-on : {A B : Type 0} (f : A → B) (o : Option A) (p : Option B) → p ≡ option_map f o → o ≡ None → p ≡ None
none-on f None p e h = e
none-on f (Some a) p e h = cc

none-back : {A B : Type 0} (f : A → B) (o : Option A) (p : Option B) → p ≡ option_map f o → p ≡ None → o ≡ None
none-back f None p e h = refl
none-back f (Some a) p e h = cc

some-back : {A B : Type 0} (f : A → B) (o : Option A) (p : Option B) (b : B) → p ≡ option_map f o → p ≡ Some b → (a : A) × (o ≡ Some a) × (f a ≡ b)
some-back f None p b e h = cc
some-back f (Some a) p b e h = (a, refl, cc)

mapped-length : {A B : Type 0} (f : A → B) (xs : List A) → length (map f xs) ≡ length xs
mapped-length f [] = refl
mapped-length f (x ∷ xs) = ap suc (mapped-length f xs)

mapped-at : {A B : Type 0} (f : A → B) (xs : List A) (k : ℕ) (d : A) → get_or (map f xs) k (f d) ≡ f (get_or xs k d)
mapped-at f [] k d = refl
mapped-at f (x ∷ xs) zero d = refl
mapped-at f (x ∷ xs) (suc k) d = mapped-at f xs k d

has-on : {A B : Type 0} (f : A → B) (xs : List A) (x : A) → Contains xs x → Contains (map f xs) (f x)
has-on f xs x (k, l, e) = (k, subst (λ n. k < n) (sym (mapped-length f xs)) l, mapped-at f xs k x ∙ ap f e)

has-at : {A B : Type 0} (f : A → B) (xs : List A) (y : B) (k : ℕ) → k < length (map f xs) → get_or (map f xs) k y ≡ y → (x : A) × Contains xs x × (f x ≡ y)
has-at f [] y k l e = absurd (omega (arith, l))
has-at f (x ∷ xs) y zero l e = (x, (0, omega arith, refl), e)
has-at f (x ∷ xs) y (suc k) l e =
    let r = has-at f xs y k (omega (arith, l)) e in
    (r.0, (suc r.1.0, omega (arith, r.1.1), r.1.2), r.2)

-- statuses
stopped-on : (st : Status) (f : Fault) (site : Site) → st ≡ Stopped f site → bare_status st ≡ Stopped f nowhere
stopped-on st f site h = ap bare_status h

stopped-back : (st : Status) (f : Fault) (site : Site) → bare_status st ≡ Stopped f site → (at : Site) × (st ≡ Stopped f at)
stopped-back Running f site h = cc
stopped-back Waiting f site h = cc
stopped-back Ended f site h = cc
stopped-back (Stopped g at) f site h = (at, cc)

waiting-back : (st : Status) → bare_status st ≡ Waiting → st ≡ Waiting
waiting-back Running h = cc
waiting-back Waiting h = refl
waiting-back Ended h = cc
waiting-back (Stopped g at) h = cc

ended-back : (st : Status) → bare_status st ≡ Ended → st ≡ Ended
ended-back Running h = cc
ended-back Waiting h = cc
ended-back Ended h = refl
ended-back (Stopped g at) h = cc

-- what goes wrong
clash-on : (s : Setup) (a b : Access) → Clash s a b → Clash (bare_setup s) (bare_access a) (bare_access b)
unfolding group_size
clash-on s a b c = record { items = c.items; element = c.element; stored = c.stored; unordered = c.unordered }

clash-back : (s : Setup) (a b : Access) → Clash (bare_setup s) (bare_access a) (bare_access b) → Clash s a b
unfolding group_size
clash-back s a b c = record { items = c.items; element = c.element; stored = c.stored; unordered = c.unordered }

divergent-on : (s : Setup) (w : World) (i j : ℕ) → Divergent s w i j → Divergent (bare_setup s) (bare_world w) i j
unfolding group_size
divergent-on s w i j d = record {
  group = d.group;
  waits = ap bare_status d.waits;
  apart = elim d.apart [
    | inl e ↦ inl (ap bare_status e)
    | inr e ↦ inr (ap bare_status e.0, λ q. e.1 (sym (bare-trail (w.items i).left) ∙ q ∙ bare-trail (w.items j).left))
  ];
}

divergent-back : (s : Setup) (w : World) (i j : ℕ) → Divergent (bare_setup s) (bare_world w) i j → Divergent s w i j
unfolding group_size
divergent-back s w i j d = record {
  group = d.group;
  waits = waiting-back (w.items i).status d.waits;
  apart = elim d.apart [
    | inl e ↦ inl (ended-back (w.items j).status e)
    | inr e ↦ inr (waiting-back (w.items j).status e.0, λ q. e.1 (bare-trail (w.items i).left ∙ q ∙ sym (bare-trail (w.items j).left)))
  ];
}

safe-on : (s : Setup) (bound : ℕ) (w : World) → IsSafe s bound w → IsSafe (bare_setup s) bound (bare_world w)
unfolding group_size group_count
safe-on s bound w h = record {
  no_fault = λ i f site l e. let r = stopped-back (w.items i).status f site e in h.no_fault i f r.0 l r.1;
  no_data_race = λ a b p q c.
      let x = has-at bare_access w.history a p.0 p.1 p.2 in
      let y = has-at bare_access w.history b q.0 q.1 q.2 in
      h.no_data_race x.0 y.0 x.1 y.1 (clash-back s x.0 y.0 (subst (λ b. Clash (bare_setup s) (bare_access x.0) b) (sym y.2) (subst (λ a. Clash (bare_setup s) a b) (sym x.2) c)));
  no_barrier_divergence = λ i j k l d. h.no_barrier_divergence i j k l (divergent-back s w i j d);
  within_budget = h.within_budget;
}

safe-back : (s : Setup) (bound : ℕ) (w : World) → IsSafe (bare_setup s) bound (bare_world w) → IsSafe s bound w
unfolding group_size group_count
safe-back s bound w h = record {
  no_fault = λ i f site l e. h.no_fault i f nowhere l (stopped-on (w.items i).status f site e);
  no_data_race = λ a b p q c. h.no_data_race (bare_access a) (bare_access b) (has-on bare_access w.history a p) (has-on bare_access w.history b q) (clash-on s a b c);
  no_barrier_divergence = λ i j k l d. h.no_barrier_divergence i j k l (divergent-on s w i j d);
  within_budget = h.within_budget;
}

over-on : (s : Setup) (w : World) → IsOver s w → IsOver (bare_setup s) (bare_world w)
over-on s w h = λ e. none-on bare_world (happens s w e) _ (bare-happens s w e) (h e)

over-back : (s : Setup) (w : World) → IsOver (bare_setup s) (bare_world w) → IsOver s w
over-back s w h = λ e. none-back bare_world (happens s w e) _ (bare-happens s w e) (h e)

holds-on : (s : Setup) (bound : ℕ) (es : List Event) (w : World) → HoldsOfRun s bound es w → HoldsOfRun (bare_setup s) bound es (bare_world w)
unfolding group_size group_count
holds-on s bound es w h =
    let go = h.can_go_on in
    record {
      is_safe = safe-on s bound w h.is_safe;
      is_bounded = h.is_bounded;
      can_go_on = (go.0, bare_world go.1, bare-run s go.0 w ∙ ap (option_map bare_world) go.2, over-on s go.1 go.3);
      all_ended = λ o i l. ap bare_status (h.all_ended (over-back s w o) i l);
      ends_with_the_result = λ o. h.ends_with_the_result (over-back s w o) ∙ sym (bare-result s bound);
    }

holds-back : (s : Setup) (bound : ℕ) (es : List Event) (w : World) → HoldsOfRun (bare_setup s) bound es (bare_world w) → HoldsOfRun s bound es w
unfolding group_size group_count
holds-back s bound es w h =
    let go = h.can_go_on in
    let r = some-back bare_world (run s go.0 w) _ go.1 (bare-run s go.0 w) go.2 in
    record {
      is_safe = safe-back s bound w h.is_safe;
      is_bounded = h.is_bounded;
      can_go_on = (go.0, r.0, r.1, over-back s r.0 (subst (IsOver (bare_setup s)) (sym r.2) go.3));
      all_ended = λ o i l. ended-back (w.items i).status (h.all_ended (over-on s w o) i l);
      ends_with_the_result = λ o. h.ends_with_the_result (over-on s w o) ∙ bare-result s bound;
    }

headline-on : (s : Setup) (bound : ℕ) → Headline s bound → Headline (bare_setup s) bound
headline-on s bound h = λ es v e.
    let r = some-back bare_world (run s es (opening_world s)) _ v (ap (run (bare_setup s) es) (bare-opening_world s) ∙ bare-run s es (opening_world s)) e in
    subst (HoldsOfRun (bare_setup s) bound es) r.2 (holds-on s bound es r.0 (h es r.0 r.1))

headline-back : (s : Setup) (bound : ℕ) → Headline (bare_setup s) bound → Headline s bound
headline-back s bound h = λ es w e. holds-back s bound es w (h es (bare_world w) (ap (run (bare_setup s) es) (bare-opening_world s) ∙ bare-run s es (opening_world s) ∙ ap (option_map bare_world) e))

pub headline-alike : (k l : Kernel) (given : Launch) (bound : ℕ) → bare_core k ≡ bare_core l → Headline (at_launch k given) bound → Headline (at_launch l given) bound
headline-alike k l given bound e h =
    headline-back (at_launch l given) bound (subst (λ c. Headline (at_launch c given) bound) e (headline-on (at_launch k given) bound h))

pub result-alike : (k l : Kernel) (given : Launch) (bound : ℕ) → bare_core k ≡ bare_core l → result_by_rounds (at_launch k given) bound ≡ result_by_rounds (at_launch l given) bound
result-alike k l given bound e =
    sym (bare-result (at_launch k given) bound) ∙ ap (λ c. result_by_rounds (at_launch c given) bound) e ∙ bare-result (at_launch l given) bound

defined-alike : (k l : Kernel) (given : Launch) (bound : ℕ) → bare_core k ≡ bare_core l → IsDefined (at_launch k given) bound → IsDefined (at_launch l given) bound
unfolding group_count
defined-alike k l given bound e h = λ g lower.
    sym (bare-ends (at_launch l given) bound g) ∙ ap (λ c. rounds_end (at_launch c given) g (bound + 1) (bound + 1) (opening (at_launch c given)) (opening_memory (at_launch c given))) (sym e)
    ∙ bare-ends (at_launch k given) bound g ∙ h g lower

fits-on : (k : Kernel) (given : Launch) → Fits k given → Fits (bare_core k) given
fits-on k given h = record { count_x = h.count_x; count_y = h.count_y; count_z = h.count_z; arguments = h.arguments; buffers = h.buffers; fill = h.fill }

fits-back : (k : Kernel) (given : Launch) → Fits (bare_core k) given → Fits k given
fits-back k given h = record { count_x = h.count_x; count_y = h.count_y; count_z = h.count_z; arguments = h.arguments; buffers = h.buffers; fill = h.fill }

fits-alike : (k l : Kernel) (given : Launch) → bare_core k ≡ bare_core l → Fits k given → Fits l given
fits-alike k l given e h = fits-back l given (subst (λ c. Fits c given) e (fits-on k given h))

pub means-the-same : (k l : Kernel) (given : Launch) (bound : ℕ) → bare_core k ≡ bare_core l → MeansTheSame k l given bound
means-the-same k l given bound e = record {
  fits = fits-alike k l given e;
  fits_back = fits-alike l k given (sym e);
  headline = headline-alike k l given bound e;
  headline_back = headline-alike l k given bound (sym e);
  defined = defined-alike k l given bound e;
  defined_back = defined-alike l k given bound (sym e);
  result = result-alike k l given bound e;
}
