-- What follows for each world of a run.
use Rattle.std.proofs.Common.{◌≡◌, ◌≢◌, ℕ, ◌<◌, ◌≤◌, ◌⊎◌, true, None, refl, ap, ◌∙◌, sym, subst, inl, inr, arith, lt-ltb, List}
use Rattle.std.proofs.lemmas.Bool.{cases_eq}
use Rattle.std.proofs.lemmas.Slice.Eq.{bytes_eq-Decides}
use Rattle.semantics.specs.Conditions.{Content}
use Rattle.semantics.specs.Word.{Fault}
use Rattle.semantics.specs.Core.{Site}
use Rattle.semantics.specs.Setup.{Setup, group_size, group_count, group_of, item_count, member}
use Rattle.semantics.specs.Item.{Item, Status, Running, Waiting, Ended, Stopped, trail}
use Rattle.semantics.specs.Ask.{Ask, Loads, Stores, Goes, Waits, Rests, ask}
use Rattle.semantics.specs.Solo.{after, is_waiting}
use Rattle.semantics.specs.World.{World, Step, Release, stepped, happens, may_go}
use Rattle.semantics.specs.Safety.{IsSafe, IsPairSafeWithin}
use Rattle.semantics.specs.Headline.{IsOver}
use Rattle.semantics.proofs.Steps.{Over, Fair, ask-fair}
use Rattle.semantics.proofs.Groups.{every-by, group_of-member, member-below, group-below}
use Rattle.reduction.proofs.Along.{Along}

running_goes : (w : World) (i : ℕ) (k : Ask) → Fair (w.items i) k → (w.items i).status ≡ Running → stepped w i k ≡ None → ⊥
running_goes w i (Loads at kind site) f h e = cc
running_goes w i (Stores at site value next) f h e = cc
running_goes w i (Goes next) f h e = cc
running_goes w i (Waits next) f h e = let q : Waiting ≡ Running = sym f.was ∙ h in cc
running_goes w i Rests f h e = let q = subst Over h f in elim q [ ]

-- a running item can step
step_possible : (s : Setup) (w : World) (i : ℕ) → i < item_count s → (w.items i).status ≡ Running → happens s w (Step i) ≡ None → ⊥
unfolding happens
step_possible s w i lt h e =
    running_goes w i (ask s i (w.items i)) (ask-fair s i (w.items i)) h (rw (lt-ltb i (item_count s) lt) at e)

-- a group that may go can be released
release_possible : (s : Setup) (w : World) (g : ℕ) → g < group_count s → may_go s w.items g ≡ true → happens s w (Release g) ≡ None → ⊥
unfolding happens
release_possible s w g lt h e =
    let q = rw (lt-ltb g (group_count s) lt, h) at e in cc

module _ {cs : List Content} (s : Setup) (bound : ℕ) (p : IsPairSafeWithin cs s bound) (w : World) (al : Along cs s w) where
  status-after : (i : ℕ) (st : Status) → (w.items i).status ≡ st → (after s i (al.words i)).status ≡ st
  status-after i st h = ap (λ (it : Item). it.status) (sym (al.stands i)) ∙ h

  pub quiet-here : (i : ℕ) (f : Fault) (site : Site) → i < item_count s → (w.items i).status ≢ Stopped f site
  quiet-here i f site lt h = p.quiet i (al.words i) f site lt (al.honest i lt) (status-after i (Stopped f site) h)

  -- two waiting items of a group have equal lists left
  agree-here : (i j : ℕ) → i < item_count s → j < item_count s → group_of s i ≡ group_of s j → (w.items i).status ≡ Waiting → (w.items j).status ≡ Waiting → trail (w.items i).left ≡ trail (w.items j).left
  agree-here i j hi hj g a b = elim (cases_eq i j) [
    | inl e ↦ ap (λ k. trail (w.items k).left) e
    | inr ne ↦ ap (λ (it : Item). trail it.left) (al.stands i) ∙ p.agree i j hi hj ne g (al.words i) (al.words j) (al.honest i hi) (al.honest j hj) (status-after i Waiting a) (status-after j Waiting b) (al.level i j hi hj g) ∙ ap (λ (it : Item). trail it.left) (sym (al.stands j))
  ]

  -- no item waits where another of its group has ended
  ends-here : (i j : ℕ) → i < item_count s → j < item_count s → group_of s i ≡ group_of s j → (w.items i).status ≡ Waiting → (w.items j).status ≡ Ended → ⊥
  ends-here i j hi hj g a b =
      let ne = λ (e : j ≡ i). let q : Ended ≡ Waiting = sym b ∙ ap (λ k. (w.items k).status) e ∙ a in let x : ⊥ = cc in x in
      let e = p.ends j i hj hi ne (sym g) (al.words j) (al.words i) (al.honest j hj) (al.honest i hi) (status-after j Ended b) in
      let x : is_waiting (after s i (al.words i)).status ≡ 1 = ap is_waiting (status-after i Waiting a) in
      let y : is_waiting (after s j (al.words j)).status ≡ 0 = ap is_waiting (status-after j Ended b) in
      let z = al.level i j hi hj g in
      omega (arith, e, x, y, z)

  -- a world of a run is safe: what went wrong in it would have gone wrong in solo runs
  pub safe : IsSafe s bound w
  safe = record {
    no_fault = quiet-here;
    no_data_race = λ a b ha hb c. p.apart a.item b.item (al.words a.item) (al.words b.item) a b (al.known a ha).0 (al.known b hb).0 c.items (al.honest a.item (al.known a ha).0) (al.honest b.item (al.known b hb).0) (al.known a ha).1 (al.known b hb).1 c;
    no_barrier_divergence = λ i j hi hj d. elim d.apart [ inl e ↦ ends-here i j hi hj d.group d.waits e | inr o ↦ o.1 (agree-here i j hi hj d.group d.waits o.0) ];
    within_budget = λ i lt. subst (λ (it : Item). it.steps ≤ bound) (sym (al.stands i)) (p.short i (al.words i) lt (al.honest i lt));
  }

  pub not_running : IsOver s w → (i : ℕ) → i < item_count s → ((w.items i).status ≡ Waiting) ⊎ ((w.items i).status ≡ Ended)
  not_running over i lt = go (w.items i).status refl
    where
      go : (st : Status) → (w.items i).status ≡ st → ((w.items i).status ≡ Waiting) ⊎ ((w.items i).status ≡ Ended)
      go Running h = absurd (step_possible s w i lt h (over (Step i)))
      go Waiting h = inl h
      go Ended h = inr h
      go (Stopped f site) h = absurd (quiet-here i f site lt h)

  -- no item of the group runs
  abbrev pub Settled : ℕ → Type 0
  Settled g = (j : ℕ) → j < item_count s → group_of s j ≡ g → ((w.items j).status ≡ Waiting) ⊎ ((w.items j).status ≡ Ended)

  all_wait : (g i j : ℕ) → Settled g → i < item_count s → j < item_count s → group_of s i ≡ g → group_of s j ≡ g → (w.items i).status ≡ Waiting → (w.items j).status ≡ Waiting
  all_wait g i j settled hi hj gi gj a = elim (settled j hj gj) [ inl b ↦ b | inr b ↦ absurd (ends-here i j hi hj (gi ∙ sym gj) a b) ]

  -- where no item of a group runs and one waits, the group may go
  pub group_goes : (g : ℕ) → g < group_count s → Settled g → 0 < group_size s → (i : ℕ) → i < item_count s → group_of s i ≡ g → (w.items i).status ≡ Waiting → may_go s w.items g ≡ true
  unfolding may_go
  group_goes g hg settled full i lt gi a = every-by (group_size s) _ (λ k hk.
      let here = member-below s g k hg hk in
      let first = member-below s g 0 hg full in
      let e = group_of-member s g k hk in
      let e0 = group_of-member s g 0 full in
      let b = all_wait g i (member s g k) settled lt here gi e a in
      let b0 = all_wait g i (member s g 0) settled lt first gi e0 a in
      rw (b, (bytes_eq-Decides _ _).1 (agree-here (member s g k) (member s g 0) here first (e ∙ sym e0) b b0)) refl)

  -- where nothing can happen all items have ended
  pub over-ended : IsOver s w → 0 < group_size s → (i : ℕ) → i < item_count s → (w.items i).status ≡ Ended
  over-ended over full i lt = elim (not_running over i lt) [
    | inl a ↦ absurd (release_possible s w (group_of s i) (group-below s i lt) (group_goes (group_of s i) (group-below s i lt) (λ j hj e. not_running over j hj) full i lt refl a) (over (Release (group_of s i))))
    | inr b ↦ b
  ]
