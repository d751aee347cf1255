-- All groups, and the headline.
use Rattle.std.proofs.Common.{◌≡◌, ℕ, zero, suc, ◌+◌, ◌<◌, ◌≤◌, ◌⊎◌, Option, Some, None, refl, sym, ap, ◌∙◌, inl, inr, subst, arith, List}
use Rattle.std.proofs.lemmas.Bool.{cases_eq}
use Rattle.semantics.specs.Conditions.{Content}
use Rattle.semantics.specs.Setup.{Setup, group_of, group_size, item_count, group_count, member}
use Rattle.semantics.specs.Memory.{Cell, Memory, opening_memory}
use Rattle.semantics.specs.Item.{Item, Running, Waiting, Ended}
use Rattle.semantics.specs.Solo.{opening, is_waiting}
use Rattle.semantics.specs.World.{World, Step, Release, opening_world, happens}
use Rattle.semantics.specs.Rounds.{applied, group_stores, result_of, IsDefined}
use Rattle.semantics.specs.Contents.{IsKept}
use Rattle.semantics.specs.Safety.{IsPairSafe, IsPairSafeWithin}
use Rattle.semantics.specs.Headline.{IsOver, Headline}
use Rattle.semantics.proofs.HonestRuns.{pair_safe-back, kept-none}
use Rattle.semantics.proofs.Groups.{group_of-member, member-below, group-below}
use Rattle.reduction.specs.Budgets.{IsWithinBudget}
use Rattle.reduction.proofs.Along.{Keeps, may_go-waits}
use Rattle.reduction.proofs.Kept.{opening-along, run-along}
use Rattle.reduction.proofs.Totals.{total-bound}
use Rattle.reduction.proofs.Counts.{steps_in, opening-waits, opening-counted, run-counted}
use Rattle.reduction.proofs.Safe.{safe, over-ended}
use Rattle.reduction.proofs.States.{State, state, follows, can-happen, can_running}
use Rattle.reduction.proofs.Confluence.{Good, Onward, onward-here, onward-trans, good-onward, Stuck, run-onward, onward-stuck, onward-run}
use Rattle.reduction.proofs.Alone.{Stored}
use Rattle.reduction.proofs.Round.{applied-cases}
use Rattle.reduction.proofs.Group.{Own, Done, Start, group-way, ends-way, below-way}

-- stored by an item of one of the first groups
pub record Before (cs : List Content) (s : Setup) (k : ℕ) (c : Cell) : Type 0 where
  pub other : ℕ
  pub when : ℕ
  pub stored : Stored cs s other c when
  pub group : group_of s other < k

-- the first k groups have ended
pub record Groups (cs : List Content) (s : Setup) (bound k : ℕ) : Type 0 where
  pub st : State
  pub onward : Onward s (state (opening_world s)) st
  pub memory : st.memory ≡ result_of s bound k
  pub ended : (j : ℕ) → j < item_count s → group_of s j < k → (st.items j).status ≡ Ended
  pub rest : (j : ℕ) → k ≤ group_of s j → st.items j ≡ opening s j
  pub agree : (c : Cell) → (result_of s bound k c ≡ opening_memory s c) ⊎ Before cs s k c

opening-good : {cs : List Content} (s : Setup) → Keeps cs s → IsKept s cs (opening_memory s) → Good cs s (state (opening_world s))
opening-good {cs} s keeps kept = record { world = opening_world s; along = opening-along s keeps kept; is = refl }

world-memory : (s : Setup) → (opening_world s).memory ≡ opening_memory s
unfolding opening_world
world-memory s = refl

world-items : (s : Setup) → (opening_world s).items ≡ opening s
unfolding opening_world
world-items s = refl

module _ {cs : List Content} (s : Setup) (bound : ℕ) (full : 0 < group_size s) (p : IsPairSafeWithin cs s bound) (kept : IsKept s cs (opening_memory s)) where
  start : (k : ℕ) (hk : k < group_count s) (u : Groups cs s bound k) → Start s bound full p k hk (opening s) (opening_memory s) u.st
  start k hk u =
      let same = λ (l : ℕ) (lt : l < group_size s). u.rest (member s k l) (let e = group_of-member s k l lt in omega (arith, e)) in
      record {
        good = good-onward s (state (opening_world s)) u.st (opening-good s p.keeps kept) u.onward;
        agree = λ l lt. sym (same l lt);
        memory = λ c. elim (u.agree c) [
          | inl e ↦ inl (ap (λ (m : Memory). m c) u.memory ∙ e)
          | inr b ↦ inr (record { other = b.other; when = b.when; stored = b.stored; group = λ q. let h = b.group in omega (arith, q, h) })
        ];
        calm = λ l lt. ap (λ (it : Item). is_waiting it.status) (same l lt) ∙ (let h = opening-waits s (member s k l) in omega (arith, h));
      }

  one_group : (k : ℕ) (hk : k < group_count s) (u : Groups cs s bound k) → Done cs s k u.st (group_stores s bound k) → Groups cs s bound (suc k)
  one_group k hk u d = record {
    st = d.to;
    onward = onward-trans s (state (opening_world s)) u.st d.to u.onward d.onward;
    memory = d.memory ∙ ap (applied (group_stores s bound k)) u.memory;
    ended = λ j hj h. elim (cases_eq (group_of s j) k) [
      | inl e ↦ d.ended j hj e
      | inr ne ↦ ap (λ (it : Item). it.status) (d.others j ne) ∙ u.ended j hj (omega (arith, ne))
    ];
    rest = λ j h. d.others j (λ e. omega (arith, e)) ∙ u.rest j (omega arith);
    agree = λ c. elim (applied-cases (Own cs s k) (group_stores s bound k) (result_of s bound k) c d.each) [
      | inl e ↦ elim (u.agree c) [ inl q ↦ inl (e ∙ q) | inr b ↦ inr (record { other = b.other; when = b.when; stored = b.stored; group = let h = b.group in omega (arith, h) }) ]
      | inr o ↦ inr (record { other = o.other; when = o.when; stored = o.stored; group = let h = o.group in omega (arith, h) })
    ];
  }

  -- group after group, from the opening state
  groups-way : (k : ℕ) → k ≤ group_count s → Groups cs s bound k
  groups-way zero h = record {
    st = state (opening_world s);
    onward = onward-here s (state (opening_world s)) (state (opening_world s)) refl;
    memory = world-memory s;
    ended = λ j hj lt. absurd (omega arith);
    rest = λ j lt. ap (λ (f : ℕ → Item). f j) (world-items s);
    agree = λ c. inl refl;
  }
  groups-way (suc k) h =
      let u = groups-way k (omega arith) in
      one_group k h u (group-way s bound full p k h (bound + 1) (opening s) (opening_memory s) u.st (start k h u) (omega arith))

  defined : IsDefined s bound
  defined k hk =
      let u = groups-way k (omega arith) in
      ends-way s bound full p k hk (bound + 1) (opening s) (opening_memory s) u.st (start k hk u) (omega arith)

  within_budget : (k : ℕ) → k < group_count s → IsWithinBudget s bound k
  within_budget k hk =
      let u = groups-way k (omega arith) in
      below-way s bound full p k hk (bound + 1) (opening s) (opening_memory s) u.st (start k hk u)

  last : Groups cs s bound (group_count s)
  last = groups-way (group_count s) (omega arith)

  stuck_by : (st : State) → ((i : ℕ) → i < item_count s → (st.items i).status ≡ Ended) → Stuck s st
  stuck_by st h (Step i) c = let q : Ended ≡ Running = sym (h i c.0) ∙ can_running s i (st.items i) c.1 in cc
  stuck_by st h (Release g) c =
      let i = member-below s g 0 c.0 full in
      let q : Ended ≡ Waiting = sym (h (member s g 0) i) ∙ may_go-waits s st.items g (member s g 0) c.1 i (group_of-member s g 0 full) in cc

  -- after all groups nothing can happen
  stuck-last : Stuck s last.st
  stuck-last = stuck_by last.st (λ i hi. last.ended i hi (group-below s i hi))

  over-stuck : (w : World) → IsOver s w → Stuck s (state w)
  over-stuck w over e c =
      let h = can-happen s w e c in
      let q : None ≡ Some h.0 = sym (over e) ∙ h.1 in cc

  stuck-over : (w : World) → Stuck s (state w) → IsOver s w
  stuck-over w stuck e = go (happens s w e) refl
    where
      go : (o : Option World) → happens s w e ≡ o → happens s w e ≡ None
      go None h = h
      go (Some v) h = absurd (stuck e (follows s w v e h).can)

-- the headline
pub headline_within : {cs : List Content} (s : Setup) (bound : ℕ) → 0 < group_size s → IsPairSafeWithin cs s bound → IsKept s cs (opening_memory s) → Headline s bound
headline_within {cs} s bound full p kept es w h =
    let al = run-along s es (opening_world s) w (opening-along s p.keeps kept) h in
    let k = run-counted s es (opening_world s) w 0 full (opening-counted s) h in
    let sf = safe s bound p w al in
    let b = total-bound (item_count s) bound (steps_in w) sf.within_budget in
    let end = last s bound full p kept in
    let o = run-onward s bound full p es (opening_world s) w end.st (opening-along s p.keeps kept) h end.onward (stuck-last s bound full p kept) in
    let r = onward-run s bound full p o.events w o.path in
    record {
      is_safe = sf;
      is_bounded = omega (arith, k, b);
      all_ended = λ over. over-ended s bound p w al over full;
      ends_with_the_result = λ over. ap (λ (x : State). x.memory) (onward-stuck s bound full p (state w) end.st o (over-stuck s bound full p kept w over)) ∙ end.memory;
      can_go_on = (o.events, r.0, r.1, stuck-over s bound full p kept r.0 (subst (Stuck s) (sym (r.2 ∙ o.leads)) (stuck-last s bound full p kept)));
    }

pub defined_within : {cs : List Content} (s : Setup) (bound : ℕ) → 0 < group_size s → IsPairSafeWithin cs s bound → IsKept s cs (opening_memory s) → IsDefined s bound
defined_within {cs} s bound full p kept = defined s bound full p kept

pub headline_lem : (s : Setup) (bound : ℕ) → 0 < group_size s → IsPairSafe s bound → Headline s bound
headline_lem s bound full p = headline_within s bound full (pair_safe-back s bound p) (kept-none s (opening_memory s))

pub defined_lem : (s : Setup) (bound : ℕ) → 0 < group_size s → IsPairSafe s bound → IsDefined s bound
defined_lem s bound full p = defined_within s bound full (pair_safe-back s bound p) (kept-none s (opening_memory s))

pub budget_within : {cs : List Content} (s : Setup) (bound : ℕ) → 0 < group_size s → IsPairSafeWithin cs s bound → IsKept s cs (opening_memory s) → (k : ℕ) → k < group_count s → IsWithinBudget s bound k
budget_within {cs} s bound full p kept k hk = within_budget s bound full p kept k hk
