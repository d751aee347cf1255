-- How long a run can be.
use Rattle.std.proofs.Common.{◌≡◌, ◌≢◌, ℕ, ◌+◌, ◌*◌, ◌<◌, ◌≤◌, pos, List, [], ◌∷◌, Bool, true, false, cond, Some, length, refl, ap, ◌∙◌, sym, subst, arith, nat_eq, eqb-true, eq-eqb}
use Rattle.semantics.specs.Setup.{Setup, group_size, group_of, item_count, member}
use Rattle.semantics.specs.Item.{Item, Status, Running, Waiting, Ended, Stopped}
use Rattle.semantics.specs.Solo.{opening, is_waiting, move}
use Rattle.semantics.specs.World.{World, Event, Step, Release, released, happens, run, opening_world, past}
use Rattle.semantics.proofs.Steps.{Next, Passed}
use Rattle.semantics.proofs.Turns.{Turn, Steps, Passes, Stays, turn}
use Rattle.semantics.proofs.Updates.{put_item-same, put_item-other}
use Rattle.semantics.proofs.Groups.{member-below, group_of-member}
use Rattle.semantics.proofs.Events.{Let, let_go}
use Rattle.reduction.proofs.Along.{Did, did, may_go-waits}
use Rattle.reduction.proofs.Kept.{then_run-is}
use Rattle.reduction.proofs.Totals.{total, total-same, total-update, total-less, total-bound}

abbrev pub steps_in : World → ℕ → ℕ
steps_in w j = (w.items j).steps

abbrev pub waits_in : World → ℕ → ℕ
waits_in w j = is_waiting (w.items j).status

-- n events took so many steps, and so many items wait
abbrev pub Counted : Setup → World → ℕ → Type 0
Counted s w n = n + total (item_count s) (waits_in w) ≤ 2 * total (item_count s) (steps_in w)

at_most_one : (st : Status) → is_waiting st ≤ 1
at_most_one Running = omega arith
at_most_one Waiting = omega arith
at_most_one Ended = omega arith
at_most_one (Stopped f site) = omega arith

opening-steps : (s : Setup) (j : ℕ) → (opening s j).steps ≤ 0
unfolding opening
opening-steps s j = omega arith

pub opening-waits : (s : Setup) (j : ℕ) → is_waiting (opening s j).status ≤ 0
unfolding opening
opening-waits s j = go (Rattle.semantics.specs.Item.enter s.kernel.body [])
  where
    go : (left : List Rattle.semantics.specs.Item.Entry) → is_waiting (Rattle.semantics.specs.Item.status_of left) ≤ 0
    go [] = omega arith
    go (e ∷ rest) = omega arith

pub opening-counted : (s : Setup) → Counted s (opening_world s) 0
unfolding opening_world
opening-counted s =
    let a = total-bound (item_count s) 0 (waits_in (opening_world s)) (λ j lt. opening-waits s j) in
    omega (arith, a)

step-counted : (s : Setup) (i : ℕ) (w v : World) (n : ℕ) → Did s i w v → Counted s w n → Counted s v (n + 1)
step-counted s i w v n d c =
    let here : v.items i ≡ move s i (w.items i) d.answer = rw d.items (put_item-same i (move s i (w.items i) d.answer) w.items) in
    let there = λ (j : ℕ) (ne : j ≢ i). ap (λ (f : ℕ → Item). f j) d.items ∙ put_item-other i j (move s i (w.items i) d.answer) w.items ne in
    let a = total-update (item_count s) i (waits_in v) (waits_in w) d.below (λ j lt ne. ap (λ (it : Item). is_waiting it.status) (there j ne)) in
    let b = total-update (item_count s) i (steps_in v) (steps_in w) d.below (λ j lt ne. ap (λ (it : Item). it.steps) (there j ne)) in
    let was : waits_in w i ≡ 0 = ap is_waiting d.next.was in
    let now = at_most_one (v.items i).status in
    let more : steps_in v i ≡ steps_in w i + 1 = ap (λ (it : Item). it.steps) here ∙ d.next.steps in
    omega (arith, a, b, was, now, more)

-- an item that passes a barrier has taken no step, and waits no more
pub past-is : (s : Setup) (i : ℕ) (it : Item) → it.status ≡ Waiting → ((past s i it).steps ≡ it.steps) × (is_waiting (past s i it).status ≡ 0)
past-is s i it h = go (turn s i it (pos 0))
  where
    go : Turn it (past s i it) → ((past s i it).steps ≡ it.steps) × (is_waiting (past s i it).status ≡ 0)
    go (Steps n) = let e : Waiting ≡ Running = sym h ∙ n.was in cc
    go (Passes p) = (p.steps, p.goes)
    go (Stays o e) = let q = subst Rattle.semantics.proofs.Steps.Over h o in elim q [ ]

module _ (s : Setup) (g : ℕ) (w : World) (l : Let s g w (released s g w)) where
  released-at : (j : ℕ) → j < item_count s → (steps_in (released s g w) j ≡ steps_in w j) × (waits_in (released s g w) j ≤ waits_in w j)
  unfolding released
  released-at j lt = go (nat_eq (group_of s j) g) (λ e. past-is s j (w.items j) (may_go-waits s w.items g j l.may lt (eqb-true (group_of s j) g e)))
    where
      go : (b : Bool) → (b ≡ true → ((past s j (w.items j)).steps ≡ (w.items j).steps) × (is_waiting (past s j (w.items j)).status ≡ 0)) → ((cond b (past s j (w.items j)) (w.items j)).steps ≡ (w.items j).steps) × (is_waiting (cond b (past s j (w.items j)) (w.items j)).status ≤ is_waiting (w.items j).status)
      go true h = let q = h refl in (q.0, omega (arith, q.1))
      go false h = (refl, omega arith)

  first-less : 0 < group_size s → waits_in (released s g w) (member s g 0) < waits_in w (member s g 0)
  unfolding released
  first-less full =
      let e = group_of-member s g 0 full in
      let lt = member-below s g 0 l.below full in
      let h = may_go-waits s w.items g (member s g 0) l.may lt e in
      let p = past-is s (member s g 0) (w.items (member s g 0)) h in
      let one : waits_in w (member s g 0) ≡ 1 = ap is_waiting h in
      rw (eq-eqb (group_of s (member s g 0)) g e) (omega (arith, p.1, one))

  released-counted : (n : ℕ) → 0 < group_size s → Counted s w n → Counted s (released s g w) (n + 1)
  released-counted n full c =
      let a = total-same (item_count s) (steps_in (released s g w)) (steps_in w) (λ j lt. (released-at j lt).0) in
      let b = total-less (item_count s) (member s g 0) (waits_in (released s g w)) (waits_in w) (member-below s g 0 l.below full) (λ j lt. (released-at j lt).1) (first-less full) in
      omega (arith, a, b)

happens-counted : (s : Setup) (e : Event) (w v : World) (n : ℕ) → 0 < group_size s → Counted s w n → happens s w e ≡ Some v → Counted s v (n + 1)
happens-counted s (Step i) w v n full c h = step-counted s i w v n (did s i w v h) c
happens-counted s (Release g) w v n full c h =
    let l = let_go s g w v h in
    subst (λ u. Counted s u (n + 1)) (sym l.after) (released-counted s g w (record { below = l.below; may = l.may; after = refl }) n full c)

-- each event is a step, or a release, which lets at least one item go on
pub run-counted : (s : Setup) (es : List Event) (w v : World) (n : ℕ) → 0 < group_size s → Counted s w n → run s es w ≡ Some v → Counted s v (n + length es)
run-counted s [] w v n full c h = let e : w ≡ v = cc in subst (λ u. Counted s u (n + length {A = Event} [])) e (omega (arith, c))
run-counted s (e ∷ es) w v n full c h =
    let t = then_run-is (happens s w e) (run s es) v h in
    let k = run-counted s es t.0 v (n + 1) full (happens-counted s e w t.0 n full c t.1) t.2 in
    omega (arith, k)
