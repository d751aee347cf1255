-- No solo run has more steps than the body costs, where each loop turns no more often than is said of it.
use Rattle.std.proofs.Common.{◌≡◌, ℕ, ◌+◌, ◌≤◌, ◌<◌, ℤ, List, [], ◌∷◌, length, false, arith, refl}
use Rattle.semantics.specs.Setup.{Setup, item_count}
use Rattle.semantics.specs.Item.{Entry, Status, Running, Waiting, Ended, Stopped, Item, enter}
use Rattle.semantics.specs.Ask.{Ask, Loads, Stores, Goes, Waits, Rests, front, passes, by_status, ask}
use Rattle.semantics.specs.Solo.{moved, opening, after}
use Rattle.semantics.specs.Contents.{IsHonest}
use Rattle.loop_bounds.specs.Costs.{cost}
use Rattle.loop_bounds.specs.Turns.{turns_of}
use Rattle.loop_bounds.specs.declared.bound.LoopBound.{LoopBound}
use Rattle.arrivals.specs.Points.{AreFormed}
use Rattle.arrivals.specs.Shown.{Notes, Shown, IsSound, IsShort}
use Rattle.arrivals.proofs.Controlled.{Separate}
use Rattle.rankings.specs.Limits.{Limit, limits, turns_within}
use Rattle.rankings.specs.Ranked.{RanksShown}
use Rattle.rankings.specs.Within.{was_stopped, AreWithin, AlwaysWithin}
use Rattle.rankings.proofs.Bounded.{always_orderly, orderly_then}
use Rattle.rankings.proofs.Listed.{limits-turns}
use Rattle.rankings.proofs.Remaining.{remaining, behind, remaining-enter}
use Rattle.rankings.proofs.Ready.{Ready, ready-body}
use Rattle.rankings.proofs.Separated.{always_separate}
use Rattle.rankings.proofs.Kept.{InFront, own_cost, Holds, Within, Keeps, Heeds, begins, act_keeps}

module _ (s : Setup) (turns : ℕ → ℕ) (i most : ℕ) where
  front_keeps : (it : Item) (left : List Entry) → it.status ≡ Running → it.left ≡ left → Separate left → Ready turns left → InFront left (length it.answers) × (it.steps + remaining turns left ≤ most + length it.answers) → Heeds s turns i most it (front s i it left) → Keeps s turns i most it (front s i it left)
  front_keeps it [] run e p f h q = absurd h.0
  front_keeps it (x ∷ r) run e p f h q = act_keeps s turns i most it x.statement x.turns r (record { runs = run; left = e; formed = p.0; separate = p.1.1; ready = f; few = h.0; sum = h.1 }) q

  passes_keeps : (it : Item) (left : List Entry) → Ready turns left → it.steps + behind turns left ≤ most → Keeps s turns i most it (passes it left)
  passes_keeps it [] f h = λ z. (tt, omega (arith, h))
  passes_keeps it (x ∷ r) f h = λ z. (f.1, begins s turns i most r it.steps h)

  by_status_keeps : (it : Item) (st : Status) → it.status ≡ st → (was_stopped st ≡ false → Separate it.left) → Ready turns it.left → Holds s turns i most it.left (length it.answers) it.steps st → Heeds s turns i most it (by_status s i it st) → Keeps s turns i most it (by_status s i it st)
  by_status_keeps it Running e p f h q = front_keeps it it.left e refl (p refl) f h q
  by_status_keeps it Waiting e p f h q = passes_keeps it it.left f h
  by_status_keeps it Ended e p f h q = λ z. (f, rw e h)
  by_status_keeps it (Stopped x site) e p f h q = λ z. (f, rw e h)

  moves_keep : (it : Item) (z : ℤ) → (was_stopped it.status ≡ false → Separate it.left) → Heeds s turns i most it (ask s i it) → Within s turns i most it → Within s turns i most (moved it (ask s i it) z)
  unfolding ask
  moves_keep it z p q h = by_status_keeps it it.status refl p h.0 h.1 q z

  no_more : (left : List Entry) (n steps : ℕ) (st : Status) → Holds s turns i most left n steps st → steps ≤ most
  no_more [] n steps Running h = absurd h.0
  no_more (e ∷ r) n steps Running h = omega (arith, h.0, h.1, own_cost turns e.statement e.turns)
  no_more left n steps Waiting h = omega (arith, h)
  no_more left n steps Ended h = h
  no_more left n steps (Stopped x site) h = h

module _ (s : Setup) (k : Notes) (limit : ℕ → Limit) (turns : ℕ → ℕ) (sound : IsSound s) (known : Shown s k) (shown : RanksShown s k limit) (enough : (n : ℕ) → turns_within (limit n) ≤ turns n) where
  kept : (i : ℕ) → i < item_count s → (ws : List ℤ) → IsHonest s k.contents i ws → Within s turns i (cost turns s.kernel.body) (after s i ws)
  unfolding opening
  kept i is_item [] fair = (ready-body turns s.kernel.body sound.formed, begins s turns i (cost turns s.kernel.body) (enter s.kernel.body []) 0 (omega (arith, remaining-enter turns s.kernel.body [])))
  kept i is_item (z ∷ ws) fair = moves_keep s turns i (cost turns s.kernel.body) (after s i ws) z
      (λ e. (always_orderly s k limit shown i is_item turns enough sound known ws fair.0 e).separate)
      (λ y e. (orderly_then s k limit shown i is_item turns enough sound known ws fair.0 y e).within) (kept i is_item ws fair.0)

  pub short : IsShort s k.contents (cost turns s.kernel.body)
  short i ws is_item fair = let it = after s i ws in no_more s turns i (cost turns s.kernel.body) it.left (length it.answers) it.steps it.status (kept i is_item ws fair).1

pub ranked_short : (s : Setup) (k : Notes) (limit : ℕ → Limit) → IsSound s → Shown s k → RanksShown s k limit → IsShort s k.contents (cost (λ n. turns_within (limit n)) s.kernel.body)
ranked_short s k limit sound known shown = short s k limit (λ n. turns_within (limit n)) sound known shown (λ n. omega arith)

pub listed_short : (s : Setup) (k : Notes) (bounds : List LoopBound) → IsSound s → Shown s k → RanksShown s k (limits bounds) → IsShort s k.contents (cost (turns_of bounds) s.kernel.body)
listed_short s k bounds sound known shown = short s k (limits bounds) (turns_of bounds) sound known shown (λ n. omega (arith, limits-turns bounds n))

-- what a loop's turns are does not hang on the answer of a move
heeds : (s : Setup) (turns : ℕ → ℕ) (i most : ℕ) (it : Item) (a : Ask) (z : ℤ) → (was_stopped (moved it a z).status ≡ false → AreWithin turns (moved it a z).left) → Heeds s turns i most it a
heeds s turns i most it (Loads at kind site) z h = λ y. h
heeds s turns i most it (Stores at site value next) z h = λ y. h
heeds s turns i most it (Goes next) z h = λ y. h
heeds s turns i most it (Waits next) z h = λ y. h
heeds s turns i most it Rests z h = λ y. h

-- a solo run with so many turns at each moment, whatever is shown of the kernel
module _ (s : Setup) (turns : ℕ → ℕ) (formed : AreFormed s.kernel.body) (i : ℕ) where
  counted : (ws : List ℤ) → AlwaysWithin turns s i ws → Within s turns i (cost turns s.kernel.body) (after s i ws)
  unfolding opening
  counted [] h = (ready-body turns s.kernel.body formed, begins s turns i (cost turns s.kernel.body) (enter s.kernel.body []) 0 (omega (arith, remaining-enter turns s.kernel.body [])))
  counted (z ∷ ws) h = moves_keep s turns i (cost turns s.kernel.body) (after s i ws) z
      (λ e. always_separate s i formed ws) (heeds s turns i (cost turns s.kernel.body) (after s i ws) (ask s i (after s i ws)) z h.0) (counted ws h.1)

  pub steps_counted : (ws : List ℤ) → AlwaysWithin turns s i ws → (after s i ws).steps ≤ cost turns s.kernel.body
  steps_counted ws h = let it = after s i ws in no_more s turns i (cost turns s.kernel.body) it.left (length it.answers) it.steps it.status (counted ws h).1
