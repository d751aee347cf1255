-- Worlds without their history: what can happen hangs on memory and items alone, and all that follows is a function of them.
use Rattle.std.proofs.Common.{◌≡◌, ℕ, ◌<◌, ℤ, pos, Bool, true, false, cond, Some, refl, sym, ap, ltb-true, lt-ltb, nat_eq, nat_lt}
use Rattle.semantics.specs.Setup.{Setup, group_of, item_count, group_count}
use Rattle.semantics.specs.Memory.{Memory, put}
use Rattle.semantics.specs.Item.{Item, Running}
use Rattle.semantics.specs.Ask.{Ask, Loads, Stores, Goes, Waits, Rests, ask}
use Rattle.semantics.specs.Solo.{moved}
use Rattle.semantics.specs.World.{World, Event, Step, Release, put_item, stepped, released, past, may_go, happens}
use Rattle.semantics.proofs.Steps.{Fair, ask-fair}
use Rattle.semantics.proofs.Events.{guarded-is, some-is, let_go}

pub record State : Type 0 where
  pub memory : Memory
  pub items : ℕ → Item

abbrev pub state : World → State
state w = record { memory = w.memory; items = w.items }

-- what a step reads, and what it leaves in memory
abbrev pub read : Ask → Memory → ℤ
read (Loads at kind site) m = m at
read (Stores at site value next) m = pos 0
read (Goes next) m = pos 0
read (Waits next) m = pos 0
read Rests m = pos 0

abbrev pub wrote : Ask → Memory → Memory
wrote (Loads at kind site) m = m
wrote (Stores at site value next) m = put at value m
wrote (Goes next) m = m
wrote (Waits next) m = m
wrote Rests m = m

abbrev pub counts : Ask → Bool
counts (Loads at kind site) = true
counts (Stores at site value next) = true
counts (Goes next) = true
counts (Waits next) = false
counts Rests = false

unfoldable pub let_items : Setup → ℕ → (ℕ → Item) → ℕ → Item
let_items s g items j = cond (nat_eq (group_of s j) g) (past s j (items j)) (items j)

abbrev pub step_by : State → ℕ → Ask → State
step_by st i k = record { memory = wrote k st.memory; items = put_item i (moved (st.items i) k (read k st.memory)) st.items }

abbrev pub next : Setup → State → Event → State
next s st (Step i) = step_by st i (ask s i (st.items i))
next s st (Release g) = record { memory = st.memory; items = let_items s g st.items }

abbrev pub Can : Setup → State → Event → Type 0
Can s st (Step i) = (i < item_count s) × (counts (ask s i (st.items i)) ≡ true)
Can s st (Release g) = (g < group_count s) × (may_go s st.items g ≡ true)

-- an event of a world, and of its state
pub record Follows (s : Setup) (w v : World) (e : Event) : Type 0 where
  pub can : Can s (state w) e
  pub to : state v ≡ next s (state w) e

stepped-follows : (w v : World) (i : ℕ) (k : Ask) → stepped w i k ≡ Some v → (counts k ≡ true) × (state v ≡ step_by (state w) i k)
stepped-follows w v i (Loads at kind site) h = (refl, ap state (sym (some-is _ v h)))
stepped-follows w v i (Stores at site value next) h = (refl, ap state (sym (some-is _ v h)))
stepped-follows w v i (Goes next) h = (refl, ap state (sym (some-is _ v h)))
stepped-follows w v i (Waits next) h = cc
stepped-follows w v i Rests h = cc

-- an event of a world leads where the state's next says
pub follows : (s : Setup) (w v : World) (e : Event) → happens s w e ≡ Some v → Follows s w v e
unfolding happens released let_items
follows s w v (Step i) h =
    let g = guarded-is (nat_lt i (item_count s)) (stepped w i (ask s i (w.items i))) v h in
    let q = stepped-follows w v i (ask s i (w.items i)) g.1 in
    record { can = (ltb-true i (item_count s) g.0, q.0); to = q.1 }
follows s w v (Release g) h =
    let l = let_go s g w v h in
    record { can = (l.below, l.may); to = ap state l.after }

stepped-can : (w : World) (i : ℕ) (k : Ask) → counts k ≡ true → (v : World) × (stepped w i k ≡ Some v) × (state v ≡ step_by (state w) i k)
stepped-can w i (Loads at kind site) h = (_, refl, refl)
stepped-can w i (Stores at site value next) h = (_, refl, refl)
stepped-can w i (Goes next) h = (_, refl, refl)
stepped-can w i (Waits next) h = cc
stepped-can w i Rests h = cc

-- an event that a state can have, its world can
pub can-happen : (s : Setup) (w : World) (e : Event) → Can s (state w) e → (v : World) × (happens s w e ≡ Some v) × (state v ≡ next s (state w) e)
unfolding happens released let_items
can-happen s w (Step i) c =
    let q = stepped-can w i (ask s i (w.items i)) c.1 in
    (q.0, rw (lt-ltb i (item_count s) c.0) q.1, q.2)
can-happen s w (Release g) c =
    (released s g w, rw (lt-ltb g (group_count s) c.0, c.1) refl, refl)

counts_running : (it : Item) (k : Ask) → Fair it k → counts k ≡ true → it.status ≡ Running
counts_running it (Loads at kind site) f h = f
counts_running it (Stores at site value next) f h = f.was
counts_running it (Goes next) f h = f.was
counts_running it (Waits next) f h = cc
counts_running it Rests f h = cc

pub can_running : (s : Setup) (i : ℕ) (it : Item) → counts (ask s i it) ≡ true → it.status ≡ Running
can_running s i it h = counts_running it (ask s i it) (ask-fair s i it) h
