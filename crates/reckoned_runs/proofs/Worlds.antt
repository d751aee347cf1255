-- Where all that is left in a world is reckoned, its events are the same on each machine, and leave it so.
use Rattle.std.proofs.Common.{◌≡◌, ℕ, zero, suc, pos, List, [], ◌∷◌, Bool, true, false, cond, ◌&&◌, Option, Some, None, refl, ap, ap₂, ◌∙◌, nat_eq, nat_lt}
use Rattle.std.proofs.Math.Path.{fun_ext}
use Rattle.semantics.specs.Launch.{Machine}
use Rattle.semantics.specs.Machines.{is_reckoned, with_machine}
use Rattle.semantics.specs.Setup.{Setup, group_of, group_size, group_count, item_count}
use Rattle.semantics.specs.Memory.{Memory, opening_at}
use Rattle.semantics.specs.Item.{Item}
use Rattle.semantics.specs.Ask.{Ask, Loads, Stores, Goes, Waits, Rests, ask}
use Rattle.semantics.specs.Solo.{opening, moved}
use Rattle.semantics.specs.World.{World, Event, Step, Release, opening_world, put_item, stepped, may_go, past, released, guarded, happens, then_run, run}
use Rattle.reckoned_runs.proofs.Lefts.{Reckoned, Keeps, enter-keeps, ask-keeps, moved-keeps}
use Rattle.reckoned_runs.proofs.Asks.{ask-on}

-- all that is left of each item is reckoned
abbrev AllReckoned : (ℕ → Item) → Type 0
AllReckoned items = (i : ℕ) → Reckoned (items i).left

-- and it is so in the world that an event leaves
abbrev Left : Option World → Type 0
Left None = Unit {0}
Left (Some w) = AllReckoned w.items

put-reckoned : (i : ℕ) (it : Item) (items : ℕ → Item) → Reckoned it.left → AllReckoned items → AllReckoned (put_item i it items)
unfolding put_item
put-reckoned i it items h all j = by (nat_eq j i)
  where
    by : (b : Bool) → Reckoned (cond b it (items j)).left
    by true = h
    by false = all j

stepped-left : (w : World) (i : ℕ) (k : Ask) → AllReckoned w.items → Keeps k → Left (stepped w i k)
stepped-left w i (Loads at kind site) all h = put-reckoned i _ w.items (moved-keeps (w.items i) (Loads at kind site) (w.memory at) (all i) h) all
stepped-left w i (Stores at site value next) all h = put-reckoned i next w.items h all
stepped-left w i (Goes next) all h = put-reckoned i next w.items h all
stepped-left w i (Waits next) all h = tt
stepped-left w i Rests all h = tt

released-left : (s : Setup) (g : ℕ) (w : World) → AllReckoned w.items → AllReckoned (released s g w).items
unfolding released
released-left s g w all i = by (nat_eq (group_of s i) g)
  where
    by : (b : Bool) → Reckoned (cond b (past s i (w.items i)) (w.items i)).left
    by true = moved-keeps (w.items i) (ask s i (w.items i)) (pos 0) (all i) (ask-keeps s i (w.items i) (all i))
    by false = all i

guarded-left : (b : Bool) (o : Option World) → Left o → Left (guarded b o)
guarded-left true o h = h
guarded-left false o h = tt

happens-left : (s : Setup) (w : World) (e : Event) → AllReckoned w.items → Left (happens s w e)
unfolding happens
happens-left s w (Step i) all = guarded-left (nat_lt i (item_count s)) (stepped w i (ask s i (w.items i))) (stepped-left w i (ask s i (w.items i)) all (ask-keeps s i (w.items i) (all i)))
happens-left s w (Release g) all = guarded-left (nat_lt g (group_count s) && may_go s w.items g) (Some (released s g w)) (released-left s g w all)

module _ (m n : Machine) (s : Setup) where
  abbrev here : Setup
  here = with_machine m s

  abbrev there : Setup
  there = with_machine n s

  step-on : (w : World) (i : ℕ) → AllReckoned w.items → guarded (nat_lt i (item_count here)) (stepped w i (ask here i (w.items i))) ≡ guarded (nat_lt i (item_count there)) (stepped w i (ask there i (w.items i)))
  unfolding group_size group_count
  step-on w i all = ap (λ k. guarded (nat_lt i (item_count there)) (stepped w i k)) (ask-on m n s i (w.items i) (all i))

  may_go-on : (items : ℕ → Item) (g : ℕ) → may_go here items g ≡ may_go there items g
  unfolding may_go group_size
  may_go-on items g = refl

  released-on : (w : World) (g : ℕ) → AllReckoned w.items → released here g w ≡ released there g w
  unfolding released group_size
  released-on w g all =
      ap (λ (items : ℕ → Item). record { memory = w.memory; items = items; history = w.history })
      (fun_ext (λ i. ap (λ k. cond (nat_eq (group_of there i) g) (moved (w.items i) k (pos 0)) (w.items i)) (ask-on m n s i (w.items i) (all i))))

  release-on : (w : World) (g : ℕ) → AllReckoned w.items → guarded (nat_lt g (group_count here) && may_go here w.items g) (Some (released here g w)) ≡ guarded (nat_lt g (group_count there) && may_go there w.items g) (Some (released there g w))
  unfolding group_count
  release-on w g all = ap₂ (λ b v. guarded (nat_lt g (group_count there) && b) (Some v)) (may_go-on w.items g) (released-on w g all)

  happens-on : (w : World) (e : Event) → AllReckoned w.items → happens here w e ≡ happens there w e
  unfolding happens
  happens-on w (Step i) all = step-on w i all
  happens-on w (Release g) all = release-on w g all

  then-on : (o : Option World) (go go' : World → Option World) → Left o → ((w : World) → AllReckoned w.items → go w ≡ go' w) → then_run o go ≡ then_run o go'
  then-on None go go' h k = refl
  then-on (Some w) go go' h k = k w h

  run-on : (es : List Event) (w : World) → AllReckoned w.items → run here es w ≡ run there es w
  run-on [] w all = refl
  run-on (e ∷ es) w all = ap (λ o. then_run o (run here es)) (happens-on w e all) ∙ then-on (happens there w e) (run here es) (run there es) (happens-left there w e all) (run-on es)

  opening_at-on : (o a k : ℕ) → opening_at here o a k ≡ opening_at there o a k
  opening_at-on zero a k = refl
  opening_at-on (suc g) a k = refl

  opening_items-on : (i : ℕ) → opening here i ≡ opening there i
  unfolding opening
  opening_items-on i = refl

  opening-on : opening_world here ≡ opening_world there
  unfolding opening_world
  opening-on =
      ap₂ (λ (memory : Memory) (items : ℕ → Item). record { memory = memory; items = items; history = [] })
      (fun_ext (λ c. opening_at-on c.owner c.array c.index)) (fun_ext opening_items-on)

  opening-left : is_reckoned s.kernel ≡ true → AllReckoned (opening_world there).items
  unfolding opening_world opening
  opening-left h i = enter-keeps s.kernel.body [] h tt

  pub runs-on : (es : List Event) → is_reckoned s.kernel ≡ true → run (with_machine m s) es (opening_world (with_machine m s)) ≡ run (with_machine n s) es (opening_world (with_machine n s))
  runs-on es h = ap (run here es) opening-on ∙ run-on es (opening_world there) (opening-left h)
