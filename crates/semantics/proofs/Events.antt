-- What an event leaves: a step changes its own item alone, and what has ended or was stopped stays.
use Rattle.std.proofs.Common.{◌≡◌, ◌≢◌, ℕ, ◌<◌, ℤ, pos, Bool, true, false, cond, ◌&&◌, ◌⊎◌, Option, Some, refl, sym, ap, ◌∙◌, inl, inr, subst, lt-ltb, ltb-true, nat_eq, nat_lt}
use Rattle.std.proofs.lemmas.Bool.{cases_eq}
use Rattle.semantics.specs.Word.{Fault}
use Rattle.semantics.specs.Core.{Site}
use Rattle.semantics.specs.Setup.{Setup, group_of, group_count, item_count}
use Rattle.semantics.specs.Item.{Item, Running, Waiting, Ended, Stopped}
use Rattle.semantics.specs.Ask.{Ask, Loads, Stores, Goes, Waits, Rests, ask}
use Rattle.semantics.specs.Solo.{moved, move}
use Rattle.semantics.specs.World.{World, Event, Step, Release, stepped, released, may_go, guarded, happens, past}
use Rattle.semantics.proofs.Steps.{Over, Fair, ask-fair}
use Rattle.semantics.proofs.Groups.{both-true}
use Rattle.semantics.proofs.Updates.{put_item-other}

pub some-is : {A : Type 0} (a b : A) → Some a ≡ Some b → a ≡ b
some-is a b h = cc

pub guarded-is : (b : Bool) (o : Option World) (v : World) → guarded b o ≡ Some v → (b ≡ true) × (o ≡ Some v)
guarded-is true o v h = (refl, h)
guarded-is false o v h = cc

-- what a release leaves
pub record Let (s : Setup) (g : ℕ) (w v : World) : Type 0 where
  pub below : g < group_count s
  pub may : may_go s w.items g ≡ true
  pub after : v ≡ released s g w

pub let_go : (s : Setup) (g : ℕ) (w v : World) → happens s w (Release g) ≡ Some v → Let s g w v
unfolding happens
let_go s g w v h =
    let e = guarded-is (nat_lt g (group_count s) && may_go s w.items g) (Some (released s g w)) v h in
    let b = both-true (nat_lt g (group_count s)) (may_go s w.items g) e.0 in
    record { below = ltb-true g (group_count s) b.0; may = b.1; after = sym (some-is (released s g w) v e.1) }

stepped-others : (w v : World) (i j : ℕ) (k : Ask) → j ≢ i → stepped w i k ≡ Some v → v.items j ≡ w.items j
stepped-others w v i j (Loads at kind site) ne h = ap (λ (x : World). x.items j) (sym (some-is _ v h)) ∙ put_item-other i j _ w.items ne
stepped-others w v i j (Stores at site value next) ne h = ap (λ (x : World). x.items j) (sym (some-is _ v h)) ∙ put_item-other i j _ w.items ne
stepped-others w v i j (Goes next) ne h = ap (λ (x : World). x.items j) (sym (some-is _ v h)) ∙ put_item-other i j _ w.items ne
stepped-others w v i j (Waits next) ne h = cc
stepped-others w v i j Rests ne h = cc

pub step-others : (s : Setup) (w v : World) (i j : ℕ) → j ≢ i → happens s w (Step i) ≡ Some v → v.items j ≡ w.items j
unfolding happens
step-others s w v i j ne h =
    stepped-others w v i j (ask s i (w.items i)) ne (guarded-is (nat_lt i (item_count s)) (stepped w i (ask s i (w.items i))) v h).1

-- ended, or stopped by a fault
abbrev pub AtRest : Item → Type 0
AtRest it = (it.status ≡ Ended) ⊎ ((f : Fault) × (site : Site) × (it.status ≡ Stopped f site))

pub rests : (s : Setup) (i : ℕ) (it : Item) → AtRest it → ask s i it ≡ Rests
unfolding ask
rests s i it (inl e) = rw e refl
rests s i it (inr (f, site, e)) = rw e refl

pub move-rests : (s : Setup) (i : ℕ) (it : Item) (answer : ℤ) → AtRest it → move s i it answer ≡ it
move-rests s i it answer h = ap (λ k. moved it k answer) (rests s i it h)

let_by : (b : Bool) (it new : Item) → new ≡ it → cond b new it ≡ it
let_by true it new e = e
let_by false it new e = refl

pub event-rests : (s : Setup) (w v : World) (e : Event) (i : ℕ) → happens s w e ≡ Some v → AtRest (w.items i) → v.items i ≡ w.items i
unfolding happens released
event-rests s w v (Step j) i h r = by (cases_eq i j)
  where
    by : (i ≡ j) ⊎ (i ≢ j) → v.items i ≡ w.items i
    by (inr ne) = step-others s w v j i ne h
    by (inl same) =
        let g = guarded-is (nat_lt j (item_count s)) (stepped w j (ask s j (w.items j))) v h in
        let q : ask s j (w.items j) ≡ Rests = ap (λ n. ask s n (w.items n)) (sym same) ∙ rests s i (w.items i) r in
        absurd (let e = ap (stepped w j) (sym q) ∙ g.1 in cc)
event-rests s w v (Release g) i h r =
    ap (λ (x : World). x.items i) (let_go s g w v h).after ∙ let_by (nat_eq (group_of s i) g) (w.items i) (past s i (w.items i)) (move-rests s i (w.items i) (pos 0) r)

running-goes : (w : World) (i : ℕ) (k : Ask) → Fair (w.items i) k → (w.items i).status ≡ Running → (v : World) × (stepped w i k ≡ Some v)
running-goes w i (Loads at kind site) f h = (_, refl)
running-goes w i (Stores at site value next) f h = (_, refl)
running-goes w i (Goes next) f h = (_, refl)
running-goes w i (Waits next) f h = absurd (let q : Waiting ≡ Running = sym f.was ∙ h in cc)
running-goes w i Rests f h = elim (subst Over h f) [ ]

goes-running : (w v : World) (i : ℕ) (k : Ask) → Fair (w.items i) k → stepped w i k ≡ Some v → (w.items i).status ≡ Running
goes-running w v i (Loads at kind site) f h = f
goes-running w v i (Stores at site value next) f h = f.was
goes-running w v i (Goes next) f h = f.was
goes-running w v i (Waits next) f h = cc
goes-running w v i Rests f h = cc

pub step-possible : (s : Setup) (w : World) (i : ℕ) → i < item_count s → (w.items i).status ≡ Running → (v : World) × (happens s w (Step i) ≡ Some v)
unfolding happens
step-possible s w i lt h =
    let q = running-goes w i (ask s i (w.items i)) (ask-fair s i (w.items i)) h in
    (q.0, rw (lt-ltb i (item_count s) lt) q.1)

pub step-running : (s : Setup) (w v : World) (i : ℕ) → happens s w (Step i) ≡ Some v → (w.items i).status ≡ Running
unfolding happens
step-running s w v i h =
    goes-running w v i (ask s i (w.items i)) (ask-fair s i (w.items i)) (guarded-is (nat_lt i (item_count s)) (stepped w i (ask s i (w.items i))) v h).1
