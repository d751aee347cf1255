-- Along any run each item stands where one of its solo runs stands.
use Rattle.std.proofs.Common.{◌≡◌, ℕ, ◌<◌, ℤ, pos, List, true, Contains, Some, refl, sym, ap, ◌∙◌, subst, ltb-true, nat_lt, ◌%◌}
use Rattle.semantics.specs.Conditions.{Content}
use Rattle.semantics.specs.Setup.{Setup, group_of, item_count, group_size, member}
use Rattle.semantics.specs.Item.{Item, Status, Running, Waiting, Ended, Stopped}
use Rattle.semantics.specs.Ask.{Ask, Loads, Stores, Goes, Waits, Rests, ask}
use Rattle.semantics.specs.Solo.{after, passed, move, Access, Touched, touch}
use Rattle.semantics.specs.Contents.{IsHonest, IsKept, Heeds, StoresKept}
use Rattle.semantics.specs.World.{World, Step, put_item, noted, stepped, may_go, happens, waits}
use Rattle.semantics.proofs.Steps.{Next, Fair, ask-fair}
use Rattle.semantics.proofs.Events.{some-is, guarded-is}
use Rattle.semantics.proofs.HonestRuns.{kept-answers, store-kept}
use Rattle.semantics.proofs.Groups.{both-true, every-at, member-of, place-below, group_size-pos}

-- each store of an honest solo run keeps what buffers hold
abbrev pub Keeps : List Content → Setup → Type 0
Keeps cs s = (i : ℕ) (ws : List ℤ) → i < item_count s → IsHonest s cs i ws → StoresKept s cs (ask s i (after s i ws))

-- a world of a run: each item stands after the words of an honest solo run, memory holds what buffers may hold, items of a group have
-- passed equally many barriers, and each access of the history is one of its item's solo run
pub record Along (cs : List Content) (s : Setup) (w : World) : Type 0 where
  pub words : ℕ → List ℤ
  pub stands : (i : ℕ) → w.items i ≡ after s i (words i)
  pub keeps : Keeps cs s
  pub honest : (i : ℕ) → i < item_count s → IsHonest s cs i (words i)
  pub kept : IsKept s cs w.memory
  pub level : (i j : ℕ) → i < item_count s → j < item_count s → group_of s i ≡ group_of s j → passed s i (words i) ≡ passed s j (words j)
  pub known : (a : Access) → Contains w.history a → (a.item < item_count s) × Touched s a.item (words a.item) a

-- what a step of one item leaves
pub record Did (s : Setup) (i : ℕ) (w v : World) : Type 0 where
  pub answer : ℤ
  pub below : i < item_count s
  pub items : v.items ≡ put_item i (move s i (w.items i) answer) w.items
  pub history : v.history ≡ noted (touch i (w.items i) (ask s i (w.items i))) w.history
  pub next : Next (w.items i) (move s i (w.items i) answer)
  pub heeds : (cs : List Content) → IsKept s cs w.memory → Heeds s cs (ask s i (w.items i)) answer
  pub keeps : (cs : List Content) → IsKept s cs w.memory → StoresKept s cs (ask s i (w.items i)) → IsKept s cs v.memory

did_by : (s : Setup) (i : ℕ) (w v : World) (k : Ask) → i < item_count s → ask s i (w.items i) ≡ k → Fair (w.items i) k → stepped w i k ≡ Some v → Did s i w v
did_by s i w v (Loads at kind site) lt e f h =
    let q = some-is _ v h in
    record {
      answer = w.memory at;
      below = lt;
      items = rw e (ap (λ (x : World). x.items) (sym q));
      history = rw e (ap (λ (x : World). x.history) (sym q));
      next = rw e (record { was = f; steps = refl; local = refl; global = refl });
      heeds = λ cs m. rw e (kept-answers s cs w.memory i (w.items i) at kind site m e);
      keeps = λ cs m h. subst (λ (x : World). IsKept s cs x.memory) q m;
    }
did_by s i w v (Stores at site value next) lt e f h =
    let q = some-is _ v h in
    record {
      answer = pos 0;
      below = lt;
      items = rw e (ap (λ (x : World). x.items) (sym q));
      history = rw e (ap (λ (x : World). x.history) (sym q));
      next = rw e f;
      heeds = λ cs m. rw e tt;
      keeps = λ cs m k. subst (λ (x : World). IsKept s cs x.memory) q (store-kept s cs w.memory i (w.items i) at site value next m e (subst (StoresKept s cs) e k));
    }
did_by s i w v (Goes next) lt e f h =
    let q = some-is _ v h in
    record {
      answer = pos 0;
      below = lt;
      items = rw e (ap (λ (x : World). x.items) (sym q));
      history = rw e (ap (λ (x : World). x.history) (sym q));
      next = rw e f;
      heeds = λ cs m. rw e tt;
      keeps = λ cs m k. subst (λ (x : World). IsKept s cs x.memory) q m;
    }
did_by s i w v (Waits next) lt e f h = cc
did_by s i w v Rests lt e f h = cc

-- a step that happened did just that
pub did : (s : Setup) (i : ℕ) (w v : World) → happens s w (Step i) ≡ Some v → Did s i w v
unfolding happens
did s i w v h =
    let g = guarded-is (nat_lt i (item_count s)) (stepped w i (ask s i (w.items i))) v h in
    did_by s i w v (ask s i (w.items i)) (ltb-true i (item_count s) g.0) refl (ask-fair s i (w.items i)) g.1

waits-is : (st : Status) → waits st ≡ true → st ≡ Waiting
waits-is Running h = cc
waits-is Waiting h = refl
waits-is Ended h = cc
waits-is (Stopped f site) h = cc

-- all items of a group that may go wait
pub may_go-waits : (s : Setup) (items : ℕ → Item) (g i : ℕ) → may_go s items g ≡ true → i < item_count s → group_of s i ≡ g → (items i).status ≡ Waiting
unfolding may_go
may_go-waits s items g i h lt e =
    let size = group_size-pos s i lt in
    let t = every-at (group_size s) _ (i % group_size s) h (place-below s i size) in
    let m : member s g (i % group_size s) ≡ i = sym (ap (λ k. member s k (i % group_size s)) e) ∙ member-of s i size in
    let t' = both-true _ _ t in
    subst (λ k. (items k).status ≡ Waiting) m (waits-is _ t'.0)
