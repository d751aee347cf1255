-- Two events that can both happen lead to one state in either order.
use Rattle.std.proofs.Common.{◌≡◌, ◌≢◌, ℕ, zero, suc, ◌<◌, ◌⊎◌, ℤ, ◌∷◌, Bool, true, false, cond, Some, refl, sym, ap, ◌∙◌, inl, inr, subst, arith, nat_eq, eqb-true, List}
use Rattle.std.proofs.lemmas.Bool.{cases_eq}
use Rattle.std.proofs.lemmas.Bool.Decides.{nat_tests}
use Rattle.semantics.specs.Conditions.{Content}
use Rattle.semantics.specs.Setup.{Setup, group_of, group_size, item_count, member}
use Rattle.semantics.specs.Memory.{Cell, Memory, same_cell, put}
use Rattle.semantics.specs.Item.{Item, Running, Waiting}
use Rattle.semantics.specs.Ask.{Ask, Loads, Stores, Goes, Waits, Rests, ask}
use Rattle.semantics.specs.Solo.{after, moved, touch, Access, Touched, epoch}
use Rattle.semantics.specs.World.{World, Event, Step, Release, put_item, past, may_go}
use Rattle.semantics.specs.Contents.{IsHonest, IsKept, Heeds}
use Rattle.semantics.specs.Safety.{IsPairSafeWithin}
use Rattle.semantics.proofs.HonestRuns.{kept-answers}
use Rattle.semantics.proofs.Updates.{put_item-same, put_item-other, put-other, same_cell-is}
use Rattle.semantics.proofs.Groups.{every-at, every-by, group_of-member}
use Rattle.reduction.proofs.Epochs.{Level, epochs}
use Rattle.semantics.proofs.Events.{some-is}
use Rattle.reduction.proofs.Along.{Along, may_go-waits}
use Rattle.reduction.proofs.Kept.{touch-item}
use Rattle.reduction.proofs.States.{State, state, read, wrote, let_items, next, Can, can_running}

put_by : (a b : Bool) (u v x : ℤ) → (a ≡ true → b ≡ true → ⊥) → cond b v (cond a u x) ≡ cond a u (cond b v x)
put_by true true u v x h = absurd (h refl refl)
put_by true false u v x h = refl
put_by false b u v x h = refl

-- writes to different elements commute
pub put_comm : (c d : Cell) (u v : ℤ) (m : Memory) → c ≢ d → put d v (put c u m) ≡ put c u (put d v m)
unfolding put
put_comm c d u v m ne = λ k x. put_by (same_cell x c) (same_cell x d) u v (m x) (λ a b. ne (sym (same_cell-is x c a) ∙ same_cell-is x d b)) k

put_item_by : (a b : Bool) (u v x : Item) → (a ≡ true → b ≡ true → ⊥) → cond b v (cond a u x) ≡ cond a u (cond b v x)
put_item_by true true u v x h = absurd (h refl refl)
put_item_by true false u v x h = refl
put_item_by false b u v x h = refl

put_item_comm : (i j : ℕ) (u v : Item) (items : ℕ → Item) → i ≢ j → put_item j v (put_item i u items) ≡ put_item i u (put_item j v items)
unfolding put_item
put_item_comm i j u v items ne = λ k x. put_item_by (nat_eq x i) (nat_eq x j) u v (items x) (λ a b. ne (sym (eqb-true x i a) ∙ eqb-true x j b)) k

-- two next steps do not touch one element with a store among them
abbrev pub Free : ℕ → Item → Ask → ℕ → Item → Ask → Type 0
Free i it k j jt l = (a b : Access) → touch i it k ≡ Some a → touch j jt l ≡ Some b → (a.is_store ≡ true) ⊎ (b.is_store ≡ true) → a.at ≢ b.at

read-wrote : (i j : ℕ) (it jt : Item) (k l : Ask) (m : Memory) → Free i it k j jt l → read l (wrote k m) ≡ read l m
read-wrote i j it jt (Stores c site u next) (Loads d kind' site') m f = put-other c d u m (λ e. f _ _ refl refl (inl refl) (sym e))
read-wrote i j it jt (Stores c site u next) (Stores d site' v next') m f = refl
read-wrote i j it jt (Stores c site u next) (Goes next') m f = refl
read-wrote i j it jt (Stores c site u next) (Waits next') m f = refl
read-wrote i j it jt (Stores c site u next) Rests m f = refl
read-wrote i j it jt (Loads c kind site) l m f = refl
read-wrote i j it jt (Goes next) l m f = refl
read-wrote i j it jt (Waits next) l m f = refl
read-wrote i j it jt Rests l m f = refl

wrote-wrote : (i j : ℕ) (it jt : Item) (k l : Ask) (m : Memory) → Free i it k j jt l → wrote l (wrote k m) ≡ wrote k (wrote l m)
wrote-wrote i j it jt (Stores c site u next) (Stores d site' v next') m f = put_comm c d u v m (f _ _ refl refl (inl refl))
wrote-wrote i j it jt (Stores c site u next) (Loads d kind' site') m f = refl
wrote-wrote i j it jt (Stores c site u next) (Goes next') m f = refl
wrote-wrote i j it jt (Stores c site u next) (Waits next') m f = refl
wrote-wrote i j it jt (Stores c site u next) Rests m f = refl
wrote-wrote i j it jt (Loads c kind site) l m f = refl
wrote-wrote i j it jt (Goes next) l m f = refl
wrote-wrote i j it jt (Waits next) l m f = refl
wrote-wrote i j it jt Rests l m f = refl

pub free-sym : (i j : ℕ) (it jt : Item) (k l : Ask) → Free i it k j jt l → Free j jt l i it k
free-sym i j it jt k l f b a hb ha st e = f a b ha hb (elim st [ inl x ↦ inr x | inr x ↦ inl x ]) (sym e)

pub touch-epoch : (i : ℕ) (it : Item) (k : Ask) (a : Access) → touch i it k ≡ Some a → a.epoch ≡ epoch it a.at.owner
touch-epoch i it (Loads at kind site) a h = subst (λ (x : Access). x.epoch ≡ epoch it x.at.owner) (some-is _ a h) refl
touch-epoch i it (Stores at site value next) a h = subst (λ (x : Access). x.epoch ≡ epoch it x.at.owner) (some-is _ a h) refl
touch-epoch i it (Goes next) a h = cc
touch-epoch i it (Waits next) a h = cc
touch-epoch i it Rests a h = cc

pub epoch-level : (a b : Item) (owner : ℕ) → Level a b → epoch a owner ≡ epoch b owner
epoch-level a b zero l = l.global
epoch-level a b (suc g) l = l.local

pub record Diamond (s : Setup) (st : State) (e f : Event) : Type 0 where
  pub second : Can s (next s st e) f
  pub first : Can s (next s st f) e
  pub same : next s (next s st e) f ≡ next s (next s st f) e

flip : (s : Setup) (st : State) (e f : Event) → Diamond s st e f → Diamond s st f e
flip s st e f d = record { second = d.first; first = d.second; same = sym d.same }

pub state-is : (m n : Memory) (f g : ℕ → Item) → m ≡ n → f ≡ g → (let a : State = record { memory = m; items = f } in let b : State = record { memory = n; items = g } in a ≡ b)
state-is m n f g p q = λ k. record { memory = p k; items = q k }

pub may_go-same : (s : Setup) (items items' : ℕ → Item) (g : ℕ) → 0 < group_size s → ((k : ℕ) → k < group_size s → items' (member s g k) ≡ items (member s g k)) → may_go s items g ≡ true → may_go s items' g ≡ true
unfolding may_go
may_go-same s items items' g full e h = every-by (group_size s) _ (λ k lt.
    let t = every-at (group_size s) _ k h lt in
    rw (e k lt, e 0 full) t)

pub let_items-other : (s : Setup) (g j : ℕ) (items : ℕ → Item) → group_of s j ≢ g → let_items s g items j ≡ items j
unfolding let_items
let_items-other s g j items ne = grind (arith, nat_tests)

-- what a step reads of a kept memory is an honest answer
read-heeds : (s : Setup) (cs : List Content) (i : ℕ) (it : Item) (m : Memory) → IsKept s cs m → (k : Ask) → ask s i it ≡ k → Heeds s cs k (read k m)
read-heeds s cs i it m h (Loads at kind site) e = kept-answers s cs m i it at kind site h e
read-heeds s cs i it m h (Stores at site value next) e = tt
read-heeds s cs i it m h (Goes next) e = tt
read-heeds s cs i it m h (Waits next) e = tt
read-heeds s cs i it m h Rests e = tt

-- items of a group stand at equal epochs
pub along-level : {cs : List Content} (s : Setup) (bound : ℕ) (p : IsPairSafeWithin cs s bound) (w : World) (al : Along cs s w) (i j : ℕ) → i < item_count s → j < item_count s → group_of s i ≡ group_of s j → Level (after s i (al.words i)) (after s j (al.words j))
along-level {cs} s bound p w al i j hi hj same = elim (cases_eq i j) [
  | inl e ↦ record { local = ap (λ k. (after s k (al.words k)).local_epoch) e; global = ap (λ k. (after s k (al.words k)).global_epoch) e }
  | inr ne ↦ epochs s bound i j (record { safe = p; first = hi; second = hj; distinct = ne; group = same }) (al.words i) (al.words j) (al.honest i hi) (al.honest j hj) (al.level i j hi hj same)
]

module _ {cs : List Content} (s : Setup) (bound : ℕ) (full : 0 < group_size s) (p : IsPairSafeWithin cs s bound) (w : World) (al : Along cs s w) where
  here : ℕ → Ask
  here i = ask s i (w.items i)

  -- what the next step reads is an honest answer
  pub answer-here : ℕ → ℤ
  answer-here i = read (ask s i (w.items i)) w.memory

  pub honest-here : (i : ℕ) → i < item_count s → IsHonest s cs i (answer-here i ∷ al.words i)
  unfolding answer-here
  honest-here i hi = (al.honest i hi, subst (λ it. Heeds s cs (ask s i it) (read (ask s i (w.items i)) w.memory)) (al.stands i) (read-heeds s cs i (w.items i) w.memory al.kept (ask s i (w.items i)) refl))

  pub touched-here : (i : ℕ) (a : Access) → touch i (w.items i) (ask s i (w.items i)) ≡ Some a → Touched s i (answer-here i ∷ al.words i) a
  touched-here i a h = let e = rw al.stands at h in inl e

  unordered-here : (i j : ℕ) (a b : Access) → i < item_count s → j < item_count s → a.item ≡ i → b.item ≡ j → a.epoch ≡ epoch (w.items i) a.at.owner → b.epoch ≡ epoch (w.items j) b.at.owner → a.at ≡ b.at → (group_of s a.item ≢ group_of s b.item) ⊎ (a.epoch ≡ b.epoch)
  unordered-here i j a b hi hj ea eb pa pb e = elim (cases_eq (group_of s i) (group_of s j)) [
    | inl same ↦ let l = along-level s bound p w al i j hi hj same in
        inr (pa ∙ ap (λ it. epoch it a.at.owner) (al.stands i) ∙ epoch-level (after s i (al.words i)) (after s j (al.words j)) a.at.owner l ∙ ap (λ it. epoch it a.at.owner) (sym (al.stands j)) ∙ ap (λ (c : Cell). epoch (w.items j) c.owner) e ∙ sym pb)
    | inr ne ↦ inl (λ q. ne (sym (ap (group_of s) ea) ∙ q ∙ ap (group_of s) eb))
  ]

  -- two steps of different items that can both happen do not touch one element with a store among them: that would be a race
  free-here : (i j : ℕ) → i < item_count s → j < item_count s → i ≢ j → Free i (w.items i) (ask s i (w.items i)) j (w.items j) (ask s j (w.items j))
  free-here i j hi hj ne a b ha hb st e =
      let ia = touch-item i (w.items i) (ask s i (w.items i)) a ha in
      let jb = touch-item j (w.items j) (ask s j (w.items j)) b hb in
      p.apart i j (answer-here i ∷ al.words i) (answer-here j ∷ al.words j) a b hi hj ne (honest-here i hi) (honest-here j hj) (touched-here i a ha) (touched-here j b hb)
      (record {
        items = λ q. ne (sym ia ∙ q ∙ jb);
        element = e;
        stored = st;
        unordered = unordered-here i j a b hi hj ia jb (touch-epoch i (w.items i) (ask s i (w.items i)) a ha) (touch-epoch j (w.items j) (ask s j (w.items j)) b hb) e;
      })

  -- two steps
  step_step : (i j : ℕ) → i ≢ j → Can s (state w) (Step i) → Can s (state w) (Step j) → Diamond s (state w) (Step i) (Step j)
  step_step i j ne ci cj =
      let k = ask s i (w.items i) in
      let l = ask s j (w.items j) in
      let f = free-here i j ci.0 cj.0 ne in
      let u = moved (w.items i) (ask s i (w.items i)) (read (ask s i (w.items i)) w.memory) in
      let v = moved (w.items j) (ask s j (w.items j)) (read (ask s j (w.items j)) w.memory) in
      let ej : put_item i u w.items j ≡ w.items j = put_item-other i j u w.items (λ q. ne (sym q)) in
      let ei : put_item j v w.items i ≡ w.items i = put_item-other j i v w.items ne in
      let g = free-sym i j (w.items i) (w.items j) (ask s i (w.items i)) (ask s j (w.items j)) f in
      record {
        second = (cj.0, rw ej cj.1);
        first = (ci.0, rw ei ci.1);
        same = rw (ej, ei, read-wrote i j (w.items i) (w.items j) (ask s i (w.items i)) (ask s j (w.items j)) w.memory f, read-wrote j i (w.items j) (w.items i) (ask s j (w.items j)) (ask s i (w.items i)) w.memory g)
            (state-is _ _ _ _ (wrote-wrote i j (w.items i) (w.items j) (ask s i (w.items i)) (ask s j (w.items j)) w.memory f) (put_item_comm i j u v w.items ne));
      }

  not_in : (i g : ℕ) → Can s (state w) (Step i) → Can s (state w) (Release g) → group_of s i ≢ g
  not_in i g ci cg e =
      let a = may_go-waits s w.items g i cg.1 ci.0 e in
      let b = can_running s i (w.items i) ci.1 in
      let q : Waiting ≡ Running = sym a ∙ b in cc

  -- a step and the release of another group
  step_release : (i g : ℕ) → Can s (state w) (Step i) → Can s (state w) (Release g) → Diamond s (state w) (Step i) (Release g)
  unfolding let_items
  step_release i g ci cg =
      let ne = not_in i g ci cg in
      let u = moved (w.items i) (ask s i (w.items i)) (read (ask s i (w.items i)) w.memory) in
      let ei : let_items s g w.items i ≡ w.items i = let_items-other s g i w.items ne in
      record {
        second = (cg.0, may_go-same s w.items (put_item i u w.items) g full (λ k lt. put_item-other i (member s g k) u w.items (λ q. ne (ap (group_of s) (sym q) ∙ group_of-member s g k lt))) cg.1);
        first = (ci.0, rw ei ci.1);
        same = rw ei (state-is _ _ _ _ refl (λ n j. both u ne j n));
      }
    where
      both : (u : Item) → group_of s i ≢ g → (j : ℕ) → let_items s g (put_item i u w.items) j ≡ put_item i u (let_items s g w.items) j
      both u ne j = elim (cases_eq j i) [
        | inl e ↦ subst (λ k. let_items s g (put_item i u w.items) k ≡ put_item i u (let_items s g w.items) k) (sym e)
            (let_items-other s g i (put_item i u w.items) ne ∙ put_item-same i u w.items ∙ sym (put_item-same i u (let_items s g w.items)))
        | inr other ↦ ap (λ it. cond (nat_eq (group_of s j) g) (past s j it) it) (put_item-other i j u w.items other) ∙ sym (put_item-other i j u (let_items s g w.items) other)
      ]

  let_by : (j : ℕ) (a b : Bool) (it : Item) → (a ≡ true → b ≡ true → ⊥) → cond b (past s j (cond a (past s j it) it)) (cond a (past s j it) it) ≡ cond a (past s j (cond b (past s j it) it)) (cond b (past s j it) it)
  let_by j true true it h = absurd (h refl refl)
  let_by j true false it h = refl
  let_by j false true it h = refl
  let_by j false false it h = refl

  release_may : (g h : ℕ) → g ≢ h → Can s (state w) (Release h) → Can s (next s (state w) (Release g)) (Release h)
  release_may g h ne ch = (ch.0, may_go-same s w.items (let_items s g w.items) h full (λ k lt. let_items-other s g (member s h k) w.items (λ q. ne (sym q ∙ group_of-member s h k lt))) ch.1)

  -- the releases of two groups
  release_release : (g h : ℕ) → g ≢ h → Can s (state w) (Release g) → Can s (state w) (Release h) → Diamond s (state w) (Release g) (Release h)
  unfolding let_items
  release_release g h ne cg ch = record {
    second = release_may g h ne ch;
    first = release_may h g (λ q. ne (sym q)) cg;
    same = state-is _ _ _ _ refl (λ n j. let_by j (nat_eq (group_of s j) g) (nat_eq (group_of s j) h) (w.items j) (λ a b. ne (sym (eqb-true (group_of s j) g a) ∙ eqb-true (group_of s j) h b)) n);
  }

  -- two events that can both happen are the same, or can happen in either order and lead to one state
  pub diamond : (e f : Event) → Can s (state w) e → Can s (state w) f → (e ≡ f) ⊎ Diamond s (state w) e f
  diamond (Step i) (Step j) ce cf = elim (cases_eq i j) [ inl q ↦ inl (ap Step q) | inr ne ↦ inr (step_step i j ne ce cf) ]
  diamond (Step i) (Release g) ce cf = inr (step_release i g ce cf)
  diamond (Release g) (Step i) ce cf = inr (flip s (state w) (Step i) (Release g) (step_release i g cf ce))
  diamond (Release g) (Release h) ce cf = elim (cases_eq g h) [ inl q ↦ inl (ap Release q) | inr ne ↦ inr (release_release g h ne ce cf) ]
