-- An item alone over the round's memory goes as it goes in the world, where no other item of the round stored what it loads.
use Rattle.std.proofs.Common.{◌≡◌, ◌≢◌, ℕ, zero, suc, ◌+◌, ◌<◌, ◌≤◌, ◌⊎◌, ℤ, List, [], ◌∷◌, ◌++◌, Bool, true, false, cond, Some, refl, sym, ap, ◌∙◌, inl, inr, subst, arith, nat_eq}
use Rattle.std.proofs.lemmas.Bool.{cases_eq, cases_Bool}
use Rattle.semantics.specs.Conditions.{Content}
use Rattle.semantics.specs.Setup.{Setup, group_of, group_size, item_count}
use Rattle.semantics.specs.Memory.{Cell, Memory, same_cell, put}
use Rattle.semantics.specs.Item.{Item, Running, Waiting}
use Rattle.semantics.specs.Ask.{Ask, Loads, Stores, Goes, Waits, Rests, ask}
use Rattle.semantics.specs.Solo.{after, moved, touch, Access, Touched, epoch}
use Rattle.semantics.specs.World.{World, Step, put_item}
use Rattle.semantics.specs.Rounds.{Part, applied, alone, alone_by}
use Rattle.semantics.specs.Contents.{IsHonest}
use Rattle.semantics.specs.Safety.{IsPairSafeWithin}
use Rattle.semantics.proofs.Steps.{Next, Over, Fair, ask-fair}
use Rattle.semantics.proofs.Updates.{put_item-same, put_item-other}
use Rattle.reduction.proofs.Along.{Along}
use Rattle.reduction.proofs.Kept.{touch-item}
use Rattle.reduction.proofs.Epochs.{Level}
use Rattle.reduction.proofs.States.{State, read, wrote, counts, step_by, next}
use Rattle.reduction.proofs.Diamond.{answer-here, honest-here, touched-here, touch-epoch, epoch-level, state-is}
use Rattle.reduction.proofs.Confluence.{Good, good-next, Onward, onward-here, onward-first}

-- an honest solo run of an item stores to this element in this epoch
pub record Stored (cs : List Content) (s : Setup) (j : ℕ) (c : Cell) (when : ℕ) : Type 0 where
  pub below : j < item_count s
  pub words : List ℤ
  pub honest : IsHonest s cs j words
  pub access : Access
  pub touched : Touched s j words access
  pub at : access.at ≡ c
  pub is_store : access.is_store ≡ true
  pub epoch_is : access.epoch ≡ when

-- another item stores there, with nothing that orders it
pub record Tainted (cs : List Content) (s : Setup) (i : ℕ) (it : Item) (c : Cell) : Type 0 where
  pub other : ℕ
  pub when : ℕ
  pub stored : Stored cs s other c when
  pub distinct : i ≢ other
  pub unordered : (group_of s i ≢ group_of s other) ⊎ (epoch it c.owner ≡ when)

touched-item : (s : Setup) (j : ℕ) (ws : List ℤ) (a : Access) → Touched s j ws a → a.item ≡ j
touched-item s j [] a h = elim h [ ]
touched-item s j (z ∷ ws) a (inl h) = touch-item j (after s j ws) (ask s j (after s j ws)) a h
touched-item s j (z ∷ ws) a (inr h) = touched-item s j ws a h

untainted_by : {cs : List Content} (s : Setup) (bound : ℕ) → 0 < group_size s → (p : IsPairSafeWithin cs s bound) (w : World) (al : Along cs s w) (i : ℕ) → i < item_count s → (a : Access) → touch i (w.items i) (ask s i (w.items i)) ≡ Some a → Tainted cs s i (w.items i) a.at → ⊥
untainted_by {cs} s bound full p w al i hi a h t =
    let ia = touch-item i (w.items i) (ask s i (w.items i)) a h in
    let jb = touched-item s t.other t.stored.words t.stored.access t.stored.touched in
    let ea = touch-epoch i (w.items i) (ask s i (w.items i)) a h in
    p.apart i t.other (answer-here s bound full p w al i ∷ al.words i) t.stored.words a t.stored.access hi t.stored.below t.distinct (honest-here s bound full p w al i hi) t.stored.honest (touched-here s bound full p w al i a h) t.stored.touched
    (record {
      items = λ q. t.distinct (sym ia ∙ q ∙ jb);
      element = sym t.stored.at;
      stored = inr t.stored.is_store;
      unordered = elim t.unordered [ inl ne ↦ inl (λ q. ne (sym (ap (group_of s) ia) ∙ q ∙ ap (group_of s) jb)) | inr e ↦ inr (ea ∙ e ∙ sym t.stored.epoch_is) ];
    })

-- a load of an element that another item has stored to, with nothing that orders the two, would be a race
untainted : {cs : List Content} (s : Setup) (bound : ℕ) → 0 < group_size s → (p : IsPairSafeWithin cs s bound) (st : State) → Good cs s st → (i : ℕ) → i < item_count s → (a : Access) → touch i (st.items i) (ask s i (st.items i)) ≡ Some a → Tainted cs s i (st.items i) a.at → ⊥
untainted {cs} s bound full p st g i hi = subst (λ (x : State). (a : Access) → touch i (x.items i) (ask s i (x.items i)) ≡ Some a → Tainted cs s i (x.items i) a.at → ⊥) g.is (untainted_by s bound full p g.world g.along i hi)

own_by : {cs : List Content} (s : Setup) (bound : ℕ) → 0 < group_size s → (p : IsPairSafeWithin cs s bound) (w : World) (al : Along cs s w) (i : ℕ) → i < item_count s → (a : Access) → a.is_store ≡ true → touch i (w.items i) (ask s i (w.items i)) ≡ Some a → Stored cs s i a.at (epoch (w.items i) a.at.owner)
own_by {cs} s bound full p w al i hi a st h = record { below = hi; words = answer-here s bound full p w al i ∷ al.words i; honest = honest-here s bound full p w al i hi; access = a; touched = touched-here s bound full p w al i a h; at = refl; is_store = st; epoch_is = touch-epoch i (w.items i) (ask s i (w.items i)) a h }

own_stored : {cs : List Content} (s : Setup) (bound : ℕ) → 0 < group_size s → (p : IsPairSafeWithin cs s bound) (st : State) → Good cs s st → (i : ℕ) → i < item_count s → (a : Access) → a.is_store ≡ true → touch i (st.items i) (ask s i (st.items i)) ≡ Some a → Stored cs s i a.at (epoch (st.items i) a.at.owner)
own_stored {cs} s bound full p st g i hi a h = subst (λ (x : State). touch i (x.items i) (ask s i (x.items i)) ≡ Some a → Stored cs s i a.at (epoch (x.items i) a.at.owner)) g.is (own_by s bound full p g.world g.along i hi a h)

-- two memories agree, but for what is tainted
abbrev pub Matches : List Content → Setup → ℕ → Item → Memory → Memory → Type 0
Matches cs s i it m n = (c : Cell) → (m c ≡ n c) ⊎ Tainted cs s i it c

read-same : {cs : List Content} (s : Setup) (i : ℕ) (it : Item) (k : Ask) (m n : Memory) → Matches cs s i it m n → ((a : Access) → touch i it k ≡ Some a → Tainted cs s i it a.at → ⊥) → read k m ≡ read k n
read-same {cs} s i it (Loads at kind site) m n h un = elim (h at) [ inl e ↦ e | inr t ↦ absurd (un _ refl t) ]
read-same {cs} s i it (Stores at site value next) m n h un = refl
read-same {cs} s i it (Goes next) m n h un = refl
read-same {cs} s i it (Waits next) m n h un = refl
read-same {cs} s i it Rests m n h un = refl

pub put-either : {P : Type 0} (c d : Cell) (v : ℤ) (m n : Memory) → (m d ≡ n d) ⊎ P → (put c v m d ≡ put c v n d) ⊎ P
unfolding put
put-either {P} c d v m n h = go (same_cell d c)
  where
    go : (b : Bool) → (cond b v (m d) ≡ cond b v (n d)) ⊎ P
    go true = inl refl
    go false = h

-- after equal steps the memories still agree, but for what is tainted
wrote-matches : {cs : List Content} (s : Setup) (i : ℕ) (it : Item) (k : Ask) (m n : Memory) → Matches cs s i it m n → Matches cs s i it (wrote k m) (wrote k n)
wrote-matches {cs} s i it (Loads at kind site) m n h = h
wrote-matches {cs} s i it (Stores at site value next) m n h = λ c. put-either at c value m n (h c)
wrote-matches {cs} s i it (Goes next) m n h = h
wrote-matches {cs} s i it (Waits next) m n h = h
wrote-matches {cs} s i it Rests m n h = h

abbrev own : Ask → List (Cell × ℤ)
own (Loads at kind site) = []
own (Stores at site value next) = (at, value) ∷ []
own (Goes next) = []
own (Waits next) = []
own Rests = []

abbrev with_own : List (Cell × ℤ) → Part → Part
with_own xs p = record { item = p.item; stores = xs ++ p.stores }

alone-counts : (go : Item → Memory → Part) (it : Item) (m : Memory) (k : Ask) → counts k ≡ true → alone_by go it m k ≡ with_own (own k) (go (moved it k (read k m)) (wrote k m))
alone-counts go it m (Loads at kind site) h = refl
alone-counts go it m (Stores at site value next) h = refl
alone-counts go it m (Goes next) h = refl
alone-counts go it m (Waits next) h = cc
alone-counts go it m Rests h = cc

alone-rests : (go : Item → Memory → Part) (it : Item) (m : Memory) (k : Ask) → counts k ≡ false → alone_by go it m k ≡ record { item = it; stores = [] }
alone-rests go it m (Loads at kind site) h = cc
alone-rests go it m (Stores at site value next) h = cc
alone-rests go it m (Goes next) h = cc
alone-rests go it m (Waits next) h = refl
alone-rests go it m Rests h = refl

applied-own : (k : Ask) (xs : List (Cell × ℤ)) (m : Memory) → applied (own k ++ xs) m ≡ applied xs (wrote k m)
applied-own (Loads at kind site) xs m = refl
applied-own (Stores at site value next) xs m = refl
applied-own (Goes next) xs m = refl
applied-own (Waits next) xs m = refl
applied-own Rests xs m = refl

counts-next : (it : Item) (k : Ask) (z : ℤ) → Fair it k → counts k ≡ true → Next it (moved it k z)
counts-next it (Loads at kind site) z f h = record { was = f; steps = refl; local = refl; global = refl }
counts-next it (Stores at site value next) z f h = f
counts-next it (Goes next) z f h = f
counts-next it (Waits next) z f h = cc
counts-next it Rests z f h = cc

rests-not_running : (it : Item) (k : Ask) → Fair it k → counts k ≡ false → it.status ≡ Running → ⊥
rests-not_running it (Loads at kind site) f h e = cc
rests-not_running it (Stores at site value next) f h e = cc
rests-not_running it (Goes next) f h e = cc
rests-not_running it (Waits next) f h e = let q : Waiting ≡ Running = sym f.was ∙ e in cc
rests-not_running it Rests f h e = let q = subst Over e f in elim q [ ]

abbrev pub Each : (Cell → Type 0) → List (Cell × ℤ) → Type 0
Each P [] = Unit {0}
Each P (x ∷ xs) = P x.0 × Each P xs

pub Each-map : (P Q : Cell → Type 0) (xs : List (Cell × ℤ)) → ((c : Cell) → P c → Q c) → Each P xs → Each Q xs
Each-map P Q [] f h = tt
Each-map P Q (x ∷ xs) f h = (f x.0 h.0, Each-map P Q xs f h.1)

pub Each-append : (P : Cell → Type 0) (xs ys : List (Cell × ℤ)) → Each P xs → Each P ys → Each P (xs ++ ys)
Each-append P [] ys h k = k
Each-append P (x ∷ xs) ys h k = (h.0, Each-append P xs ys h.1 k)

own-each : (i : ℕ) (it : Item) (k : Ask) (P : Cell → Type 0) → ((a : Access) → a.is_store ≡ true → touch i it k ≡ Some a → P a.at) → Each P (own k)
own-each i it (Loads at kind site) P f = tt
own-each i it (Stores at site value next) P f = (f _ refl refl, tt)
own-each i it (Goes next) P f = tt
own-each i it (Waits next) P f = tt
own-each i it Rests P f = tt

put_twice : (i : ℕ) (a b : Item) (items : ℕ → Item) → put_item i b (put_item i a items) ≡ put_item i b items
unfolding put_item
put_twice i a b items = λ k j. go (nat_eq j i) (items j) k
  where
    go : (x : Bool) (it : Item) → cond x b (cond x a it) ≡ cond x b it
    go true it = refl
    go false it = refl

put_self : (i : ℕ) (items : ℕ → Item) → put_item i (items i) items ≡ items
put_self i items = λ k j. go j (cases_eq j i) k
  where
    go : (j : ℕ) → (j ≡ i) ⊎ (j ≡ i → ⊥) → put_item i (items i) items j ≡ items j
    go j (inl e) = subst (λ n. put_item i (items i) items n ≡ items n) (sym e) (put_item-same i (items i) items)
    go j (inr ne) = put_item-other i j (items i) items ne

-- what an item's part of a round leaves of a state
abbrev pub left_by : State → ℕ → Part → State
left_by st i p = record { memory = applied p.stores st.memory; items = put_item i p.item st.items }

pub record Ran (cs : List Content) (s : Setup) (i fuel : ℕ) (st : State) (it : Item) (part : Part) : Type 0 where
  pub onward : Onward s st (left_by st i part)
  pub stored : Each (λ c. Stored cs s i c (epoch it c.owner)) part.stores
  pub long : part.item.status ≡ Running → it.steps + fuel ≤ part.item.steps
  pub moves : (part.item ≡ it) ⊎ (it.steps + 1 ≤ part.item.steps)

stays : {cs : List Content} (s : Setup) (i fuel : ℕ) (st : State) → (fuel ≡ 0) ⊎ ((st.items i).status ≡ Running → ⊥) → Ran cs s i fuel st (st.items i) (record { item = st.items i; stores = [] })
stays {cs} s i fuel st h = record {
  onward = onward-here s st _ (state-is _ _ _ _ refl (sym (put_self i st.items)));
  stored = tt;
  long = λ r. elim h [ inl e ↦ omega (arith, e) | inr rests ↦ absurd (rests r) ];
  moves = inl refl;
}

module _ {cs : List Content} (s : Setup) (bound : ℕ) (full : 0 < group_size s) (p : IsPairSafeWithin cs s bound) (i : ℕ) (hi : i < item_count s) where
  one_more : (fuel : ℕ) (st : State) (m : Memory) (k : Ask) → ask s i (st.items i) ≡ k → counts k ≡ true → Good cs s st → read k st.memory ≡ read k m → Ran cs s i fuel (step_by st i k) (moved (st.items i) k (read k m)) (alone s i fuel (moved (st.items i) k (read k m)) (wrote k m)) → Ran cs s i (suc fuel) st (st.items i) (with_own (own k) (alone s i fuel (moved (st.items i) k (read k m)) (wrote k m)))
  one_more fuel st m k e c g same r =
      let it = st.items i in
      let it1 = moved (st.items i) k (read k m) in
      let part = alone s i fuel (moved (st.items i) k (read k m)) (wrote k m) in
      let nx : Next (st.items i) (moved (st.items i) k (read k m)) = counts-next (st.items i) k (read k m) (subst (Fair (st.items i)) e (ask-fair s i (st.items i))) c in
      let to : left_by (step_by st i k) i part ≡ left_by st i (with_own (own k) part) = state-is _ _ _ _ (sym (applied-own k part.stores st.memory)) (put_twice i _ part.item st.items) in
      let l : Level (moved (st.items i) k (read k m)) (st.items i) = record { local = nx.local; global = nx.global } in
      record {
        onward = onward-first s st _ (Step i) (hi, rw e c) (rw e (subst (Onward s (step_by st i k)) to r.onward));
        stored = Each-append (λ x. Stored cs s i x (epoch (st.items i) x.owner)) (own k) part.stores
            (own-each i (st.items i) k (λ x. Stored cs s i x (epoch (st.items i) x.owner)) (λ a w h. own_stored s bound full p st g i hi a w (ap (touch i (st.items i)) e ∙ h)))
            (Each-map (λ x. Stored cs s i x (epoch (moved (st.items i) k (read k m)) x.owner)) (λ x. Stored cs s i x (epoch (st.items i) x.owner)) part.stores (λ x h. subst (Stored cs s i x) (epoch-level (moved (st.items i) k (read k m)) (st.items i) x.owner l) h) r.stored);
        long = λ h. let q = r.long h in let n = nx.steps in omega (arith, q, n);
        moves = inr (elim r.moves [ inl q ↦ let a = ap (λ (x : Item). x.steps) q in let n = nx.steps in omega (arith, a, n) | inr q ↦ let n = nx.steps in omega (arith, q, n) ]);
      }

  tainted-at : (a b : Item) → Level a b → (c : Cell) → Tainted cs s i b c → Tainted cs s i a c
  tainted-at a b l c t = record {
    other = t.other;
    when = t.when;
    stored = t.stored;
    distinct = t.distinct;
    unordered = elim t.unordered [ inl ne ↦ inl ne | inr e ↦ inr (epoch-level a b c.owner l ∙ e) ];
  }

  goes_on : (fuel : ℕ) (st : State) (m : Memory) → Good cs s st → Matches cs s i (st.items i) st.memory m → ((st' : State) (m' : Memory) → Good cs s st' → Matches cs s i (st'.items i) st'.memory m' → Ran cs s i fuel st' (st'.items i) (alone s i fuel (st'.items i) m')) → (counts (ask s i (st.items i)) ≡ true) ⊎ (counts (ask s i (st.items i)) ≡ false) → Ran cs s i (suc fuel) st (st.items i) (alone s i (suc fuel) (st.items i) m)
  goes_on fuel st m g h again (inl c) =
      let it = st.items i in
      let same = read-same s i (st.items i) (ask s i (st.items i)) st.memory m h (untainted s bound full p st g i hi) in
      let z = read (ask s i (st.items i)) m in
      let e : (step_by st i (ask s i (st.items i))).items i ≡ moved (st.items i) (ask s i (st.items i)) (read (ask s i (st.items i)) m) = put_item-same i _ st.items ∙ ap (moved (st.items i) (ask s i (st.items i))) same in
      let nx : Next (st.items i) (moved (st.items i) (ask s i (st.items i)) (read (ask s i (st.items i)) m)) = counts-next (st.items i) (ask s i (st.items i)) _ (ask-fair s i (st.items i)) c in
      let l : Level ((step_by st i (ask s i (st.items i))).items i) (st.items i) = subst (λ (x : Item). Level x (st.items i)) (sym e) (record { local = nx.local; global = nx.global }) in
      let r = again (step_by st i (ask s i (st.items i))) (wrote (ask s i (st.items i)) m) (good-next s st (Step i) g (hi, c))
      (λ x. elim (wrote-matches s i (st.items i) (ask s i (st.items i)) st.memory m h x) [ inl q ↦ inl q | inr t ↦ inr (tainted-at ((step_by st i (ask s i (st.items i))).items i) (st.items i) l x t) ]) in
      let r' = subst (λ (x : Item). Ran cs s i fuel (step_by st i (ask s i (st.items i))) x (alone s i fuel x (wrote (ask s i (st.items i)) m))) e r in
      subst (Ran cs s i (suc fuel) st (st.items i)) (sym (alone-counts (alone s i fuel) (st.items i) m (ask s i (st.items i)) c)) (one_more fuel st m (ask s i (st.items i)) refl c g same r')
  goes_on fuel st m g h again (inr c) =
      subst (Ran cs s i (suc fuel) st (st.items i)) (sym (alone-rests (alone s i fuel) (st.items i) m (ask s i (st.items i)) c)) (stays s i (suc fuel) st (inr (rests-not_running (st.items i) (ask s i (st.items i)) (ask-fair s i (st.items i)) c)))

  alone-on : (fuel : ℕ) (st : State) (m : Memory) → Good cs s st → Matches cs s i (st.items i) st.memory m → Ran cs s i fuel st (st.items i) (alone s i fuel (st.items i) m)
  alone-on zero st m g h = stays s i 0 st (inl refl)
  alone-on (suc fuel) st m g h = goes_on fuel st m g h (alone-on fuel) (cases_Bool (counts (ask s i (st.items i))))

  -- an item alone over the round's memory does what it does in the world, up to its next arrival or its end
  pub alone-way : (fuel : ℕ) (st : State) (m : Memory) (it : Item) → Good cs s st → st.items i ≡ it → Matches cs s i it st.memory m → Ran cs s i fuel st it (alone s i fuel it m)
  alone-way fuel st m it g e = subst (λ (x : Item). Matches cs s i x st.memory m → Ran cs s i fuel st x (alone s i fuel x m)) e (alone-on fuel st m g)
