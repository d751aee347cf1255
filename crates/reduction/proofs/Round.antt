-- One round of a group, item by item, in the world as in the definition of the result.
use Rattle.std.proofs.Common.{◌≡◌, ◌≢◌, ℕ, zero, suc, ◌+◌, ◌<◌, ◌≤◌, ◌⊎◌, ℤ, List, [], ◌∷◌, ◌++◌, Bool, true, false, cond, refl, sym, ap, ◌∙◌, inl, inr, subst, arith}
use Rattle.std.proofs.lemmas.Bool.{cases_eq}
use Rattle.semantics.specs.Conditions.{Content}
use Rattle.semantics.specs.Setup.{Setup, group_of, group_size, item_count, group_count, member}
use Rattle.semantics.specs.Memory.{Cell, Memory, same_cell, put}
use Rattle.semantics.specs.Item.{Item, Running}
use Rattle.semantics.specs.Solo.{epoch}
use Rattle.semantics.specs.World.{put_item}
use Rattle.semantics.specs.Rounds.{Part, applied, alone, round_stores}
use Rattle.semantics.specs.Safety.{IsPairSafeWithin}
use Rattle.semantics.proofs.Updates.{put_item-same, put_item-other, same_cell-is}
use Rattle.semantics.proofs.Groups.{group_of-member, member-below}
use Rattle.reduction.proofs.Epochs.{Level}
use Rattle.reduction.proofs.States.{State}
use Rattle.reduction.proofs.Diamond.{along-level, epoch-level, state-is}
use Rattle.reduction.proofs.Confluence.{Good, Onward, onward-here, onward-trans, good-onward}
use Rattle.reduction.proofs.Alone.{Stored, Tainted, Matches, Each, Each-map, Each-append, alone-way, left_by, put-either}

pub applied-append : (xs ys : List (Cell × ℤ)) (m : Memory) → applied (xs ++ ys) m ≡ applied ys (applied xs m)
applied-append [] ys m = refl
applied-append (x ∷ xs) ys m = applied-append xs ys (put x.0 x.1 m)

pub applied-either : (P : Cell → Type 0) (xs : List (Cell × ℤ)) (m n : Memory) → ((c : Cell) → (m c ≡ n c) ⊎ P c) → (c : Cell) → (applied xs m c ≡ applied xs n c) ⊎ P c
applied-either P [] m n h c = h c
applied-either P (x ∷ xs) m n h c = applied-either P xs (put x.0 x.1 m) (put x.0 x.1 n) (λ d. put-either x.0 d x.1 m n (h d)) c

put-cases : (P : Cell → Type 0) (c d : Cell) (v : ℤ) (m : Memory) → P c → (put c v m d ≡ m d) ⊎ P d
unfolding put
put-cases P c d v m h = go (same_cell d c) (λ e. subst P (sym (same_cell-is d c e)) h)
  where
    go : (b : Bool) → (b ≡ true → P d) → (cond b v (m d) ≡ m d) ⊎ P d
    go true k = inr (k refl)
    go false k = inl refl

pub applied-cases : (P : Cell → Type 0) (xs : List (Cell × ℤ)) (m : Memory) (c : Cell) → Each P xs → (applied xs m c ≡ m c) ⊎ P c
applied-cases P [] m c h = inl refl
applied-cases P (x ∷ xs) m c h = elim (applied-cases P xs (put x.0 x.1 m) c h.1) [
  | inl e ↦ elim (put-cases P x.0 c x.1 m h.0) [ inl q ↦ inl (e ∙ q) | inr q ↦ inr q ]
  | inr q ↦ inr q
]

pub member-inj : (s : Setup) (g k l : ℕ) → member s g k ≡ member s g l → k ≡ l
member-inj s g k l e = omega arith

-- items of a group are level in a state of a run
pub good-level : {cs : List Content} (s : Setup) (bound : ℕ) (p : IsPairSafeWithin cs s bound) (st : State) → Good cs s st → (i j : ℕ) → i < item_count s → j < item_count s → group_of s i ≡ group_of s j → Level (st.items i) (st.items j)
good-level {cs} s bound p st g i j hi hj e =
    let al = g.along in
    let l = along-level s bound p g.world al i j hi hj e in
    let a = sym (ap (λ (x : State). x.items i) g.is) ∙ al.stands i in
    let b = sym (ap (λ (x : State). x.items j) g.is) ∙ al.stands j in
    record {
      local = ap (λ (x : Item). x.local_epoch) a ∙ l.local ∙ ap (λ (x : Item). x.local_epoch) (sym b);
      global = ap (λ (x : Item). x.global_epoch) a ∙ l.global ∙ ap (λ (x : Item). x.global_epoch) (sym b);
    }

-- stored by an item of another group
pub record Foreign (cs : List Content) (s : Setup) (g : ℕ) (c : Cell) : Type 0 where
  pub other : ℕ
  pub when : ℕ
  pub stored : Stored cs s other c when
  pub group : group_of s other ≢ g

-- stored in this round, by one of the first k items
pub record From (cs : List Content) (s : Setup) (g : ℕ) (st : State) (k : ℕ) (c : Cell) : Type 0 where
  pub place : ℕ
  pub below : place < k
  pub stored : Stored cs s (member s g place) c (epoch (st.items (member s g place)) c.owner)

-- the items when the first k have had their part
abbrev pub advanced : Setup → ℕ → ℕ → (ℕ → Item) → Memory → ℕ → ℕ → Item
advanced s g fuel items m zero = items
advanced s g fuel items m (suc k) = put_item (member s g k) (alone s (member s g k) fuel (items (member s g k)) m).item (advanced s g fuel items m k)

pub advanced-other : (s : Setup) (g fuel : ℕ) (items : ℕ → Item) (m : Memory) (k j : ℕ) → ((l : ℕ) → l < k → j ≢ member s g l) → advanced s g fuel items m k j ≡ items j
advanced-other s g fuel items m zero j h = refl
advanced-other s g fuel items m (suc k) j h =
    put_item-other (member s g k) j _ (advanced s g fuel items m k) (h k (omega arith)) ∙ advanced-other s g fuel items m k j (λ l lt. h l (omega arith))

pub advanced-at : (s : Setup) (g fuel : ℕ) (items : ℕ → Item) (m : Memory) (k l : ℕ) → l < k → advanced s g fuel items m k (member s g l) ≡ (alone s (member s g l) fuel (items (member s g l)) m).item
advanced-at s g fuel items m zero l lt = absurd (omega arith)
advanced-at s g fuel items m (suc k) l lt = elim (cases_eq l k) [
  | inl e ↦ subst (λ n. advanced s g fuel items m (suc k) (member s g n) ≡ (alone s (member s g n) fuel (items (member s g n)) m).item) (sym e) (put_item-same (member s g k) _ (advanced s g fuel items m k))
  | inr ne ↦ put_item-other (member s g k) (member s g l) _ (advanced s g fuel items m k) (λ q. ne (member-inj s g l k q)) ∙ advanced-at s g fuel items m k l (omega (arith, ne))
]

module _ {cs : List Content} (s : Setup) (bound : ℕ) (full : 0 < group_size s) (p : IsPairSafeWithin cs s bound) (g : ℕ) (hg : g < group_count s) (fuel : ℕ) (st : State) (good : Good cs s st) (m : Memory) (start : (c : Cell) → (st.memory c ≡ m c) ⊎ Foreign cs s g c) where
  abbrev pub part_of : ℕ → Part
  part_of k = alone s (member s g k) fuel (st.items (member s g k)) m

  abbrev pub round_state : ℕ → State
  round_state k = record { memory = applied (round_stores s g fuel st.items m k) st.memory; items = advanced s g fuel st.items m k }

  foreign-tainted : (k : ℕ) → k < group_size s → (it : Item) (c : Cell) → Foreign cs s g c → Tainted cs s (member s g k) it c
  foreign-tainted k lt it c f = record {
    other = f.other;
    when = f.when;
    stored = f.stored;
    distinct = λ q. f.group (sym (ap (group_of s) q) ∙ group_of-member s g k lt);
    unordered = inl (λ q. f.group (sym q ∙ group_of-member s g k lt));
  }

  from-tainted : (k : ℕ) → k < group_size s → (c : Cell) → From cs s g st k c → Tainted cs s (member s g k) (st.items (member s g k)) c
  from-tainted k lt c f =
      let place-lt : f.place < group_size s = let b = f.below in omega (arith, b, lt) in
      record {
        other = member s g f.place;
        when = epoch (st.items (member s g f.place)) c.owner;
        stored = f.stored;
        distinct = λ q. let e = member-inj s g k f.place q in let b = f.below in omega (arith, e, b);
        unordered = inr (epoch-level (st.items (member s g k)) (st.items (member s g f.place)) c.owner
            (good-level s bound p st good (member s g k) (member s g f.place) (member-below s g k hg lt) (member-below s g f.place hg place-lt) (group_of-member s g k lt ∙ sym (group_of-member s g f.place place-lt))));
      }

  -- before an item's part the world's memory and the round's agree, but for what is tainted for it
  round-matches : (k : ℕ) → k < group_size s → Each (From cs s g st k) (round_stores s g fuel st.items m k) → Matches cs s (member s g k) (st.items (member s g k)) (round_state k).memory m
  round-matches k lt each c = elim (applied-cases (From cs s g st k) (round_stores s g fuel st.items m k) st.memory c each) [
    | inl e ↦ elim (start c) [ inl q ↦ inl (e ∙ q) | inr f ↦ inr (foreign-tainted k lt (st.items (member s g k)) c f) ]
    | inr f ↦ inr (from-tainted k lt c f)
  ]

  pub record Long (it : Item) (part : Part) : Type 0 where
    pub long : part.item.status ≡ Running → it.steps + fuel ≤ part.item.steps
    pub moves : (part.item ≡ it) ⊎ (it.steps + 1 ≤ part.item.steps)

  pub record Upto (k : ℕ) : Type 0 where
    pub onward : Onward s st (round_state k)
    pub each : Each (From cs s g st k) (round_stores s g fuel st.items m k)
    pub long : (l : ℕ) → l < k → Long (st.items (member s g l)) (part_of l)

  one_part : (k : ℕ) → k < group_size s → Upto k → Upto (suc k)
  one_part k lt u =
      let same : advanced s g fuel st.items m k (member s g k) ≡ st.items (member s g k) = advanced-other s g fuel st.items m k (member s g k) (λ l h q. let e = member-inj s g k l q in omega (arith, e, h)) in
      let r = alone-way s bound full p (member s g k) (member-below s g k hg lt) fuel (round_state k) m (st.items (member s g k)) (good-onward s st (round_state k) good u.onward) same (round-matches k lt u.each) in
      let to : left_by (round_state k) (member s g k) (part_of k) ≡ round_state (suc k) = state-is _ _ _ _ (sym (applied-append (round_stores s g fuel st.items m k) (part_of k).stores st.memory)) refl in
      record {
        onward = onward-trans s st (round_state k) (round_state (suc k)) u.onward (subst (Onward s (round_state k)) to r.onward);
        each = Each-append (From cs s g st (suc k)) (round_stores s g fuel st.items m k) (part_of k).stores
            (Each-map (From cs s g st k) (From cs s g st (suc k)) (round_stores s g fuel st.items m k) (λ c f. record { place = f.place; below = let b = f.below in omega (arith, b); stored = f.stored }) u.each)
            (Each-map (λ c. Stored cs s (member s g k) c (epoch (st.items (member s g k)) c.owner)) (From cs s g st (suc k)) (part_of k).stores (λ c f. record { place = k; below = omega arith; stored = f }) r.stored);
        long = λ l h. elim (cases_eq l k) [
          | inl e ↦ subst (λ n. Long (st.items (member s g n)) (part_of n)) (sym e) (record { long = r.long; moves = r.moves })
          | inr ne ↦ u.long l (omega (arith, ne))
        ];
      }

  -- the parts of a round, item by item, are a way in the world, and leave the round's stores in memory
  pub round-way : (k : ℕ) → k ≤ group_size s → Upto k
  round-way zero h = record { onward = onward-here s st (round_state 0) refl; each = tt; long = λ l lt. absurd (omega arith) }
  round-way (suc k) h = one_part k (omega arith) (round-way k (omega arith))
