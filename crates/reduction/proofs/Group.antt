-- All rounds of a group.
use Rattle.std.proofs.Common.{Bool, ◌&&◌, ◌||◌, ◌≡◌, ◌≢◌, ℕ, zero, suc, ◌+◌, ◌%◌, ◌<◌, ◌≤◌, ◌⊎◌, ℤ, List, [], ◌++◌, true, false, refl, sym, ap, ap₂, ◌∙◌, inl, inr, subst, arith, append-nil, eq-eqb}
use Rattle.std.proofs.lemmas.Bool.{cases_Bool}
use Rattle.semantics.specs.Conditions.{Content}
use Rattle.semantics.specs.Setup.{Setup, group_of, group_size, item_count, group_count, member}
use Rattle.semantics.specs.Memory.{Cell, Memory}
use Rattle.semantics.specs.Item.{Item, Status, Running, Waiting, Ended, Stopped, has_ended}
use Rattle.semantics.specs.Solo.{is_waiting}
use Rattle.semantics.specs.World.{Release, past, may_go, every}
use Rattle.semantics.specs.Rounds.{applied, alone, round_stores, after_round, rounds, rounds_end}
use Rattle.semantics.specs.Safety.{IsPairSafeWithin}
use Rattle.semantics.proofs.Groups.{every-by, group_of-member, member-below, member-of, place-below, group_size-pos}
use Rattle.reduction.specs.Budgets.{StaysBelow}
use Rattle.reduction.proofs.Along.{may_go-waits}
use Rattle.reduction.proofs.Counts.{past-is}
use Rattle.reduction.proofs.Safe.{safe, group_goes}
use Rattle.reduction.proofs.States.{State, let_items, next, Can}
use Rattle.reduction.proofs.Diamond.{may_go-same, let_items-other}
use Rattle.reduction.proofs.Confluence.{Good, good-next, Onward, onward-first, onward-trans, good-onward}
use Rattle.reduction.proofs.Alone.{Stored, Each, Each-map, Each-append}
use Rattle.reduction.proofs.Round.{applied-append, applied-either, Foreign, From, advanced, advanced-other, advanced-at, Upto, round-way}

pub good-short : {cs : List Content} (s : Setup) (bound : ℕ) (p : IsPairSafeWithin cs s bound) (st : State) → Good cs s st → (i : ℕ) → i < item_count s → (st.items i).steps ≤ bound
good-short {cs} s bound p st g i hi = subst (λ (x : State). (x.items i).steps ≤ bound) g.is ((safe s bound p g.world g.along).within_budget i hi)

pub good-quiet : {cs : List Content} (s : Setup) (bound : ℕ) (p : IsPairSafeWithin cs s bound) (st : State) → Good cs s st → (i : ℕ) → i < item_count s → (f : _) (site : _) → (st.items i).status ≢ Stopped f site
good-quiet {cs} s bound p st g i hi f site = subst (λ (x : State). (x.items i).status ≢ Stopped f site) g.is ((safe s bound p g.world g.along).no_fault i f site hi)

good-goes : {cs : List Content} (s : Setup) (bound : ℕ) (p : IsPairSafeWithin cs s bound) (st : State) → Good cs s st → (g : ℕ) → g < group_count s → 0 < group_size s → ((j : ℕ) → j < item_count s → group_of s j ≡ g → ((st.items j).status ≡ Waiting) ⊎ ((st.items j).status ≡ Ended)) → (i : ℕ) → i < item_count s → group_of s i ≡ g → (st.items i).status ≡ Waiting → may_go s st.items g ≡ true
good-goes {cs} s bound p st good g hg full =
    subst (λ (x : State). ((j : ℕ) → j < item_count s → group_of s j ≡ g → ((x.items j).status ≡ Waiting) ⊎ ((x.items j).status ≡ Ended)) → (i : ℕ) → i < item_count s → group_of s i ≡ g → (x.items i).status ≡ Waiting → may_go s x.items g ≡ true) good.is
    (λ settled i hi e a. group_goes s bound p good.world good.along g hg settled full i hi e a)

-- stored by an item of this group
pub record Own (cs : List Content) (s : Setup) (g : ℕ) (c : Cell) : Type 0 where
  pub other : ℕ
  pub when : ℕ
  pub stored : Stored cs s other c when
  pub group : group_of s other ≡ g

-- the group has ended, after these stores
pub record Done (cs : List Content) (s : Setup) (g : ℕ) (st : State) (xs : List (Cell × ℤ)) : Type 0 where
  pub to : State
  pub onward : Onward s st to
  pub memory : to.memory ≡ applied xs st.memory
  pub ended : (j : ℕ) → j < item_count s → group_of s j ≡ g → (to.items j).status ≡ Ended
  pub others : (j : ℕ) → group_of s j ≢ g → to.items j ≡ st.items j
  pub each : Each (Own cs s g) xs

stores-same : (s : Setup) (g fuel : ℕ) (a b : ℕ → Item) (m : Memory) (k : ℕ) → k ≤ group_size s → ((l : ℕ) → l < group_size s → a (member s g l) ≡ b (member s g l)) → round_stores s g fuel a m k ≡ round_stores s g fuel b m k
stores-same s g fuel a b m zero h e = refl
stores-same s g fuel a b m (suc k) h e =
    ap₂ (λ xs it. xs ++ (alone s (member s g k) fuel it m).stores) (stores-same s g fuel a b m k (omega arith) e) (e k (omega arith))

in-group : (s : Setup) (P : ℕ → Type 0) (g : ℕ) → ((k : ℕ) → k < group_size s → P (member s g k)) → (j : ℕ) → j < item_count s → group_of s j ≡ g → P j
in-group s P g h j hj e =
    let full = group_size-pos s j hj in
    let q : member s g (j % group_size s) ≡ j = sym (ap (λ n. member s n (j % group_size s)) e) ∙ member-of s j full in
    subst P q (h (j % group_size s) (place-below s j full))

or_left : (a b : Bool) → a ≡ true → (a || b) ≡ true
or_left true b h = refl
or_left false b h = cc

or_right : (a b : Bool) → b ≡ true → (a || b) ≡ true
or_right true b h = refl
or_right false b h = h

both_true : (a b : Bool) → a ≡ true → b ≡ true → (a && b) ≡ true
both_true a b h k = rw (h, k) refl

module _ {cs : List Content} (s : Setup) (bound : ℕ) (full : 0 < group_size s) (p : IsPairSafeWithin cs s bound) (g : ℕ) (hg : g < group_count s) where
  fuel : ℕ
  fuel = bound + 1

  -- the round's beginning
  pub record Start (its : ℕ → Item) (m : Memory) (st : State) : Type 0 where
    pub good : Good cs s st
    pub agree : (k : ℕ) → k < group_size s → its (member s g k) ≡ st.items (member s g k)
    pub memory : (c : Cell) → (st.memory c ≡ m c) ⊎ Foreign cs s g c
    pub calm : (k : ℕ) → k < group_size s → is_waiting (st.items (member s g k)).status ≡ 0

  module _ (its : ℕ → Item) (m : Memory) (st : State) (b : Start its m st) where
    xs : List (Cell × ℤ)
    xs = round_stores s g (bound + 1) its m (group_size s)

    upto : Upto s bound full p g hg (bound + 1) st b.good m b.memory (group_size s)
    upto = round-way s bound full p g hg (bound + 1) st b.good m b.memory (group_size s) (omega arith)

    st1 : State
    st1 = record { memory = applied (round_stores s g (bound + 1) its m (group_size s)) st.memory; items = advanced s g (bound + 1) st.items m (group_size s) }

    xs-same : round_stores s g (bound + 1) st.items m (group_size s) ≡ round_stores s g (bound + 1) its m (group_size s)
    xs-same = sym (stores-same s g (bound + 1) its st.items m (group_size s) (omega arith) b.agree)

    onward1 : Onward s st st1
    unfolding st1
    onward1 = subst (λ ys. Onward s st (record { memory = applied ys st.memory; items = advanced s g (bound + 1) st.items m (group_size s) })) xs-same upto.onward

    good1 : Good cs s st1
    good1 = good-onward s st st1 b.good onward1

    at1 : (k : ℕ) → k < group_size s → st1.items (member s g k) ≡ (alone s (member s g k) (bound + 1) (st.items (member s g k)) m).item
    unfolding st1
    at1 k lt = advanced-at s g (bound + 1) st.items m (group_size s) k lt

    after1 : (k : ℕ) → k < group_size s → st1.items (member s g k) ≡ after_round s (bound + 1) its m (member s g k)
    after1 k lt = at1 k lt ∙ ap (λ it. (alone s (member s g k) (bound + 1) it m).item) (sym (b.agree k lt))

    other1 : (j : ℕ) → group_of s j ≢ g → st1.items j ≡ st.items j
    unfolding st1
    other1 j ne = advanced-other s g (bound + 1) st.items m (group_size s) j (λ l lt q. ne (ap (group_of s) q ∙ group_of-member s g l lt))

    -- after its part of a round no item runs: fuel is left
    not_running1 : (k : ℕ) → k < group_size s → (st1.items (member s g k)).status ≡ Running → ⊥
    not_running1 k lt r =
        let l = (upto.long k lt).long (ap (λ (it : Item). it.status) (sym (at1 k lt)) ∙ r) in
        let q = good-short s bound p st1 good1 (member s g k) (member-below s g k hg lt) in
        let e = ap (λ (it : Item). it.steps) (at1 k lt) in
        omega (arith, l, q, e)

    settled1 : (j : ℕ) → j < item_count s → group_of s j ≡ g → ((st1.items j).status ≡ Waiting) ⊎ ((st1.items j).status ≡ Ended)
    settled1 j hj e = go (st1.items j).status refl
      where
        go : (x : Status) → (st1.items j).status ≡ x → ((st1.items j).status ≡ Waiting) ⊎ ((st1.items j).status ≡ Ended)
        go Running h = absurd (in-group s (λ n. (st1.items n).status ≡ Running → ⊥) g not_running1 j hj e h)
        go Waiting h = inl h
        go Ended h = inr h
        go (Stopped f site) h = absurd (good-quiet s bound p st1 good1 j hj f site h)

    -- if the group may not go, all its items have ended
    ended1 : may_go s st1.items g ≡ false → (j : ℕ) → j < item_count s → group_of s j ≡ g → (st1.items j).status ≡ Ended
    ended1 no_go j hj e = elim (settled1 j hj e) [
      | inl a ↦ let q : true ≡ false = sym (good-goes s bound p st1 good1 g hg full settled1 j hj e a) ∙ no_go in cc
      | inr d ↦ d
    ]

    each1 : Each (Own cs s g) (round_stores s g (bound + 1) its m (group_size s))
    each1 = subst (Each (Own cs s g)) xs-same (Each-map (From cs s g st (group_size s)) (Own cs s g) (round_stores s g (bound + 1) st.items m (group_size s))
        (λ c f. record { other = member s g f.place; when = _; stored = f.stored; group = group_of-member s g f.place f.below }) upto.each)

    may-same : may_go s (after_round s (bound + 1) its m) g ≡ may_go s st1.items g
    may-same = go (cases_Bool (may_go s (after_round s (bound + 1) its m) g)) (cases_Bool (may_go s st1.items g))
      where
        go : (may_go s (after_round s (bound + 1) its m) g ≡ true) ⊎ (may_go s (after_round s (bound + 1) its m) g ≡ false) → (may_go s st1.items g ≡ true) ⊎ (may_go s st1.items g ≡ false) → may_go s (after_round s (bound + 1) its m) g ≡ may_go s st1.items g
        go (inl x) (inl y) = x ∙ sym y
        go (inr x) (inr y) = x ∙ sym y
        go (inl x) (inr y) = let q = may_go-same s (after_round s (bound + 1) its m) st1.items g full after1 x in x ∙ sym q
        go (inr x) (inl y) = let q = may_go-same s st1.items (after_round s (bound + 1) its m) g full (λ k lt. sym (after1 k lt)) y in q ∙ sym y

    -- the group is let go
    module _ (may : may_go s st1.items g ≡ true) where
      can : Can s st1 (Release g)
      can = (hg, may)

      its2 : ℕ → Item
      its2 = λ i. past s i (after_round s (bound + 1) its m i)

      waits1 : (k : ℕ) → k < group_size s → (st1.items (member s g k)).status ≡ Waiting
      waits1 k lt = may_go-waits s st1.items g (member s g k) may (member-below s g k hg lt) (group_of-member s g k lt)

      at2 : (k : ℕ) → k < group_size s → (next s st1 (Release g)).items (member s g k) ≡ past s (member s g k) (st1.items (member s g k))
      unfolding let_items
      at2 k lt = rw (eq-eqb (group_of s (member s g k)) g (group_of-member s g k lt)) refl

      start2 : Start (λ i. past s i (after_round s (bound + 1) its m i)) (applied (round_stores s g (bound + 1) its m (group_size s)) m) (next s st1 (Release g))
      unfolding st1
      start2 = record {
        good = good-next s st1 (Release g) good1 can;
        agree = λ k lt. ap (past s (member s g k)) (sym (after1 k lt)) ∙ sym (at2 k lt);
        memory = applied-either (Foreign cs s g) (round_stores s g (bound + 1) its m (group_size s)) st.memory m b.memory;
        calm = λ k lt. ap (λ (it : Item). is_waiting it.status) (at2 k lt) ∙ (past-is s (member s g k) (st1.items (member s g k)) (waits1 k lt)).1;
      }

      more2 : (st.items (member s g 0)).steps + 1 ≤ ((next s st1 (Release g)).items (member s g 0)).steps
      more2 =
          let a = ap (λ (it : Item). it.steps) (at2 0 full) in
          let q = (past-is s (member s g 0) (st1.items (member s g 0)) (waits1 0 full)).0 in
          let e = ap (λ (it : Item). it.steps) (at1 0 full) in
          elim (upto.long 0 full).moves [
            | inl same ↦ let w : is_waiting (st1.items (member s g 0)).status ≡ 0 = ap (λ (it : Item). is_waiting it.status) (at1 0 full ∙ same) ∙ b.calm 0 full in
                let w1 : is_waiting (st1.items (member s g 0)).status ≡ 1 = ap is_waiting (waits1 0 full) in omega (arith, w, w1)
            | inr more ↦ omega (arith, a, q, e, more)
          ]

      done2 : (ys : List (Cell × ℤ)) → Done cs s g (next s st1 (Release g)) ys → Done cs s g st (round_stores s g (bound + 1) its m (group_size s) ++ ys)
      unfolding st1
      done2 ys d = record {
        to = d.to;
        onward = onward-trans s st st1 d.to onward1 (onward-first s st1 d.to (Release g) can d.onward);
        memory = d.memory ∙ sym (applied-append (round_stores s g (bound + 1) its m (group_size s)) ys st.memory);
        ended = d.ended;
        others = λ j ne. d.others j ne ∙ let_items-other s g j st1.items ne ∙ other1 j ne;
        each = Each-append (Own cs s g) (round_stores s g (bound + 1) its m (group_size s)) ys each1 d.each;
      }

    done1 : may_go s st1.items g ≡ false → Done cs s g st (round_stores s g (bound + 1) its m (group_size s) ++ [])
    unfolding st1
    done1 no_go = subst (Done cs s g st) (sym (append-nil (round_stores s g (bound + 1) its m (group_size s)))) (record {
      to = st1;
      onward = onward1;
      memory = refl;
      ended = ended1 no_go;
      others = other1;
      each = each1;
    })

    all_ended1 : may_go s st1.items g ≡ false → every (group_size s) (λ k. has_ended (after_round s (bound + 1) its m (member s g k)).status) ≡ true
    all_ended1 no_go = every-by (group_size s) _ (λ k lt.
        ap (λ (it : Item). has_ended it.status) (sym (after1 k lt)) ∙ ap has_ended (ended1 no_go (member s g k) (member-below s g k hg lt) (group_of-member s g k lt)))

    ends_by : (n : ℕ) → (may_go s st1.items g ≡ true → rounds_end s g (bound + 1) n (λ i. past s i (after_round s (bound + 1) its m i)) (applied (round_stores s g (bound + 1) its m (group_size s)) m) ≡ true) → (may_go s st1.items g ≡ true) ⊎ (may_go s st1.items g ≡ false) → rounds_end s g (bound + 1) (suc n) its m ≡ true
    ends_by n later (inl y) = or_right _ _ (both_true _ _ (may-same ∙ y) (later y))
    ends_by n later (inr y) = or_left _ _ (all_ended1 y)

    next_by : (n : ℕ) → (may_go s st1.items g ≡ true → Done cs s g (next s st1 (Release g)) (rounds s g (bound + 1) n (λ i. past s i (after_round s (bound + 1) its m i)) (applied (round_stores s g (bound + 1) its m (group_size s)) m))) → (may_go s st1.items g ≡ true) ⊎ (may_go s st1.items g ≡ false) → Done cs s g st (rounds s g (bound + 1) (suc n) its m)
    next_by n later (inl y) = rw (may-same, y) (done2 y _ (later y))
    next_by n later (inr y) = rw (may-same, y) (done1 y)

  -- all rounds of the group are a way in the world that leaves the group's stores in memory, and all its items ended
  pub group-way : (n : ℕ) (its : ℕ → Item) (m : Memory) (st : State) → Start its m st → bound + 1 ≤ n + (st.items (member s g 0)).steps → Done cs s g st (rounds s g (bound + 1) n its m)
  group-way zero its m st b h = absurd (let q = good-short s bound p st b.good (member s g 0) (member-below s g 0 hg full) in omega (arith, q))
  group-way (suc n) its m st b h =
      next_by its m st b n (λ y. group-way n (λ i. past s i (after_round s (bound + 1) its m i)) _ (next s (st1 its m st b) (Release g)) (start2 its m st b y) (let q = more2 its m st b y in omega (arith, q))) (cases_Bool (may_go s (st1 its m st b).items g))

  -- the rounds of the group come to an end
  pub ends-way : (n : ℕ) (its : ℕ → Item) (m : Memory) (st : State) → Start its m st → bound + 1 ≤ n + (st.items (member s g 0)).steps → rounds_end s g (bound + 1) n its m ≡ true
  ends-way zero its m st b h = absurd (let q = good-short s bound p st b.good (member s g 0) (member-below s g 0 hg full) in omega (arith, q))
  ends-way (suc n) its m st b h =
      ends_by its m st b n (λ y. ends-way n (λ i. past s i (after_round s (bound + 1) its m i)) _ (next s (st1 its m st b) (Release g)) (start2 its m st b y) (let q = more2 its m st b y in omega (arith, q))) (cases_Bool (may_go s (st1 its m st b).items g))

  -- and in them no item takes more steps than the budget
  pub below-way : (n : ℕ) (its : ℕ → Item) (m : Memory) (st : State) → Start its m st → StaysBelow s g (bound + 1) n its m
  below-way zero its m st b = tt
  below-way (suc n) its m st b = (
    λ k lt.
        let q = good-short s bound p (st1 its m st b) (good1 its m st b) (member s g k) (member-below s g k hg lt) in
        let e = ap (λ (it : Item). it.steps) (after1 its m st b k lt) in
        omega (arith, q, e),
    λ may. below-way n (λ i. past s i (after_round s (bound + 1) its m i)) _ (next s (st1 its m st b) (Release g)) (start2 its m st b (sym (may-same its m st b) ∙ may)),
  )
