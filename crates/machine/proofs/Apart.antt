-- Items of one group that wait apart.
use Rattle.std.proofs.Common.{◌≡◌, ◌≢◌, ◌<◌, ◌≤◌, ◌+◌, ◌-◌, ◌*◌, ◌%◌, ◌&&◌, ◌||◌, not, ◌⊎◌, ℕ, List, Bool, true, false, refl, sym, ap, ◌∙◌, subst, arith, inl, inr, nat_eq, nat_lt, ltb-true}
use Rattle.std.specs.Prelude.{bytes_eq}
use Rattle.std.proofs.lemmas.Bool.{cases_eq}
use Rattle.std.proofs.lemmas.Slice.Eq.{bytes_eq-Decides}
use Rattle.semantics.specs.Setup.{Setup, group_of, group_size, group_count, item_count}
use Rattle.semantics.specs.Item.{Item, trail, has_ended}
use Rattle.semantics.specs.World.{World, waits}
use Rattle.semantics.specs.Safety.{Divergent}
use Rattle.semantics.proofs.Groups.{both-true, group_of-member, group-below}
use Rattle.semantics.proofs.Deciding.{diverges-Decides}
use Rattle.std.proofs.lemmas.Bool.Decides.{nat_tests}
use Rattle.machine.proofs.Blocks.{block_within}
use Rattle.machine.specs.Worlds.{is_apart}
use Rattle.machine.specs.Divergences.{IsUndivided, IsBefore, IsFirst, IsAmong, AreTogether, AreFirst}

lt-or-ge : (m n : ℕ) → (m < n) ⊎ (n ≤ m)
lt-or-ge m n = by (nat_lt m n) refl
  where
    by : (b : Bool) → nat_lt m n ≡ b → (m < n) ⊎ (n ≤ m)
    by true e = inl (ltb-true m n e)
    by false e = inr (grind (arith, nat_tests))

offset : (first count i : ℕ) → IsAmong first count i → (first + (i - first) ≡ i) × (i - first < count)
offset first count i h = (omega (arith, h.0), omega (arith, h.0, h.1))

-- who waits with one list left, together with all, leaves none apart
same : (a b c : List ℕ) → bytes_eq a b ≡ true → bytes_eq a c ≡ true → bytes_eq b c ≡ true
same a b c h k = (bytes_eq-Decides b c).1 (sym ((bytes_eq-Decides a b).0 h) ∙ (bytes_eq-Decides a c).0 k)

settles : (wi wk wl ek el tik til tkl : Bool) → wi ≡ true → (wi && (ek || (wk && not tik))) ≡ false → (wi && (el || (wl && not til))) ≡ false → (wk && (el || (wl && not tkl))) ≡ true → (tik ≡ true → til ≡ true → tkl ≡ true) → ⊥
settles wi wk wl ek el tik til true h a b true_is t = by wi wk el wl h b true_is
  where
    by : (wi wk el wl : Bool) → wi ≡ true → (wi && (el || (wl && not til))) ≡ false → (wk && (el || (wl && false))) ≡ true → ⊥
    by true true true wl h b c = cc
    by true true false true h b c = cc
    by true true false false h b c = cc
    by true false el wl h b c = cc
    by false wk el wl h b c = cc
settles true true true ek el true true false h a b c t = let x = t refl refl in cc
settles true true true ek true true false false h a b c t = cc
settles true true true ek false true false false h a b c t = cc
settles true true true true el false til false h a b c t = cc
settles true true true false el false til false h a b c t = cc
settles true true false ek true tik til false h a b c t = cc
settles true true false ek false tik til false h a b c t = cc
settles true false wl ek el tik til false h a b c t = cc
settles false wk wl ek el tik til false h a b c t = cc

pub together_by_one : (all : ℕ → Item) (first count i : ℕ) → waits (all i).status ≡ true → ((k : ℕ) → k < count → is_apart all i (first + k) ≡ false) → AreTogether all first count
together_by_one all first count i w h = λ k l bk bl apart.
    let ok = offset first count k bk in
    let ol = offset first count l bl in
    let ak = subst (λ n. is_apart all i n ≡ false) ok.0 (h (k - first) ok.1) in
    let al = subst (λ n. is_apart all i n ≡ false) ol.0 (h (l - first) ol.1) in
    settles (waits (all i).status) (waits (all k).status) (waits (all l).status) (has_ended (all k).status) (has_ended (all l).status)
    (bytes_eq (trail (all i).left) (trail (all k).left)) (bytes_eq (trail (all i).left) (trail (all l).left)) (bytes_eq (trail (all k).left) (trail (all l).left))
    w ak al apart (same (trail (all i).left) (trail (all k).left) (trail (all l).left))

waits_of : (all : ℕ → Item) (k l : ℕ) → is_apart all k l ≡ true → waits (all k).status ≡ true
waits_of all k l h = (both-true (waits (all k).status) _ h).0

pub together_by_none : (all : ℕ → Item) (first count : ℕ) → ((k : ℕ) → k < count → waits (all (first + k)).status ≡ false) → AreTogether all first count
together_by_none all first count h = λ k l bk bl apart.
    let ok = offset first count k bk in
    let a = subst (λ n. waits (all n).status ≡ false) ok.0 (h (k - first) ok.1) in
    let b = waits_of all k l apart in
    let e : true ≡ false = sym b ∙ a in cc

pub first_two : (all : ℕ → Item) (first count i j : ℕ) → IsAmong first count i → ((k : ℕ) → first + k < i → waits (all (first + k)).status ≡ false) → IsAmong first count j → is_apart all i j ≡ true → ((k : ℕ) → first + k < j → is_apart all i (first + k) ≡ false) → AreFirst all first count i j
first_two all first count i j bi hi bj apart hj = record { item = bi; other = bj; apart = apart; lowest = λ k l bk bl x. by k l bk bl x (cases_eq i k) }
  where
    never : (b : Bool) → b ≡ true → b ≡ false → ⊥
    never b h k = let e : true ≡ false = sym h ∙ k in cc

    at_least : (m n : ℕ) → (m < n → ⊥) → n ≤ m
    at_least m n h = elim (lt-or-ge m n) [ inl x ↦ absurd (h x) | inr x ↦ x ]

    by : (k l : ℕ) → IsAmong first count k → IsAmong first count l → is_apart all k l ≡ true → (i ≡ k) ⊎ (i ≢ k) → IsBefore i j k l
    by k l bk bl x (inl e) =
        let o = offset first count l bl in
        let y = subst (λ n. is_apart all n l ≡ true) (sym e) x in
        inr (e, at_least l j (λ lt. never (is_apart all i l) y (subst (λ n. is_apart all i n ≡ false) o.0 (hj (l - first) (subst (λ n. n < j) (sym o.0) lt)))))
    by k l bk bl x (inr ne) =
        let o = offset first count k bk in
        let le : i ≤ k = at_least k i (λ lt. never (waits (all k).status) (waits_of all k l x) (subst (λ n. waits (all n).status ≡ false) o.0 (hi (k - first) (subst (λ n. n < i) (sym o.0) lt)))) in
        inl (omega (arith, le, ne))

apart_of : (s : Setup) (w : World) (i j : ℕ) → Divergent s w i j → is_apart w.items i j ≡ true
apart_of s w i j d =
    let h = (diverges-Decides s w i j).1 d in
    let p = both-true (nat_eq (group_of s i) (group_of s j) && waits (w.items i).status) _ h in
    let q = both-true (nat_eq (group_of s i) (group_of s j)) (waits (w.items i).status) p.0 in
    and_true _ _ q.1 p.1
  where
    and_true : (a b : Bool) → a ≡ true → b ≡ true → (a && b) ≡ true
    and_true true b h k = k
    and_true false b h k = cc

divergent_of : (s : Setup) (w : World) (i j : ℕ) → group_of s i ≡ group_of s j → is_apart w.items i j ≡ true → Divergent s w i j
divergent_of s w i j g h =
    let p = both-true (waits (w.items i).status) _ h in
    (diverges-Decides s w i j).0 (all_true (nat_eq (group_of s i) (group_of s j)) _ _ (grind (arith, nat_tests)) p.0 p.1)
  where
    all_true : (a b c : Bool) → a ≡ true → b ≡ true → c ≡ true → (a && b && c) ≡ true
    all_true true true c h k m = m
    all_true true false c h k m = cc
    all_true false b c h k m = cc

in_block : (s : Setup) (i g : ℕ) → 0 < group_size s → group_of s i ≡ g → IsAmong (g * group_size s) (group_size s) i
in_block s i g some e =
    let whole : group_of s i * group_size s + i % group_size s ≡ i = omega arith in
    let small : i % group_size s < group_size s = omega arith in
    let here : g * group_size s + i % group_size s ≡ i = ap (λ m. m * group_size s + i % group_size s) (sym e) ∙ whole in
    (omega (arith, here), omega (arith, here, small))

of_block : (s : Setup) (i g : ℕ) → IsAmong (g * group_size s) (group_size s) i → group_of s i ≡ g
of_block s i g h =
    let o = offset (g * group_size s) (group_size s) i h in
    ap (group_of s) (sym o.0) ∙ group_of-member s g (i - g * group_size s) o.1

-- one group more without divergence
pub group_more : (s : Setup) (w : World) (g : ℕ) → 0 < group_size s → AreTogether w.items (g * group_size s) (group_size s)
    → ((i j : ℕ) → i < item_count s → j < item_count s → group_of s i < g → Divergent s w i j → ⊥)
    → (i j : ℕ) → i < item_count s → j < item_count s → group_of s i < g + 1 → Divergent s w i j → ⊥
group_more s w g some here below i j li lj l d = elim (cases_eq (group_of s i) g) [
  | inl e ↦ here i j (in_block s i g some e) (in_block s j g some (sym d.group ∙ e)) (apart_of s w i j d)
  | inr ne ↦ below i j li lj (omega (arith, l, ne)) d
]

pub undivided : (s : Setup) (w : World) (g : ℕ) → group_count s ≤ g → ((i j : ℕ) → i < item_count s → j < item_count s → group_of s i < g → Divergent s w i j → ⊥) → IsUndivided s w
undivided s w g h k = λ i j li lj d. k i j li lj (let b = group-below s i li in omega (arith, b, h)) d

pub first_of_all : (s : Setup) (w : World) (g n i j : ℕ) → 0 < group_size s → n ≡ item_count s → g * group_size s + group_size s ≤ n → AreFirst w.items (g * group_size s) (group_size s) i j
    → ((i j : ℕ) → i < item_count s → j < item_count s → group_of s i < g → Divergent s w i j → ⊥) → IsFirst s w i j
first_of_all s w g n i j some e within h below = record {
  item = subst (λ m. i < m) e (omega (arith, h.item.1, within));
  other = subst (λ m. j < m) e (omega (arith, h.other.1, within));
  divergent = divergent_of s w i j (of_block s i g h.item ∙ sym (of_block s j g h.other)) h.apart;
  lowest = λ k l lk ll d. by k l lk ll d (cases_eq (group_of s k) g);
}
  where
    later : (k : ℕ) → g < group_of s k → i < k
    later k lt =
        let x = block_within g (group_of s k) (group_size s) lt in
        let b = in_block s k (group_of s k) some refl in
        omega (arith, h.item.1, x, b.0)

    by : (k l : ℕ) → k < item_count s → l < item_count s → Divergent s w k l → (group_of s k ≡ g) ⊎ (group_of s k ≢ g) → IsBefore i j k l
    by k l lk ll d (inl e) = h.lowest k l (in_block s k g some e) (in_block s l g some (sym d.group ∙ e)) (apart_of s w k l d)
    by k l lk ll d (inr ne) = elim (lt-or-ge (group_of s k) g) [ inl lt ↦ absurd (below k l lk ll lt d) | inr ge ↦ inl (later k (omega (arith, ge, ne))) ]
