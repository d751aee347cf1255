-- What is known of an element, with one access more.
use Rattle.std.proofs.Common.{◌≡◌, ◌≢◌, ◌≤◌, ◌/◌, ◌&&◌, ◌||◌, not, ◌⊎◌, ℕ, List, [], ◌∷◌, ◌++◌, Bool, true, false, cond, Contains, refl, sym, ap, ◌∙◌, subst, arith, nat_eq, inl, inr}
use Rattle.std.specs.Prelude.{Option, Some, None}
use Rattle.std.proofs.lemmas.Bool.{cases_eq}
use Rattle.std.proofs.lemmas.Bool.Decides.{nat_tests}
use Rattle.std.proofs.lemmas.List.Elements.{Contains-push_cases, Contains-append_left, Contains-append_right}
use Rattle.semantics.specs.Memory.{Cell}
use Rattle.semantics.specs.Solo.{Access}
use Rattle.semantics.proofs.Groups.{both-true}
use Rattle.clashes.specs.Marks.{are_unordered, loads_meet, loads_after, store_meets, seen_meets, seen_after}
use Rattle.clashes.specs.Knowledge.{mark, InOrder, IsLater, Has, HasStore, HasLoads, Knows}
use Rattle.clashes.proofs.Order.{hands_on, loads_old, loads_new}
use Rattle.clashes.specs.declared.mark.Mark.{Mark}
use Rattle.clashes.specs.declared.seen.Loads.{Loads}
use Rattle.clashes.specs.declared.seen.Loads.TheVariants.{Nobody, OneItem, OneGroup, Groups}
use Rattle.clashes.specs.declared.seen.Seen.{Seen}

-- one of two tests
both-cases : (a b : Bool) → (a || b) ≡ true → (a ≡ true) ⊎ (b ≡ true)
both-cases true b h = inl refl
both-cases false b h = inr h

both-false : (a b : Bool) → (a || b) ≡ false → (a ≡ false) × (b ≡ false)
both-false true b h = cc
both-false false b h = (refl, h)

or-left : (a b : Bool) → a ≡ true → (a || b) ≡ true
or-left true b h = refl
or-left false b h = cc

or-right : (a b : Bool) → b ≡ true → (a || b) ≡ true
or-right true b h = refl
or-right false b h = h

not_true : (a : Bool) → (a ≡ true → ⊥) → a ≡ false
not_true true h = absurd (h refl)
not_true false h = refl

has_more : (h : List Access) (c : Cell) (m : Mark) (x : Access) → Has h c m → Has (h ++ x ∷ []) c m
has_more h c m x p = (p.0, Contains-append_left h (x ∷ []) p.0 p.1, p.2, p.3)

has_new : (h : List Access) (c : Cell) (x : Access) → x.at ≡ c → Has (h ++ x ∷ []) c (mark x)
has_new h c x e = (x, Contains-append_right h (x ∷ []) x (0, omega arith, refl), e, refl)

store_more : (h : List Access) (c : Cell) (o : Option Mark) (x : Access) → HasStore h c o → HasStore (h ++ x ∷ []) c o
store_more h c None x p = p
store_more h c (Some m) x p = (p.0, Contains-append_left h (x ∷ []) p.0 p.1, p.2, p.3, p.4)

loads_more : (n : ℕ) (h : List Access) (c : Cell) (l : Loads) (x : Access) → HasLoads n h c l → HasLoads n (h ++ x ∷ []) c l
loads_more n h c Nobody x p = p
loads_more n h c (OneItem m) x p = has_more h c m x p
loads_more n h c (OneGroup g e) x p = record {
  one = p.one;
  other = p.other;
  has_one = has_more h c p.one x p.has_one;
  has_other = has_more h c p.other x p.has_other;
  items = p.items;
  group_one = p.group_one;
  group_other = p.group_other;
  epoch_one = p.epoch_one;
  epoch_other = p.epoch_other;
}
loads_more n h c Groups x p = record { one = p.one; other = p.other; has_one = has_more h c p.one x p.has_one; has_other = has_more h c p.other x p.has_other; groups = p.groups }

-- an access of the element among the loads
loads_join : (n : ℕ) (h : List Access) (c : Cell) (l : Loads) (x : Access) → x.at ≡ c → HasLoads n h c l → HasLoads n (h ++ x ∷ []) c (loads_after n l (mark x))
loads_join n h c Nobody x e p = has_new h c x e
loads_join n h c (OneItem a) x e p = by (nat_eq a.item x.item) (nat_eq (a.item / n) (x.item / n)) (nat_eq a.epoch x.epoch) refl refl refl
  where
    by : (i g t : Bool) → nat_eq a.item x.item ≡ i → nat_eq (a.item / n) (x.item / n) ≡ g → nat_eq a.epoch x.epoch ≡ t
        → HasLoads n (h ++ x ∷ []) c (cond i (OneItem (mark x)) (cond (not g) Groups (cond t (OneGroup (x.item / n) x.epoch) (OneItem (mark x)))))
    by true g t hi hg ht = has_new h c x e
    by false false t hi hg ht = record { one = a; other = mark x; has_one = has_more h c a x p; has_other = has_new h c x e; groups = grind (arith, nat_tests) }
    by false true true hi hg ht = record {
      one = a;
      other = mark x;
      has_one = has_more h c a x p;
      has_other = has_new h c x e;
      items = grind (arith, nat_tests);
      group_one = grind (arith, nat_tests);
      group_other = refl;
      epoch_one = grind (arith, nat_tests);
      epoch_other = refl;
    }
    by false true false hi hg ht = has_new h c x e
loads_join n h c (OneGroup g e) x at p = by (nat_eq (x.item / n) g) (nat_eq x.epoch e) refl refl
  where
    by : (i t : Bool) → nat_eq (x.item / n) g ≡ i → nat_eq x.epoch e ≡ t → HasLoads n (h ++ x ∷ []) c (cond (not i) Groups (cond t (OneGroup g e) (OneItem (mark x))))
    by false t hi ht =
        let apart : x.item / n ≢ g = grind (arith, nat_tests) in
        record { one = p.one; other = mark x; has_one = has_more h c p.one x p.has_one; has_other = has_new h c x at; groups = λ q. apart (sym q ∙ p.group_one) }
    by true true hi ht = loads_more n h c (OneGroup g e) x p
    by true false hi ht = has_new h c x at
loads_join n h c Groups x e p = loads_more n h c Groups x p

-- of another item, and of another group or in one epoch
pub unordered : (i k t j l u : ℕ) → i ≢ j → (k ≢ l) ⊎ (t ≡ u) → (not (nat_eq i j) && (not (nat_eq k l) || nat_eq t u)) ≡ true
unordered i k t j l u a b = by (nat_eq i j) (nat_eq k l) (nat_eq t u) refl refl refl
  where
    by : (p q r : Bool) → nat_eq i j ≡ p → nat_eq k l ≡ q → nat_eq t u ≡ r → (not p && (not q || r)) ≡ true
    by true q r hp hq hr = absurd (a (grind (arith, nat_tests)))
    by false false r hp hq hr = refl
    by false true true hp hq hr = refl
    by false true false hp hq hr = absurd (elim b [ inl ne ↦ ne (grind (arith, nat_tests)) | inr e ↦ grind (arith, nat_tests) ])

pub apart : (i k t j l u : ℕ) → (not (nat_eq i j) && (not (nat_eq k l) || nat_eq t u)) ≡ true → (i ≢ j) × ((k ≢ l) ⊎ (t ≡ u))
apart i k t j l u h = by (nat_eq i j) (nat_eq k l) (nat_eq t u) refl refl refl h
  where
    by : (p q r : Bool) → nat_eq i j ≡ p → nat_eq k l ≡ q → nat_eq t u ≡ r → (not p && (not q || r)) ≡ true → (i ≢ j) × ((k ≢ l) ⊎ (t ≡ u))
    by true q r hp hq hr h = cc
    by false false r hp hq hr h = (grind (arith, nat_tests), inl (grind (arith, nat_tests)))
    by false true true hp hq hr h = (grind (arith, nat_tests), inr (grind (arith, nat_tests)))
    by false true false hp hq hr h = cc

met : (l g u e : ℕ) → (not (nat_eq l g) || nat_eq u e) ≡ true → (l ≢ g) ⊎ (u ≡ e)
met l g u e h = by (nat_eq l g) refl h
  where
    by : (p : Bool) → nat_eq l g ≡ p → (not p || nat_eq u e) ≡ true → (l ≢ g) ⊎ (u ≡ e)
    by true hp h = inr (grind (arith, nat_tests))
    by false hp h = inl (grind (arith, nat_tests))

-- who clashes with the loads clashes with one of them
loads_found : (n : ℕ) (h : List Access) (c : Cell) (l : Loads) (m : Mark) → HasLoads n h c l → loads_meet n l m ≡ true → (a : Mark) × Has h c a × (are_unordered n a m ≡ true)
loads_found n h c Nobody m p q = cc
loads_found n h c (OneItem a) m p q = (a, p, q)
loads_found n h c (OneGroup g e) m p q = elim (cases_eq p.one.item m.item) [
  | inl same ↦ (p.other, p.has_other, unordered p.other.item (p.other.item / n) p.other.epoch m.item (m.item / n) m.epoch (λ r. p.items (same ∙ sym r)) (here p.other p.group_other p.epoch_other))
  | inr apart ↦ (p.one, p.has_one, unordered p.one.item (p.one.item / n) p.one.epoch m.item (m.item / n) m.epoch apart (here p.one p.group_one p.epoch_one))
]
  where
    here : (a : Mark) → a.item / n ≡ g → a.epoch ≡ e → (a.item / n ≢ m.item / n) ⊎ (a.epoch ≡ m.epoch)
    here a ag ae = elim (met (m.item / n) g m.epoch e q) [ inl ne ↦ inl (λ r. ne (sym r ∙ ag)) | inr same ↦ inr (ae ∙ sym same) ]
loads_found n h c Groups m p q = elim (cases_eq (p.one.item / n) (m.item / n)) [
  | inl same ↦ (p.other, p.has_other, far p.other (λ r. p.groups (same ∙ sym r)))
  | inr apart ↦ (p.one, p.has_one, far p.one apart)
]
  where
    far : (a : Mark) → a.item / n ≢ m.item / n → are_unordered n a m ≡ true
    far a ne = unordered a.item (a.item / n) a.epoch m.item (m.item / n) m.epoch (λ r. ne (ap (λ i. i / n) r)) (inl ne)

store_found : (n : ℕ) (h : List Access) (c : Cell) (o : Option Mark) (m : Mark) → HasStore h c o → store_meets n o m ≡ true → (a : Access) × Contains h a × (a.at ≡ c) × (a.is_store ≡ true) × (are_unordered n (mark a) m ≡ true)
store_found n h c None m p q = cc
store_found n h c (Some b) m p q = (p.0, p.1, p.2, p.3, ap (λ x. are_unordered n x m) p.4 ∙ q)

-- one of a store and another access
abbrev pub OneStores : Bool → Bool → Type 0
OneStores a b = (a ≡ true) ⊎ (b ≡ true)

-- what clashes with what is known clashes with an access
pub found : (n : ℕ) (h : List Access) (c : Cell) (seen : Seen) (m : Mark) (is_store : Bool) → Knows n h c seen → seen_meets n seen m is_store ≡ true
    → (a : Access) × Contains h a × (a.at ≡ c) × OneStores a.is_store is_store × (are_unordered n (mark a) m ≡ true)
found n h c seen m is_store k q = elim (both-cases (store_meets n seen.store m) (is_store && loads_meet n seen.loads m) q) [
  | inl s ↦ let f = store_found n h c seen.store m k.store s in (f.0, f.1, f.2, inl f.3, f.4)
  | inr l ↦
      let b = both-true is_store (loads_meet n seen.loads m) l in
      let f = loads_found n h c seen.loads m k.loads b.1 in
      let a = f.1 in (a.0, a.1, a.2, inr b.0, ap (λ x. are_unordered n x m) a.3 ∙ f.2)
]

-- and what does not, clashes with none
pub none_found : (n : ℕ) (h : List Access) (c : Cell) (seen : Seen) (m : Mark) (is_store : Bool) → Knows n h c seen → IsLater n h c m → seen_meets n seen m is_store ≡ false
    → (a : Access) → Contains h a → a.at ≡ c → OneStores a.is_store is_store → are_unordered n (mark a) m ≡ false
none_found n h c seen m is_store k later q a in_h at one = not_true _ (λ u. elim one [
  | inl st ↦ let x = sym (k.stores_met m later a in_h at st u) ∙ (both-false (store_meets n seen.store m) (is_store && loads_meet n seen.loads m) q).0 in cc
  | inr st ↦
      let f = both-false (store_meets n seen.store m) (is_store && loads_meet n seen.loads m) q in
      elim (both-cases (store_meets n seen.store m) (loads_meet n seen.loads m) (k.all_met m later a in_h at u)) [
        | inl s ↦ let x = sym s ∙ f.0 in cc
        | inr l ↦ let x = sym l ∙ ap (λ b. b && loads_meet n seen.loads m) (sym st) ∙ f.1 in cc
      ]
])

-- a later access comes after each of the history, and after one more
later_of : (n : ℕ) (h : List Access) (c : Cell) (x : Access) (m : Mark) → IsLater n (h ++ x ∷ []) c m → IsLater n h c m
later_of n h c x m l a p at = l a (Contains-append_left h (x ∷ []) a p) at

after_new : (n : ℕ) (h : List Access) (c : Cell) (x : Access) (m : Mark) → x.at ≡ c → IsLater n (h ++ x ∷ []) c m → InOrder n (mark x) m
after_new n h c x m at l = l x (Contains-append_right h (x ∷ []) x (0, omega arith, refl)) at

loads_before : (n : ℕ) (h : List Access) (c : Cell) (l : Loads) (x : Mark) → HasLoads n h c l → IsLater n h c x → (a : Mark) → l ≡ OneItem a → InOrder n a x
loads_before n h c Nobody x p later a e = cc
loads_before n h c (OneItem b) x p later a e = subst (λ m. InOrder n m x) (p.3 ∙ one b a e) (later p.0 p.1 p.2)
  where
    one : (b a : Mark) → OneItem b ≡ OneItem a → b ≡ a
    one b a e = cc
loads_before n h c (OneGroup g t) x p later a e = cc
loads_before n h c Groups x p later a e = cc

group_before : (n : ℕ) (h : List Access) (c : Cell) (l : Loads) (x : Mark) → HasLoads n h c l → IsLater n h c x → (g e : ℕ) → l ≡ OneGroup g e → x.item / n ≡ g → e ≤ x.epoch
group_before n h c Nobody x p later g e q same = cc
group_before n h c (OneItem b) x p later g e q same = cc
group_before n h c (OneGroup i t) x p later g e q same =
    let one = p.has_one in
    let o : InOrder n p.one x = subst (λ m. InOrder n m x) one.3 (later one.0 one.1 one.2) in
    let gi : i ≡ g = cc in
    let te : t ≡ e = cc in
    let k = o (p.group_one ∙ gi ∙ sym same) in
    subst (λ t. t ≤ x.epoch) (p.epoch_one ∙ te) k
group_before n h c Groups x p later g e q same = cc

new_knows : (n : ℕ) (h : List Access) (c : Cell) (seen : Seen) (x : Access) (is_store : Bool) → x.is_store ≡ is_store → Knows n h c seen → x.at ≡ c → IsLater n h c (mark x) → seen_meets n seen (mark x) is_store ≡ false → Knows n (h ++ x ∷ []) c (seen_after n seen (mark x) is_store)
new_knows n h c seen x true st k at later q = record {
  store = (x, Contains-append_right h (x ∷ []) x (0, omega arith, refl), at, st, refl);
  loads = tt;
  stores_met = λ m l a p ac s u. all m l a p ac u;
  all_met = λ m l a p ac u. or-left (are_unordered n (mark x) m) false (all m l a p ac u);
}
  where
    all : (m : Mark) → IsLater n (h ++ x ∷ []) c m → (a : Access) → Contains (h ++ x ∷ []) a → a.at ≡ c → are_unordered n (mark a) m ≡ true → are_unordered n (mark x) m ≡ true
    all m l a p ac u = elim (Contains-push_cases h x a p) [
      | inl old ↦ hands_on n (mark a) (mark x) m (later a old ac) (after_new n h c x m at l) (none_found n h c seen (mark x) true k later q a old ac (inr refl)) u
      | inr new ↦ subst (λ b. are_unordered n (mark b) m ≡ true) (sym new) u
    ]
new_knows n h c seen x false st k at later q = record {
  store = store_more h c seen.store x k.store;
  loads = loads_join n h c seen.loads x at k.loads;
  stores_met = stores;
  all_met = all;
}
  where
    stores : (m : Mark) → IsLater n (h ++ x ∷ []) c m → (a : Access) → Contains (h ++ x ∷ []) a → a.at ≡ c → a.is_store ≡ true → are_unordered n (mark a) m ≡ true → store_meets n seen.store m ≡ true
    stores m l a p ac s u = elim (Contains-push_cases h x a p) [
      | inl old ↦ k.stores_met m (later_of n h c x m l) a old ac s u
      | inr new ↦ absurd (let e : true ≡ false = sym s ∙ ap (λ (b : Access). b.is_store) (sym new) ∙ st in cc)
    ]

    old_met : (m : Mark) → IsLater n (h ++ x ∷ []) c m → (store_meets n seen.store m || loads_meet n seen.loads m) ≡ true → (store_meets n seen.store m || loads_meet n (loads_after n seen.loads (mark x)) m) ≡ true
    old_met m l u = elim (both-cases (store_meets n seen.store m) (loads_meet n seen.loads m) u) [
      | inl s ↦ or-left (store_meets n seen.store m) _ s
      | inr o ↦ or-right (store_meets n seen.store m) _ (loads_old n seen.loads (mark x) m (loads_before n h c seen.loads (mark x) k.loads later) (group_before n h c seen.loads (mark x) k.loads later) (after_new n h c x m at l) o)
    ]

    all : (m : Mark) → IsLater n (h ++ x ∷ []) c m → (a : Access) → Contains (h ++ x ∷ []) a → a.at ≡ c → are_unordered n (mark a) m ≡ true → (store_meets n seen.store m || loads_meet n (loads_after n seen.loads (mark x)) m) ≡ true
    all m l a p ac u = elim (Contains-push_cases h x a p) [
      | inl old ↦ old_met m l (k.all_met m (later_of n h c x m l) a old ac u)
      | inr new ↦ or-right (store_meets n seen.store m) _ (loads_new n seen.loads (mark x) m (subst (λ b. are_unordered n (mark b) m ≡ true) (sym new) u))
    ]

pub knows_here : (n : ℕ) (h : List Access) (c : Cell) (seen : Seen) (x : Access) → Knows n h c seen → x.at ≡ c → IsLater n h c (mark x) → seen_meets n seen (mark x) x.is_store ≡ false → Knows n (h ++ x ∷ []) c (seen_after n seen (mark x) x.is_store)
knows_here n h c seen x = new_knows n h c seen x x.is_store refl

pub knows_elsewhere : (n : ℕ) (h : List Access) (c : Cell) (seen : Seen) (x : Access) → Knows n h c seen → x.at ≢ c → Knows n (h ++ x ∷ []) c seen
knows_elsewhere n h c seen x k ne = record {
  store = store_more h c seen.store x k.store;
  loads = loads_more n h c seen.loads x k.loads;
  stores_met = λ m l a p ac s u. k.stores_met m (later_of n h c x m l) a (old a p ac) ac s u;
  all_met = λ m l a p ac u. k.all_met m (later_of n h c x m l) a (old a p ac) ac u;
}
  where
    old : (a : Access) → Contains (h ++ x ∷ []) a → a.at ≡ c → Contains h a
    old a p ac = elim (Contains-push_cases h x a p) [ inl in_h ↦ in_h | inr new ↦ absurd (ne (ap (λ (b : Access). b.at) new ∙ ac)) ]
