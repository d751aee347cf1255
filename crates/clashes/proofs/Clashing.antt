-- Clashes of a history, with one access more.
use Rattle.std.proofs.Common.{◌≡◌, ◌≤◌, ◌<◌, ◌+◌, ℕ, List, [], ◌∷◌, ◌++◌, Bool, true, false, cond, Contains, refl, sym, ap, ◌∙◌, subst, arith, inl, inr, length, get_or, take, drop, append_assoc}
use Rattle.std.specs.Prelude.{Option, Some, None, MatchOption}
use Rattle.std.specs.Option.{is_none}
use Rattle.std.specs.Prelude.{map}
use Rattle.std.proofs.lemmas.List.{take-append-drop, drop_more, get_or-take, get_or_at, get_or_append_left, get_or_default, get_or-map, length-take-le}
use Rattle.std.proofs.lemmas.List.Elements.{Contains-push_cases}
use Rattle.semantics.specs.Memory.{Cell, same_cell}
use Rattle.semantics.specs.Setup.{Setup, group_of, group_size}
use Rattle.semantics.specs.Solo.{Access}
use Rattle.semantics.specs.Safety.{Clash}
use Rattle.semantics.specs.Tests.{clashes}
use Rattle.semantics.proofs.Deciding.{clashes-Decides}
use Rattle.semantics.proofs.Updates.{same_cell-is, same_cell-refl}
use Rattle.clashes.specs.Marks.{are_unordered, seen_meets, seen_after}
use Rattle.clashes.specs.Knowledge.{mark, IsLater, Knows}
use Rattle.clashes.specs.Elements.{seen_of}
use Rattle.clashes.specs.Histories.{HasNoClash, IsFirstClash, ClashesFirst, IsNext, KnowsAll, Watches, clash_at}
use Rattle.clashes.proofs.Knowing.{OneStores, unordered, apart, found, none_found, knows_here, knows_elsewhere}
use Rattle.work_item.specs.declared.ask.Owner.TheVariants.{Launch}
use Rattle.clashes.specs.View.{access}
use Rattle.clashes.specs.declared.access.Access as code
use Rattle.clashes.specs.declared.watch.Watch.{Watch}

clash_of : (s : Setup) (a b : Access) → a.at ≡ b.at → OneStores a.is_store b.is_store → are_unordered (group_size s) (mark a) (mark b) ≡ true → Clash s a b
clash_of s a b at one u =
    let p = apart a.item (group_of s a.item) a.epoch b.item (group_of s b.item) b.epoch u in
    record { items = p.0; element = at; stored = one; unordered = p.1 }

is_unordered : (s : Setup) (a b : Access) → Clash s a b → are_unordered (group_size s) (mark a) (mark b) ≡ true
is_unordered s a b c = unordered a.item (group_of s a.item) a.epoch b.item (group_of s b.item) b.epoch c.items c.unordered

turned : (s : Setup) (a b : Access) → Clash s a b → Clash s b a
turned s a b c = record {
  items = λ e. c.items (sym e);
  element = sym c.element;
  stored = elim c.stored [ inl h ↦ inr h | inr h ↦ inl h ];
  unordered = elim c.unordered [ inl h ↦ inl (λ e. h (sym e)) | inr h ↦ inr (sym h) ];
}

later : (s : Setup) (h : List Access) (x : Access) → IsNext s h x → IsLater (group_size s) h x.at (mark x)
later s h x next a p at same = next a p at same

-- none of the history clashes with an access that does not clash with what is known
module _ (s : Setup) (h : List Access) (w : Watch) (x : Access) (k : KnowsAll s h w) (next : IsNext s h x) (q : seen_meets (group_size s) (seen_of w x.at) (mark x) x.is_store ≡ false) where
  none_with : (a : Access) → Contains h a → Clash s a x → ⊥
  none_with a p c =
      let f = none_found (group_size s) h x.at (seen_of w x.at) (mark x) x.is_store (k.elements x.at) (later s h x next) q a p c.element c.stored in
      let t : true ≡ false = sym (is_unordered s a x c) ∙ f in cc

  pub none_more : HasNoClash s (h ++ x ∷ [])
  none_more a b p r c = elim (Contains-push_cases h x a p) [
    | inl old ↦ elim (Contains-push_cases h x b r) [
      | inl old_b ↦ k.none a b old old_b c
      | inr new ↦ none_with a old (subst (Clash s a) (sym new) c)
    ]
    | inr new ↦ elim (Contains-push_cases h x b r) [
      | inl old_b ↦ none_with b old_b (turned s x b (subst (λ y. Clash s y b) (sym new) c))
      | inr both ↦ c.items (ap (λ (y : Access). y.item) (sym new ∙ both))
    ]
  ]

  pub goes_on : (v : Watch) → ((c : Cell) → seen_of v c ≡ cond (same_cell c x.at) (seen_after (group_size s) (seen_of w x.at) (mark x) x.is_store) (seen_of w c)) → KnowsAll s (h ++ x ∷ []) v
  goes_on v e = record { none = none_more; elements = λ c. subst (Knows (group_size s) (h ++ x ∷ []) c) (sym (e c)) (at c (same_cell c x.at) refl) }
    where
      at : (c : Cell) (t : Bool) → same_cell c x.at ≡ t → Knows (group_size s) (h ++ x ∷ []) c (cond t (seen_after (group_size s) (seen_of w x.at) (mark x) x.is_store) (seen_of w c))
      at c true t = subst (λ y. Knows (group_size s) (h ++ x ∷ []) y (seen_after (group_size s) (seen_of w x.at) (mark x) x.is_store)) (sym (same_cell-is c x.at t))
          (knows_here (group_size s) h x.at (seen_of w x.at) x (k.elements x.at) refl (later s h x next) q)
      at c false t = knows_elsewhere (group_size s) h c (seen_of w c) x (k.elements c) (λ r. let z : true ≡ false = sym (ap (λ y. same_cell y x.at) (sym r) ∙ same_cell-refl x.at) ∙ t in cc)

pub clashes_now : (s : Setup) (h : List Access) (w : Watch) (x : Access) → KnowsAll s h w → seen_meets (group_size s) (seen_of w x.at) (mark x) x.is_store ≡ true → ClashesFirst s (h ++ x ∷ []) (length h)
clashes_now s h w x k q =
    let f = found (group_size s) h x.at (seen_of w x.at) (mark x) x.is_store (k.elements x.at) q in record {
      before = h;
      after = [];
      earlier = f.0;
      later = x;
      is = refl;
      at = refl;
      among = f.1;
      clash = clash_of s f.0 x f.2 f.3 f.4;
      none_sooner = k.none;
    }

pub stays_first : (s : Setup) (h : List Access) (x : Access) (place : ℕ) → ClashesFirst s h place → ClashesFirst s (h ++ x ∷ []) place
stays_first s h x place f = record {
  before = f.before;
  after = f.after ++ x ∷ [];
  earlier = f.earlier;
  later = f.later;
  is = ap (λ y. y ++ x ∷ []) f.is ∙ append_assoc f.before (f.later ∷ f.after) (x ∷ []);
  at = f.at;
  among = f.among;
  clash = f.clash;
  none_sooner = f.none_sooner;
}

pub watched : (s : Setup) (h : List Access) (w : Watch) → is_none w.first ≡ true → Watches s h w → KnowsAll s h w
watched s h w e k = by w.first e k
  where
    by : (o : Option ℕ) → is_none o ≡ true → MatchOption o (KnowsAll s h w) (ClashesFirst s h) → KnowsAll s h w
    by None e k = k
    by (Some p) e k = cc

pub known : (s : Setup) (h : List Access) (w : Watch) → is_none w.first ≡ true → KnowsAll s h w → Watches s h w
known s h w e k = by w.first e
  where
    by : (o : Option ℕ) → is_none o ≡ true → MatchOption o (KnowsAll s h w) (ClashesFirst s h)
    by None e = k
    by (Some p) e = cc

pub still_first : (s : Setup) (h : List Access) (w : Watch) (x : Access) → is_none w.first ≡ false → Watches s h w → Watches s (h ++ x ∷ []) w
still_first s h w x e k = by w.first e k
  where
    by : (o : Option ℕ) → is_none o ≡ false → MatchOption o (KnowsAll s h w) (ClashesFirst s h) → MatchOption o (KnowsAll s (h ++ x ∷ []) w) (ClashesFirst s (h ++ x ∷ []))
    by None e k = cc
    by (Some p) e k = stays_first s h x p k

-- the first that clashes with the access at the place
module _ (s : Setup) (h : List Access) (place : ℕ) (f : ClashesFirst s h place) (d : Access) where
  later_is : get_or h place d ≡ f.later
  later_is = ap (λ y. get_or y place d) f.is ∙ get_or_at f.before f.later f.after d place f.at

  earlier_is : (k : ℕ) → k < place → get_or h k d ≡ get_or f.before k d
  earlier_is k l = ap (λ y. get_or y k d) f.is ∙ get_or_append_left f.before (f.later ∷ f.after) d k (subst (λ n. k < n) (sym f.at) l)

  not_clash : (k : ℕ) → k < place → clashes s (get_or h k d) (get_or h place d) ≡ false → Clash s (get_or f.before k d) f.later → ⊥
  not_clash k l e c =
      let t = (clashes-Decides s (get_or f.before k d) f.later).1 c in
      let z : true ≡ false = sym t ∙ sym (ap (λ y. clashes s y f.later) (earlier_is k l)) ∙ sym (ap (λ y. clashes s (get_or h k d) y) later_is) ∙ e in cc

  -- an element of the first so many
  none_of : (i : ℕ) → i ≤ place → ((k : ℕ) → k < i → clashes s (get_or h k d) (get_or h place d) ≡ false) → (x : Access) → Contains (take i f.before) x → Clash s x f.later → ⊥
  none_of i l e x p c =
      let n : length (take i f.before) ≡ i = length-take-le i f.before (subst (λ m. i ≤ m) (sym f.at) l) in
      let k : p.0 < i = subst (λ m. p.0 < m) n p.1 in
      let b : p.0 < length f.before = subst (λ m. p.0 < m) (sym f.at) (omega (arith, k, l)) in
      let is : get_or f.before p.0 d ≡ x = get_or_default f.before p.0 d x b ∙ sym (get_or-take i f.before p.0 x k) ∙ p.2 in
      not_clash p.0 (omega (arith, k, l)) (e p.0 k) (subst (λ y. Clash s y f.later) (sym is) c)

  pub one_clashes : ((k : ℕ) → k < place → clashes s (get_or h k d) (get_or h place d) ≡ false) → ⊥
  one_clashes e =
      let p = f.among in
      let b : p.0 < length f.before = p.1 in
      let l : p.0 < place = subst (λ m. p.0 < m) f.at b in
      not_clash p.0 l (e p.0 l) (subst (λ y. Clash s y f.later) (sym (get_or_default f.before p.0 d f.earlier b ∙ p.2)) f.clash)

  pub first_pair : (i : ℕ) → i < place → clashes s (get_or h i d) (get_or h place d) ≡ true → ((k : ℕ) → k < i → clashes s (get_or h k d) (get_or h place d) ≡ false) → IsFirstClash s h (get_or h i d) (get_or h place d)
  first_pair i l t e =
      let b : i < length f.before = subst (λ m. i < m) (sym f.at) l in
      let split : f.before ≡ take i f.before ++ get_or h i d ∷ drop (i + 1) f.before =
      sym (take-append-drop i f.before) ∙ ap (λ y. take i f.before ++ y) (drop_more f.before i d b) ∙ ap (λ y. take i f.before ++ y ∷ drop (i + 1) f.before) (sym (earlier_is i l)) in
      record {
        before = take i f.before;
        between = drop (i + 1) f.before;
        after = f.after;
        is = f.is ∙ ap (λ y. f.before ++ y ∷ f.after) (sym later_is) ∙ ap (λ y. y ++ get_or h place d ∷ f.after) split;
        clash = (clashes-Decides s (get_or h i d) (get_or h place d)).0 t;
        none_sooner = subst (HasNoClash s) split f.none_sooner;
        none_before = λ x p c. none_of i (omega (arith, l)) e x p (subst (Clash s x) later_is c);
      }

pub first_at : (s : Setup) (h : List Access) (w : Watch) (place : ℕ) → w.first ≡ Some place → Watches s h w → ClashesFirst s h place
first_at s h w place e k = subst (λ o. MatchOption o (KnowsAll s h w) (ClashesFirst s h)) e k

-- what the code reads past the end
abbrev pub no_access : code.Access
no_access = record { item = 0; at = record { owner = Launch; array = 0; index = 0 }; is_store = false; epoch = 0; site = record { line = 0; column = 0 } }

-- by the code's accesses
seen_at : (s : Setup) (xs : List code.Access) (d : code.Access) (i j : ℕ) → i < length xs → j < length xs → clash_at s xs d i j ≡ clashes s (get_or (map access xs) i (access d)) (get_or (map access xs) j (access d))
seen_at s xs d i j k l = sym (ap (λ y. clashes s y (get_or (map access xs) j (access d))) (get_or-map access xs i d (access d) k) ∙ ap (clashes s (access (get_or xs i d))) (get_or-map access xs j d (access d) l))

pub first_clash : (s : Setup) (xs : List code.Access) (d : code.Access) (place i : ℕ) → ClashesFirst s (map access xs) place → place < length xs → i < place → clash_at s xs d i place ≡ true → ((k : ℕ) → k < i → clash_at s xs d k place ≡ false)
    → IsFirstClash s (map access xs) (access (get_or xs i d)) (access (get_or xs place d))
first_clash s xs d place i f p l t e =
    subst (λ y. IsFirstClash s (map access xs) y (access (get_or xs place d))) (get_or-map access xs i d (access d) (omega (arith, p, l)))
    (subst (λ y. IsFirstClash s (map access xs) (get_or (map access xs) i (access d)) y) (get_or-map access xs place d (access d) p)
    (first_pair s (map access xs) place f (access d) i l (sym (seen_at s xs d i place (omega (arith, p, l)) p) ∙ t) (λ k m. sym (seen_at s xs d k place (omega (arith, p, l, m)) p) ∙ e k m)))

pub none_clashes : (s : Setup) (xs : List code.Access) (d : code.Access) (place : ℕ) → ClashesFirst s (map access xs) place → place < length xs → ((k : ℕ) → k < place → clash_at s xs d k place ≡ false) → ⊥
none_clashes s xs d place f p e = one_clashes s (map access xs) place f (access d) (λ k l. sym (seen_at s xs d k place (omega (arith, p, l)) p) ∙ e k l)
