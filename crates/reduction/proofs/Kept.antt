-- Each event keeps it.
use Rattle.std.proofs.Common.{◌≡◌, ◌≢◌, ℕ, ◌+◌, ◌<◌, ℤ, pos, List, [], ◌∷◌, Bool, true, false, cond, ◌⊎◌, Contains, Option, Some, None, refl, sym, ap, ap₂, ◌∙◌, inl, inr, arith, subst, eqb-true, eq-eqb, nat_eq}
use Rattle.std.proofs.lemmas.Bool.{cases_eq}
use Rattle.std.proofs.lemmas.Bool.Decides.{nat_tests}
use Rattle.std.proofs.lemmas.List.Elements.{Contains-push_cases}
use Rattle.semantics.specs.Conditions.{Content}
use Rattle.semantics.specs.Setup.{Setup, group_of, item_count}
use Rattle.semantics.specs.Item.{Item, Running, Waiting}
use Rattle.semantics.specs.Ask.{Ask, Loads, Stores, Goes, Waits, Rests, ask}
use Rattle.semantics.specs.Solo.{after, passed, is_waiting, move, Access, Touched, touch}
use Rattle.semantics.specs.Memory.{opening_memory}
use Rattle.semantics.specs.Contents.{IsHonest, IsKept, Heeds, StoresKept}
use Rattle.semantics.specs.World.{World, Event, Step, Release, noted, released, happens, then_run, run, opening_world, past}
use Rattle.semantics.proofs.Steps.{Fair, ask-fair}
use Rattle.semantics.proofs.Updates.{put_item-same, put_item-other}
use Rattle.semantics.proofs.Events.{Let, let_go}
use Rattle.reduction.proofs.Along.{Along, Keeps, Did, did, may_go-waits}

-- the opening world is one of a run
pub opening-along : {cs : List Content} (s : Setup) → Keeps cs s → IsKept s cs (opening_memory s) → Along cs s (opening_world s)
unfolding opening_world
opening-along {cs} s keeps kept = record {
  words = λ i. [];
  stands = λ i. refl;
  keeps = keeps;
  honest = λ i hi. tt;
  kept = kept;
  level = λ i j hi hj g. refl;
  known = λ a h. absurd (omega (arith, h.1));
}

-- one more answer for one item
abbrev extend : ℕ → ℤ → (ℕ → List ℤ) → ℕ → List ℤ
extend i z words j = cond (nat_eq j i) (z ∷ words j) (words j)

extend-same : (i : ℕ) (z : ℤ) (words : ℕ → List ℤ) → extend i z words i ≡ z ∷ words i
extend-same i z words = rw (eq-eqb i i refl) refl

extend-other : (i j : ℕ) (z : ℤ) (words : ℕ → List ℤ) → j ≢ i → extend i z words j ≡ words j
extend-other i j z words ne = grind (arith, nat_tests)

pub touch-item : (i : ℕ) (it : Item) (k : Ask) (a : Access) → touch i it k ≡ Some a → a.item ≡ i
touch-item i it (Loads at kind site) a h = cc
touch-item i it (Stores at site value next) a h = cc
touch-item i it (Goes next) a h = cc
touch-item i it (Waits next) a h = cc
touch-item i it Rests a h = cc

noted-cases : (o : Option Access) (h : List Access) (a : Access) → Contains (noted o h) a → Contains h a ⊎ (o ≡ Some a)
noted-cases None h a c = inl c
noted-cases (Some b) h a c = elim (Contains-push_cases h b a c) [ inl old ↦ inl old | inr new ↦ inr (ap (λ (x : Access). Some x) new) ]

module _ {cs : List Content} (s : Setup) (i : ℕ) (w v : World) (al : Along cs s w) (d : Did s i w v) where
  step-stands : (j : ℕ) → v.items j ≡ after s j (extend i d.answer al.words j)
  step-stands j = elim (cases_eq j i) [ inl e ↦ subst (λ k. v.items k ≡ after s k (extend i d.answer al.words k)) (sym e) here | inr ne ↦ there ne ]
    where
      here : v.items i ≡ after s i (extend i d.answer al.words i)
      here = rw (d.items, put_item-same i (move s i (w.items i) d.answer) w.items, al.stands i, extend-same i d.answer al.words) refl

      there : (j ≡ i → ⊥) → v.items j ≡ after s j (extend i d.answer al.words j)
      there ne = rw (d.items, put_item-other i j (move s i (w.items i) d.answer) w.items ne, al.stands j, extend-other i j d.answer al.words ne) refl

  not_waiting : is_waiting (after s i (al.words i)).status ≡ 0
  not_waiting = ap (λ (it : Item). is_waiting it.status) (sym (al.stands i)) ∙ ap is_waiting d.next.was

  step-passed : (j : ℕ) → passed s j (extend i d.answer al.words j) ≡ passed s j (al.words j)
  step-passed j = elim (cases_eq j i) [ inl e ↦ subst (λ k. passed s k (extend i d.answer al.words k) ≡ passed s k (al.words k)) (sym e) here | inr ne ↦ ap (passed s j) (extend-other i j d.answer al.words ne) ]
    where
      here : passed s i (extend i d.answer al.words i) ≡ passed s i (al.words i)
      here = rw (extend-same i d.answer al.words, not_waiting) (omega arith)

  step-touched : (a : Access) (j : ℕ) → Touched s j (al.words j) a → Touched s j (extend i d.answer al.words j) a
  step-touched a j h = go (nat_eq j i)
    where
      go : (b : Bool) → Touched s j (cond b (d.answer ∷ al.words j) (al.words j)) a
      go true = inr h
      go false = h

  step-new : (a : Access) → touch i (w.items i) (ask s i (w.items i)) ≡ Some a → Touched s i (extend i d.answer al.words i) a
  step-new a h =
      let e : touch i (after s i (al.words i)) (ask s i (after s i (al.words i))) ≡ Some a = rw al.stands at h in
      rw extend-same (inl e)

  step-known : (a : Access) → Contains v.history a → (a.item < item_count s) × Touched s a.item (extend i d.answer al.words a.item) a
  step-known a c = elim (noted-cases (touch i (w.items i) (ask s i (w.items i))) w.history a (subst (λ h. Contains h a) d.history c)) [
    | inl old ↦ ((al.known a old).0, step-touched a a.item (al.known a old).1)
    | inr new ↦ let e = touch-item i (w.items i) (ask s i (w.items i)) a new in
        (omega (arith, e, d.below), subst (λ k. Touched s k (extend i d.answer al.words k) a) (sym e) (step-new a new))
  ]

  step-honest : (j : ℕ) → j < item_count s → IsHonest s cs j (extend i d.answer al.words j)
  step-honest j hj = elim (cases_eq j i) [
    | inl e ↦ subst (λ k. IsHonest s cs k (extend i d.answer al.words k)) (sym e) (subst (IsHonest s cs i) (sym (extend-same i d.answer al.words)) (al.honest i d.below, subst (λ (it : Item). Heeds s cs (ask s i it) d.answer) (al.stands i) (d.heeds cs al.kept)))
    | inr ne ↦ subst (IsHonest s cs j) (sym (extend-other i j d.answer al.words ne)) (al.honest j hj)
  ]

  step-kept : IsKept s cs v.memory
  step-kept = d.keeps cs al.kept (subst (λ (it : Item). StoresKept s cs (ask s i it)) (sym (al.stands i)) (al.keeps i (al.words i) d.below (al.honest i d.below)))

  -- a step keeps it: the number that a load read is one more word
  pub step-along : Along cs s v
  step-along = record {
    words = extend i d.answer al.words;
    stands = step-stands;
    keeps = al.keeps;
    honest = step-honest;
    kept = step-kept;
    level = λ j k hj hk g. step-passed j ∙ al.level j k hj hk g ∙ sym (step-passed k);
    known = step-known;
  }

waiting-heeds : (s : Setup) (cs : List Content) (it : Item) (k : Ask) (z : ℤ) → Fair it k → it.status ≡ Waiting → Heeds s cs k z
waiting-heeds s cs it (Loads at kind site) z f h = let q : Waiting ≡ Running = sym h ∙ f in cc
waiting-heeds s cs it (Stores at site value next) z f h = tt
waiting-heeds s cs it (Goes next) z f h = tt
waiting-heeds s cs it (Waits next) z f h = tt
waiting-heeds s cs it Rests z f h = tt

-- one more move for each item of a group
abbrev let_words : Setup → ℕ → (ℕ → List ℤ) → ℕ → List ℤ
let_words s g words j = cond (nat_eq (group_of s j) g) (pos 0 ∷ words j) (words j)

module _ {cs : List Content} (s : Setup) (g : ℕ) (w : World) (al : Along cs s w) (l : Let s g w (released s g w)) where
  release-stands : (j : ℕ) → (released s g w).items j ≡ after s j (let_words s g al.words j)
  unfolding released
  release-stands j = go (nat_eq (group_of s j) g)
    where
      go : (b : Bool) → cond b (past s j (w.items j)) (w.items j) ≡ after s j (cond b (pos 0 ∷ al.words j) (al.words j))
      go true = ap (past s j) (al.stands j)
      go false = al.stands j

  release-passed : (j : ℕ) → j < item_count s → passed s j (let_words s g al.words j) ≡ passed s j (al.words j) + cond (nat_eq (group_of s j) g) 1 0
  release-passed j lt = go (nat_eq (group_of s j) g) (λ e. may_go-waits s w.items g j l.may lt (eqb-true (group_of s j) g e))
    where
      go : (b : Bool) → (b ≡ true → (w.items j).status ≡ Waiting) → passed s j (cond b (pos 0 ∷ al.words j) (al.words j)) ≡ passed s j (al.words j) + cond b 1 0
      go true h = ap (λ (it : Item). passed s j (al.words j) + is_waiting it.status) (sym (al.stands j)) ∙ ap (λ st. passed s j (al.words j) + is_waiting st) (h refl)
      go false h = omega arith

  release-touched : (a : Access) (j : ℕ) → Touched s j (al.words j) a → Touched s j (let_words s g al.words j) a
  release-touched a j h = go (nat_eq (group_of s j) g)
    where
      go : (b : Bool) → Touched s j (cond b (pos 0 ∷ al.words j) (al.words j)) a
      go true = inr h
      go false = h

  release-honest : (j : ℕ) → j < item_count s → IsHonest s cs j (let_words s g al.words j)
  release-honest j lt = go (nat_eq (group_of s j) g) (λ e. may_go-waits s w.items g j l.may lt (eqb-true (group_of s j) g e))
    where
      go : (b : Bool) → (b ≡ true → (w.items j).status ≡ Waiting) → IsHonest s cs j (cond b (pos 0 ∷ al.words j) (al.words j))
      go true h = (al.honest j lt, subst (λ (it : Item). Heeds s cs (ask s j it) (pos 0)) (al.stands j) (waiting-heeds s cs (w.items j) (ask s j (w.items j)) (pos 0) (ask-fair s j (w.items j)) (h refl)))
      go false h = al.honest j lt

  -- a release keeps it: each item of the group passes its barrier
  pub release-along : Along cs s (released s g w)
  unfolding released
  release-along = record {
    words = let_words s g al.words;
    stands = release-stands;
    keeps = al.keeps;
    honest = release-honest;
    kept = al.kept;
    level = λ i j hi hj e. release-passed i hi ∙ ap₂ (λ m k. m + cond (nat_eq k g) 1 0) (al.level i j hi hj e) e ∙ sym (release-passed j hj);
    known = λ a c. ((al.known a c).0, release-touched a a.item (al.known a c).1);
  }

pub happens-along : {cs : List Content} (s : Setup) (e : Event) (w v : World) → Along cs s w → happens s w e ≡ Some v → Along cs s v
happens-along {cs} s (Step i) w v al h = step-along s i w v al (did s i w v h)
happens-along {cs} s (Release g) w v al h =
    let l = let_go s g w v h in
    subst (Along cs s) (sym l.after) (release-along s g w al (record { below = l.below; may = l.may; after = refl }))

pub then_run-is : (o : Option World) (f : World → Option World) (v : World) → then_run o f ≡ Some v → (u : World) × (o ≡ Some u) × (f u ≡ Some v)
then_run-is None f v h = cc
then_run-is (Some u) f v h = (u, refl, h)

-- so it holds of each world of a run
pub run-along : {cs : List Content} (s : Setup) (es : List Event) (w v : World) → Along cs s w → run s es w ≡ Some v → Along cs s v
run-along {cs} s [] w v al h = let e : w ≡ v = cc in subst (Along cs s) e al
run-along {cs} s (e ∷ es) w v al h =
    let t = then_run-is (happens s w e) (run s es) v h in
    run-along s es t.0 v (happens-along s e w t.0 al t.1) t.2
