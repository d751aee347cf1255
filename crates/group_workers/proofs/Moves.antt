-- Each move keeps the rule of a deque.
use Rattle.std.proofs.Common.{◌≡◌, ◌≢◌, ℕ, zero, suc, ◌+◌, ◌<◌, ◌≤◌, ◌%◌, ◌==◌, true, false, List, [], ◌∷◌, ◌++◌, cond, length, set, get_or, sym, refl, ap, ◌∙◌, subst, ⊎_elim, inl, inr, ◌⊎◌, arith}
use Rattle.std.specs.Prelude.{Result, Ok, Err, MatchResult, slice_index}
use Rattle.std.specs.List.{sum_by}
use Rattle.std.proofs.lemmas.List.Sums.{sum_by-append, sum_by-set}
use Rattle.std.proofs.lemmas.Bool.{cases_eq, eq-eqb, ne_eqb, false≢true, cases_lt}
use Rattle.std.proofs.Math.Nat.{add-mod_right}
use mathlib.Core.Option.{some, some-ne-none, some-injective}
use lib.ListN.{get_elem?}
use Rattle.crossbeam_deque.specs.Tasks.{Pushes, Takes, Admits}
use Rattle.crossbeam_deque.proofs.Lists.{at_set, at_snoc}
use Rattle.group_workers.specs.declared.Hand.{Hand}
use Rattle.group_workers.specs.Dealing.{hand, times, met, IsOwned, Deals, IsOfShare, Took}

there : (views : List Hand) (id : ℕ) (v : Hand) → get_elem? views id ≡ some v → id < length views
there [] id v e = absurd (some-ne-none v (sym e))
there (u ∷ us) zero v e = omega arith
there (u ∷ us) (suc id) v e = let h = there us id v e in omega arith

found : (views : List Hand) (id : ℕ) (v d : Hand) → get_elem? views id ≡ some v → get_or views id d ≡ v
found [] id v d e = absurd (some-ne-none v (sym e))
found (u ∷ us) zero v d e = some-injective u v e
found (u ∷ us) (suc id) v d e = found us id v d e

-- the sum over all views after a change of one
sum_set : (f : Hand → ℕ) (views : List Hand) (port : ℕ) (v w : Hand) → get_elem? views port ≡ some v → sum_by f (set views port w) + f v ≡ sum_by f views + f w
sum_set f views port v w at = subst (λ u. sum_by f (set views port w) + f u ≡ sum_by f views + f w) (found views port v v at) (sum_by-set f views port w v (there views port v at))

one_here : (k x : ℕ) → x ≡ k → times k (x ∷ []) ≡ 1
one_here k x e = ap (λ b. 0 + cond {A = ℕ} b 1 0) (eq-eqb x k e)

none_here : (k x : ℕ) → x ≢ k → times k (x ∷ []) ≡ 0
none_here k x n = ap (λ b. 0 + cond {A = ℕ} b 1 0) (ne_eqb x k n)

-- only the owner's view changes what is owned
owned_set : (owner next to : ℕ) (views : List Hand) (port : ℕ) (v w : Hand) → IsOwned owner next views → get_elem? views port ≡ some v → v.owns ≡ true → w.next ≡ to → IsOwned owner to (set views port w)
owned_set owner next to views port v w owned at owns is j u e o = ⊎_elim
    (λ same. (same.0 ∙ (owned port v at owns).0, ap (λ h. h.next) (sym same.1) ∙ is))
    (λ other. absurd (other.0 ((owned j u other.1 o).0 ∙ sym (owned port v at owns).0)))
    (at_set views port j w u e)

owned_same : (owner next : ℕ) (views : List Hand) (port : ℕ) (v w : Hand) → IsOwned owner next views → get_elem? views port ≡ some v → w.owns ≡ v.owns → w.next ≡ v.next → IsOwned owner next (set views port w)
owned_same owner next views port v w owned at same_owns same_next j u e o = ⊎_elim
    (λ same. let old = owned port v at (sym same_owns ∙ (ap (λ h. h.owns) same.1 ∙ o)) in (same.0 ∙ old.0, ap (λ h. h.next) (sym same.1) ∙ (same_next ∙ old.1)))
    (λ other. owned j u other.1 o)
    (at_set views port j w u e)

-- the owner, who has taken nothing yet, may push this number next
pub record MayPush (workers : ℕ) (v : Hand) (x : ℕ) : Type 0 where
  pub owns : v.owns ≡ true
  pub later : v.next ≤ x
  pub share : (v.next ≡ 0) ⊎ (v.next % workers ≡ x % workers)
  pub none : v.taken ≡ []

-- a push of the owner's next number or a later one of its share
pub pushes : (workers port : ℕ) (v : Hand) (x : ℕ) → 0 < workers → MayPush workers v x → Pushes (Deals workers) port v (x ∷ []) (λ w. w ≡ hand true (x + workers) v.taken)
pushes workers port v x some_workers may items views h at =
    let owns = may.owns in
    let later = may.later in
    let share = may.share in
    let w : Hand = hand true (x + workers) v.taken in
    let mine = h.2 port v at owns in
    let after : (k : ℕ) → met k (items ++ x ∷ []) (set views port w) ≡ met k items views + times k (x ∷ []) = λ k.
    let a = sum_by-append (λ y. cond {A = ℕ} (y == k) 1 0) items (x ∷ []) in
    let s = sum_set (λ u. times k u.taken) views port v w at in
    omega (arith, a, s) in
    let fresh : met x items views ≡ 0 = ⊎_elim
    (λ (some_ : 0 < met x items views). let old = h.4 x some_ in absurd (omega (arith, old.0, mine.1, later)))
    (λ (none : met x items views ≤ 0). omega arith)
    (cases_lt 0 (met x items views)) in
    let wraps : (x + workers) % workers ≡ x % workers = add-mod_right x workers in (
      w,
      (
        h.0,
        x + workers,
        owned_set h.0 h.1 (x + workers) views port v w h.2 at owns refl,
        (λ k. ⊎_elim
            (λ same. let e = one_here k x same in let f = subst (λ n. met n items views ≡ 0) same fresh in omega (arith, after k, e, f))
            (λ other. let e = none_here k x other in omega (arith, after k, e, h.3 k))
            (cases_eq x k)),
        (λ k some_. ⊎_elim
            (λ same. (omega (arith, same), ap (λ n. n % workers) (sym same) ∙ sym wraps))
            (λ other.
            let e = none_here k x other in
            let old = h.4 k (omega (arith, after k, e)) in
            (omega (arith, old.0, mine.1, later), ⊎_elim (λ zero_. absurd (omega (arith, old.0, mine.1, zero_))) (λ s. old.1 ∙ (ap (λ n. n % workers) (sym mine.1) ∙ (s ∙ sym wraps))) share))
            (cases_eq x k)),
      ),
      refl,
    )

-- then the next one of its share, whether the push was refused or not
went_on : (workers x : ℕ) (old new : Hand) (P Q R : Type 0) (r : Result (Unit {0}) ℕ) → MayPush workers old x
    → MatchResult r (λ _. (new ≡ hand true (x + workers) old.taken) × P) (λ y. (y ≡ x) × (new ≡ old) × Q × R)
    → MayPush workers new (x + workers)
went_on workers x old new P Q R (Ok u) may rule = subst (λ v. MayPush workers v (x + workers)) (sym rule.0) (record {
  owns = refl;
  later = omega arith;
  share = inr refl;
  none = may.none;
})
went_on workers x old new P Q R (Err y) may rule = subst (λ v. MayPush workers v (x + workers)) (sym rule.1) (record {
  owns = may.owns;
  later = let l = may.later in omega (arith, l);
  share = ⊎_elim (λ z. inl z) (λ s. inr (s ∙ sym (add-mod_right x workers))) may.share;
  none = may.none;
})

pub goes_on : (workers n x next : ℕ) (old new : Hand) (P Q R : Type 0) (r : Result (Unit {0}) ℕ) → n ≡ workers → next ≡ x + n → MayPush n old x
    → MatchResult r (λ _. (new ≡ hand true (x + workers) old.taken) × P) (λ y. (y ≡ x) × (new ≡ old) × Q × R)
    → MayPush n new next
goes_on workers n x next old new P Q R r same is may rule = rw (is, same) (went_on workers x old new P Q R r (subst (λ m. MayPush m old x) same may) rule)

-- an owner that has pushed numbers of its share, as far as they were not refused, and taken none
pub filled : (workers share x : ℕ) (v w : Hand) → w ≡ v → x % workers ≡ share % workers → MayPush workers v x → (w.taken ≡ []) × IsOfShare workers share w
filled workers share x v w is same may =
    subst (λ u. (u.taken ≡ []) × IsOfShare workers share u) (sym is) (may.none, ⊎_elim (λ z. inl z) (λ s. inr (s ∙ same)) may.share)

-- what stands at the front of a deque, as its taker learns it
learns : (workers port x : ℕ) (items : List ℕ) (views : List Hand) (v : Hand) → Deals workers (x ∷ items) views → get_elem? views port ≡ some v
    → Took workers v x (hand v.owns v.next (v.taken ++ x ∷ []))
learns workers port x items views v h at = record {
  last = refl;
  first_time = let one = h.3 x in omega (arith, one, here, whole x);
  alike = λ k some_. (h.4 k (let t = whole k in omega (arith, t, some_))).1 ∙ sym mine.1;
  own = λ owns. let is = (h.2 port v at owns).1 in (subst (λ n. x < n) (sym is) mine.0, mine.1 ∙ ap (λ n. n % workers) (sym is));
}
  where
    here : times x (x ∷ items) ≡ 1 + times x items
    here = let a = sum_by-append (λ y. cond {A = ℕ} (y == x) 1 0) (x ∷ []) items in let e = one_here x x refl in omega (arith, a, e)

    -- what this taker took is met
    whole : (k : ℕ) → times k v.taken ≤ sum_by (λ u. times k u.taken) views
    whole k = let s = sum_set (λ u. times k u.taken) views port v (hand v.owns v.next []) at in omega (arith, s)

    mine : (x < h.1) × (x % workers ≡ h.1 % workers)
    mine = h.4 x (omega (arith, here))

-- one number is taken at the front
pub takes : (workers port : ℕ) (v : Hand) → Takes (Deals workers) port v 1 (λ xs w. Took workers v (slice_index xs 0) w)
takes workers port v [] items views some_ few h at = absurd (omega (arith, some_))
takes workers port v (x ∷ y ∷ ys) items views some_ few h at = absurd (omega (arith, few))
takes workers port v (x ∷ []) items views some_ few h at =
    let w : Hand = hand v.owns v.next (v.taken ++ x ∷ []) in
    let after : (k : ℕ) → met k items (set views port w) ≡ met k (x ∷ items) views = λ k.
    let a = sum_by-append (λ y. cond {A = ℕ} (y == k) 1 0) (x ∷ []) items in
    let b = sum_by-append (λ y. cond {A = ℕ} (y == k) 1 0) v.taken (x ∷ []) in
    let s = sum_set (λ u. times k u.taken) views port v w at in
    omega (arith, a, b, s) in (
      w,
      (
        h.0,
        h.1,
        owned_same h.0 h.1 views port v w h.2 at refl refl,
        (λ k. omega (arith, after k, h.3 k)),
        (λ k some_. h.4 k (omega (arith, after k))),
      ),
      learns workers port x items views v h at,
    )

-- a new pass has taken nothing
pub admits : (workers : ℕ) → Admits (Deals workers) (hand false 0 [])
admits workers items views h =
    let after : (k : ℕ) → met k items (views ++ hand false 0 [] ∷ []) ≡ met k items views = λ k. let a = sum_by-append (λ u. times k u.taken) views (hand false 0 [] ∷ []) in omega (arith, a) in (
      h.0,
      h.1,
      (λ j u e o. ⊎_elim (λ old. h.2 j u old o) (λ same. absurd (false≢true (ap (λ y. y.owns) same ∙ o))) (at_snoc views (hand false 0 []) u j e)),
      (λ k. omega (arith, after k, h.3 k)),
      (λ k some_. h.4 k (omega (arith, after k))),
    )

one_hand : (j : ℕ) (u : Hand) → get_elem? (hand true 0 [] ∷ []) j ≡ some u → (j ≡ 0) × (u ≡ hand true 0 [])
one_hand zero u e = (refl, sym (some-injective (hand true 0 []) u e))
one_hand (suc j) u e = absurd (some-ne-none u (sym e))

-- an empty deque
pub begins : (workers : ℕ) → Deals workers [] (hand true 0 [] ∷ [])
begins workers = (
  0,
  0,
  (λ j u e o. let is = one_hand j u e in (is.0, ap (λ h. h.next) is.1)),
  (λ k. omega arith),
  (λ k some_. absurd (omega arith)),
)
