-- What a plain kernel has to show: its forms are of i64, it has one path, and a claim of a range is settled or has an entry.
use Rattle.std.proofs.Common.{◌≡◌, ℕ, zero, suc, ◌+◌, ◌≤◌, Bool, true, false, get_or, ◌⊎◌, inl, inr, List, [], ◌∷◌, ◌++◌, ◌&&◌, map, None, arith, refl, sym, ap, subst, ◌∙◌, append_assoc}
use Rattle.std.specs.Prelude.{ℤ, pos, negsuc, ◌≤ℤ◌}
use Rattle.std.proofs.lemmas.Int.{ints}
use Rattle.std.proofs.lemmas.Bool.{false≢true}
use Rattle.semantics.specs.Launch.{Kernel}
use Rattle.semantics.specs.Conditions.{Conditions}
use Rattle.facts.specs.Launching.{launch_facts, known}
use Rattle.arrivals.specs.Loops.{unmet}
use Rattle.arrivals.specs.Places.{own_place}
use Rattle.walk_trees.specs.Trees as trees
use Rattle.walk_trees.specs.Trees.{Tree, Obligation, Access, Ended, leaves}
use Rattle.walk_trees.proofs.Each.{Each}
use Rattle.obligations.specs.Notes.{Notes}
use Rattle.obligations.specs.Walking.{tree_of}
use Rattle.obligations.specs.Listing.{Planted, planted, planted_from, all_trees, of_place, claims_of, accesses_of, ends_in}
use Rattle.obligations.specs.Meetings.{meetings}
use Rattle.obligations.specs.Crossings.{crossings, crossing_obligation}
use Rattle.obligations.specs.Fitting.{planted_fits, trees_fit, goals_fit, crossings_fit, forms_fit}
use Rattle.obligations.specs.Shown.{obligations}
use Rattle.plain_kernels.specs.Domains.{domain}
use Rattle.plain_kernels.specs.Claims.{claims, marked, is_range}
use Rattle.plain_kernels.specs.Kernels.{has_signed, IsPlain, HasLimits}
use Rattle.plain_kernels.specs.Forks.{has_fork}
use Rattle.plain_kernels.proofs.Terms.{Both}
use Rattle.plain_kernels.proofs.Trees.{IsRight, IsTame}
use Rattle.plain_kernels.proofs.Placing.{body-met, one-place}
use Rattle.plain_kernels.proofs.Fitting.{two, AreRight, tame-fits, tame-path, tame-denials, tame-end, small-accesses, claims-right}
use Rattle.plain_kernels.proofs.Crossed.{IsSmallOf, small-of, small-crossings-fit, small-crossings}
use Rattle.plain_kernels.proofs.Opening.{opening-fits, no-meetings}
use Rattle.plain_kernels.proofs.Bodies.{tree-tame}

-- a number of at least 1 is one more than another
before : (n : ℕ) → 1 ≤ n → (m : ℕ) × (n ≡ suc m)
before zero h = absurd (omega arith)
before (suc m) h = (m, refl)

before_z : (z : ℤ) → pos 1 ≤ℤ z → z ≤ℤ pos 65536 → (m : ℕ) × (z ≡ pos (suc m)) × (m ≤ 65535)
before_z (pos zero) h k = absurd (omega (arith, ints, h))
before_z (pos (suc m)) h k = (m, refl, omega (arith, ints, k))
before_z (negsuc m) h k = absurd (omega (arith, ints, h))

-- at a mark
right-at : (h : ℕ → Bool) (signed : Type 0) (rs : List Bool) (n : ℕ) (os : List Obligation) (i : ℕ) (d : Obligation) → AreRight h signed rs n os → marked rs i ≡ true → IsRight h signed true (suc (n + i)) (get_or os i d).needed (get_or os i d).settled
right-at h signed [] n os i d a m = absurd (false≢true m)
right-at h signed (r ∷ rs) n [] i d a m = absurd a
right-at h signed (r ∷ rs) n (o ∷ os) zero d a m =
    let z : n + 0 ≡ n = omega arith in
    subst (λ j. IsRight h signed true (suc j) o.needed o.settled) (sym z) (subst (λ b. IsRight h signed b (suc n) o.needed o.settled) m a.0)
right-at h signed (r ∷ rs) n (o ∷ os) (suc i) d a m =
    let z : suc n + i ≡ n + suc i = omega arith in
    subst (λ j. IsRight h signed true (suc j) (get_or os i d).needed (get_or os i d).settled) z (right-at h signed rs (suc n) os i d a.1 m)

-- what is not settled and is asked for has an entry
asked : {h : Bool} {signed : Type 0} {needed settled : Bool} → (settled ≡ true) ⊎ ((needed ≡ true → h ≡ true) × signed) → settled ≡ false → (needed ≡ true) ⊎ (h ≡ true) → (h ≡ true) × signed
asked (inl s) n a = absurd (false≢true (sym n ∙ s))
asked (inr p) n (inl a) = (p.0 a, p.1)
asked (inr p) n (inr b) = (b, p.1)

pub plain-met : (k : Kernel) (c : Conditions) → IsPlain k c → unmet k.body ≡ None
plain-met k c plain = body-met k.arguments k.sizes.x c.groups.x.high k.body plain.0

module _ (k : Kernel) (c : Conditions) (n : Notes) (limits : HasLimits k c) (plain : IsPlain k c) where
  abbrev h : ℕ → Bool
  h = n.has_entry

  abbrev signed : Type 0
  signed = has_signed k.arguments k.body ≡ true

  abbrev marks : List Bool
  marks = claims k.arguments k.body

  -- the entry's tree
  abbrev found : Tree Both
  found = tree_of domain k c n 0 (own_place None)

  abbrev pub lone : Planted Both
  lone = planted domain k c n 0 (own_place None)

  pub plain-trees : all_trees domain k c n ≡ lone ∷ []
  plain-trees = ap (planted_from domain k c n 0) (one-place k.arguments k.sizes.x c.groups.x.high k.body plain.0)

  found-tame : IsTame h signed marks 0 found
  found-tame =
      let x = before k.sizes.x limits.size_x.0 in
      let g = before_z c.groups.x.high limits.groups_x.0 limits.groups_x.1 in
      tree-tame k c n x.0 g.0 x.1 g.1 (omega (arith, x.1, limits.size_x.1)) g.2 signed plain.1 plain.0 (λ e. e)

  pub plain-path : (leaves 0 found ≡ 1) × (has_fork found ≡ false)
  plain-path = tame-path h signed marks 0 found found-tame

  -- what two ends and two accesses of these trees owe
  abbrev met : List (Planted Both) → List Obligation
  met ts = meetings domain (known domain k.sizes c) (launch_facts c) n (ends_in ts)

  abbrev crossed : List (Planted Both) → List Obligation
  crossed ts = map (crossing_obligation domain (known domain k.sizes c) (launch_facts c) n) (crossings k c (accesses_of ts))

  none-met : met (lone ∷ []) ≡ []
  none-met =
      let e = tame-end h signed marks 0 lone.facts found found-tame in
      ap (λ us. meetings domain (known domain k.sizes c) (launch_facts c) n (map (of_place lone) us ++ [])) e.1 ∙ no-meetings domain (known domain k.sizes c) (launch_facts c) n false e.0 e.2

  lone-fits : planted_fits lone ≡ true
  lone-fits = rw (opening-fits k c n limits, tame-fits h signed marks 0 found found-tame, tame-denials h signed marks 0 found found-tame) refl

  small : Each IsSmallOf (accesses_of (lone ∷ []))
  small = small-of lone (trees.accesses lone.facts 0 found) (small-accesses h signed marks 0 lone.facts found found-tame)

  pub plain-fits : forms_fit domain k c n ≡ true
  plain-fits =
      let f = two (planted_fits lone) true lone-fits refl in
      let g = ap goals_fit none-met in
      let x = small-crossings-fit (crossings k c (accesses_of (lone ∷ []))) (small-crossings k c (accesses_of (lone ∷ [])) small) in
      subst (λ ts. (trees_fit ts && (goals_fit (met ts) && crossings_fit (crossings k c (accesses_of ts)))) ≡ true) (sym plain-trees) (two (trees_fit (lone ∷ [])) _ f (two (goals_fit (met (lone ∷ []))) _ g x))

  right : AreRight h signed marks 0 (obligations domain k c n)
  right =
      let more : List Obligation = met (lone ∷ []) ++ crossed (lone ∷ []) in
      let first = trees.claims (launch_facts c) lone.facts 0 found in
      let r = claims-right h signed marks 0 (launch_facts c) lone.facts found more found-tame in
      subst (λ ts. AreRight h signed marks 0 (claims_of c ts ++ (met ts ++ crossed ts))) (sym plain-trees) (subst (AreRight h signed marks 0) (sym (append_assoc first [] more)) r)

  pub plain-range : (i : ℕ) (o : Obligation) → is_range k (suc i) ≡ true → o ≡ get_or (obligations domain k c n) i o → o.settled ≡ false → (o.needed ≡ true) ⊎ (h (suc i) ≡ true) → (h (suc i) ≡ true) × signed
  plain-range i o m e s a =
      let z : 0 + i ≡ i = omega arith in
      let r = subst (λ x. IsRight h signed true (suc (0 + i)) x.needed x.settled) (sym e) (right-at h signed marks 0 (obligations domain k c n) i o right m) in
      asked (subst (λ j. IsRight h signed true (suc j) o.needed o.settled) z r) s a
