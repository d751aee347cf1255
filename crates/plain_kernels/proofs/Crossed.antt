-- Where all accesses are small, so are the forms that are made of two of them.
use Rattle.std.proofs.Common.{◌≡◌, ℕ, suc, ◌≤◌, ◌&&◌, Bool, true, false, List, [], ◌∷◌, ◌++◌, map, arith, refl}
use Rattle.std.specs.Prelude.{pos}
use Rattle.semantics.specs.Core.{Space, Global, Local, Array}
use Rattle.linear.specs.Linear.{Weighted}
use Rattle.semantics.specs.Launch.{Three, Kernel}
use Rattle.semantics.specs.Conditions.{Conditions}
use Rattle.linear.specs.Exact.{fits}
use Rattle.linear.specs.Sizes.{terms_size}
use Rattle.linear.proofs.Sizes.{size_sum, size_difference, fits_small}
use Rattle.facts.specs.Symbols.{Fact, minus}
use Rattle.walk_trees.specs.Trees.{Access}
use Rattle.walk_trees.specs.Seconds.{second, second_terms, second_form}
use Rattle.walk_trees.specs.Pairs.{Scope, Within, Across, differs, where_so}
use Rattle.walk_trees.proofs.Each.{Each}
use Rattle.obligations.specs.Listing.{Of, Planted, of_place}
use Rattle.obligations.specs.Crossings.{Crossing, second_index, two_orders, all_orders, conflict, may_meet, with_one, with_each, array, crossings_in, crossings_of, crossings_from, is_fenced, crossings}
use Rattle.obligations.specs.Fitting.{crossing_fits, crossings_fit}
use Rattle.plain_kernels.proofs.Trees.{IsSmall}
use Rattle.plain_kernels.proofs.Fitting.{IsSmallAccess, two}

difference-fits : (f g : Fact) → IsSmall f → IsSmall g → fits (minus f g) ≡ true
difference-fits f g h i = fits_small (minus f g) (omega (arith, h, i, size_difference f g))

-- a copy is no larger than its form
terms-size-second : (ts : List (Weighted ℕ)) → terms_size (second_terms ts) ≤ terms_size ts
terms-size-second [] = omega arith
terms-size-second (t ∷ ts) =
    let m = size_sum (record { terms = record { coefficient = t.coefficient; symbol = second t.symbol } ∷ []; constant = pos 0 }) (record { terms = second_terms ts; constant = pos 0 }) in
    omega (arith, m, terms-size-second ts)

small-second : (f : Fact) → IsSmall f → IsSmall (second_form f)
small-second f h = omega (arith, h, terms-size-second f.terms)

abbrev pub IsSmallOf : {E : Type 0} → Of (Access E) → Type 0
IsSmallOf u = IsSmall u.it.index

-- of a place
pub small-of : {E : Type 0} (p : Planted E) (us : List (Access E)) → Each IsSmallAccess us → Each IsSmallOf (map (of_place p) us ++ [])
small-of p [] h = tt
small-of p (u ∷ us) h = (h.0, small-of p us h.1)

abbrev pub IsSmallCrossing : {E : Type 0} → Crossing E → Type 0
IsSmallCrossing x = IsSmall x.first.it.index × IsSmall x.second.it.index

pub small-crossings-fit : {E : Type 0} (xs : List (Crossing E)) → Each IsSmallCrossing xs → crossings_fit xs ≡ true
small-crossings-fit [] h = refl
small-crossings-fit (x ∷ xs) h =
    let s = small-second x.second.it.index h.0.1 in
    two (crossing_fits x) (crossings_fit xs)
    (two _ _ (difference-fits x.first.it.index (second_index x) h.0.0 s) (difference-fits (second_index x) x.first.it.index s h.0.0))
    (small-crossings-fit xs h.1)

both : {A : Type 0} (P : A → Type 0) (xs ys : List A) → Each P xs → Each P ys → Each P (xs ++ ys)
both P [] ys p q = q
both P (x ∷ xs) ys p q = (p.0, both P xs ys p.1 q)

module _ {E : Type 0} (sizes : Three ℕ) (c : Conditions) where
  small-two : (b : Bool) (u v : Of (Access E)) (s : Scope) (alike : Bool) (d : ℕ) → IsSmallOf u → IsSmallOf v → Each IsSmallCrossing (two_orders b u v s alike d)
  small-two false u v s alike d p q = tt
  small-two true u v s alike d p q = ((p, q), ((p, q), tt))

  small-one : (b : Bool) (s : Scope) (alike : Bool) (u v : Of (Access E)) → IsSmallOf u → IsSmallOf v → Each IsSmallCrossing (where_so b (all_orders sizes c s alike u v))
  small-one false s alike u v p q = tt
  small-one true s alike u v p q =
      let each = λ (d : ℕ). small-two (differs sizes c s d) u v s alike d p q in
      both IsSmallCrossing (two_orders (differs sizes c s 0) u v s alike 0) _ (each 0) (both IsSmallCrossing (two_orders (differs sizes c s 1) u v s alike 1) (two_orders (differs sizes c s 2) u v s alike 2) (each 1) (each 2))

  small-each : (fenced : Bool) (a : Array) (s : Scope) (u : Of (Access E)) (vs : List (Of (Access E))) → IsSmallOf u → Each IsSmallOf vs → Each IsSmallCrossing (with_each sizes c fenced a s u vs)
  small-each fenced a s u [] p q = tt
  small-each fenced a s u (v ∷ vs) p q =
      both IsSmallCrossing (with_one sizes c fenced a s u v) (with_each sizes c fenced a s u vs) (small-one (conflict a u v && may_meet fenced s u.anchor v.anchor) s fenced u v p q.0) (small-each fenced a s u vs p q.1)

  small-in : (fenced : Bool) (a : Array) (s : Scope) (us : List (Of (Access E))) → Each IsSmallOf us → Each IsSmallCrossing (crossings_in sizes c fenced a s us)
  small-in fenced a s [] p = tt
  small-in fenced a s (u ∷ us) p = both IsSmallCrossing (with_each sizes c fenced a s u (u ∷ us)) (crossings_in sizes c fenced a s us) (small-each fenced a s u (u ∷ us) p.0 p) (small-in fenced a s us p.1)

  module _ (fenced : Space → Bool) (us : List (Of (Access E))) (p : Each IsSmallOf us) where
    small-array : (sp : Space) (n : ℕ) → Each IsSmallCrossing (crossings_of sizes c fenced us sp n)
    small-array Global n =
        both IsSmallCrossing (crossings_in sizes c (fenced Global) (array Global n) Within us) (crossings_in sizes c (fenced Global) (array Global n) Across us)
        (small-in (fenced Global) (array Global n) Within us p) (small-in (fenced Global) (array Global n) Across us p)
    small-array Local n = small-in (fenced Local) (array Local n) Within us p

    pub small-from : {A : Type 0} (sp : Space) (n : ℕ) (as' : List A) → Each IsSmallCrossing (crossings_from sizes c fenced us sp n as')
    small-from sp n [] = tt
    small-from sp n (a ∷ as') = both IsSmallCrossing (crossings_of sizes c fenced us sp n) (crossings_from sizes c fenced us sp (suc n) as') (small-array sp n) (small-from sp (suc n) as')

pub small-crossings : {E : Type 0} (k : Kernel) (c : Conditions) (us : List (Of (Access E))) → Each IsSmallOf us → Each IsSmallCrossing (crossings k c us)
small-crossings k c us p =
    both IsSmallCrossing (crossings_from k.sizes c (is_fenced k.body) us Global 0 k.buffers) (crossings_from k.sizes c (is_fenced k.body) us Local 0 k.arrays)
    (small-from k.sizes c (is_fenced k.body) us p Global 0 k.buffers) (small-from k.sizes c (is_fenced k.body) us p Local 0 k.arrays)
