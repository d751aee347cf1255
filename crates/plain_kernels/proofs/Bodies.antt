-- The tree of a plain kernel's one place: its forms are small, and the claims of ranges in its indexes are settled.
use Rattle.std.proofs.Common.{◌≡◌, ℕ, suc, ◌+◌, ◌*◌, ◌≤◌, Bool, true, false, List, [], ◌∷◌, map, Some, None, cond, arith, refl, sym, ap, subst, ◌∙◌, mul-suc, mul-add, mul_assoc}
use Rattle.std.specs.Prelude.{ℤ, pos, ◌+ℤ◌, ◌-ℤ◌, ◌*ℤ◌, ◌≤ℤ◌, ◌||◌}
use Rattle.std.proofs.lemmas.Int.{ints}
use Rattle.semantics.specs.Word.{Uint}
use Rattle.semantics.specs.Core.{Global, Array, Statements, none, one}
use Rattle.semantics.specs.Launch.{Kernel}
use Rattle.semantics.specs.Conditions.{Conditions}
use Rattle.linear.specs.Sizes.{size}
use Rattle.facts.specs.Symbols.{Length, constant, once, minus}
use Rattle.facts.specs.Launching.{buffer_bound, known}
use Rattle.arrivals.specs.Points.{join}
use Rattle.arrivals.specs.Places.{own_place}
use Rattle.arrivals.specs.Symbolic.{courses}
use Rattle.walk_trees.specs.Held.{no_held}
use Rattle.walk_trees.specs.Trees.{Tree}
use Rattle.walk_trees.specs.Walks.{Setting, State, claimed_once, stand, at_site}
use Rattle.walk_trees.specs.Values.{Value, value}
use Rattle.walk_trees.specs.Terms.{stored}
use Rattle.walk_trees.specs.Statements.{setting, spot_of}
use Rattle.walk_trees.proofs.Narrow.{narrow-store}
use Rattle.obligations.specs.Notes.{Notes}
use Rattle.obligations.specs.Roots.{root_state}
use Rattle.obligations.specs.Walking.{Placed, placed, course, is_lawful, refused, tree_of}
use Rattle.plain_kernels.specs.Domains.{domain}
use Rattle.plain_kernels.specs.Claims.{ranges, claims}
use Rattle.plain_kernels.specs.Kernels.{is_signed, has_signed, Plain, ArePlain, last_index}
use Rattle.plain_kernels.proofs.Covering.{index-covered, value-covered}
use Rattle.plain_kernels.proofs.Terms.{Both}
use Rattle.plain_kernels.proofs.Indexes.{IsPlainState, id_multiple}
use Rattle.plain_kernels.proofs.Trees.{most, less, IsTame}
use Rattle.plain_kernels.proofs.Stores.{factor-below, small, index-tame, value-tame}

left : (a b : Bool) → a ≡ true → (a || b) ≡ true
left a b e = rw e refl

right : (a b : Bool) → b ≡ true → (a || b) ≡ true
right true b e = refl
right false b e = e

-- the bound on the last index, over natural numbers
last_below : (f z size' m n : ℕ) (groups : ℤ) → size' ≡ suc m → groups ≡ pos (suc n) → last_index size' groups f z ≤ℤ pos 4294967295 → f * m + f * suc m * n + z ≤ 4294967295
last_below f z size' m n groups em en h =
    let d : pos (suc m) *ℤ pos (suc n) -ℤ pos 1 ≡ pos (m + suc m * n) = omega (arith, ints, mul-suc (suc m) n) in
    let e : last_index size' groups f z ≡ pos f *ℤ pos (m + suc m * n) +ℤ pos z = (λ i. pos f *ℤ (pos (em i) *ℤ en i -ℤ pos 1) +ℤ pos z) ∙ ap (λ x. pos f *ℤ x +ℤ pos z) d in
    let r : (pos f *ℤ pos (m + suc m * n) +ℤ pos z) ≤ℤ pos 4294967295 = subst (λ x. x ≤ℤ pos 4294967295) e h in
    omega (arith, ints, r, mul-add f m (suc m * n), mul_assoc f (suc m) n)

-- of the entry nothing is narrowed
narrowed_none : (b : Bool) → (cond b (no_held {E = Both}) no_held).narrowed ≡ []
narrowed_none true = refl
narrowed_none false = refl

module _ (k : Kernel) (c : Conditions) (notes : Notes) (m n : ℕ) (em : k.sizes.x ≡ suc m) (en : c.groups.x.high ≡ pos (suc n)) (lm : m ≤ 1023) (ln : n ≤ 65535) (signed : Type 0) (free : c.contents ≡ []) where
  abbrev h : ℕ → Bool
  h = notes.has_entry

  abbrev s : Setting Both
  s = setting domain k c notes.is_wide notes.joins h

  abbrev here : Placed Both
  here = placed domain k c notes (own_place None)

  -- the walk of these statements, behind which nothing is left
  abbrev drawn : Statements → State Both → Tree Both
  drawn body st = (courses (course here) (join body [])).go (Some []) st

  -- a lawful term is walked
  allowed : (b : Bool) → b ≡ true → (rs : List Bool) (st : State Both) (t : Tree Both) → IsTame h signed rs st.claims t → IsTame h signed rs st.claims (cond b t (refused st))
  allowed b e rs st t x = subst (λ a. IsTame h signed rs st.claims (cond a t (refused st))) (sym e) x

  body-tame : (body : Statements) → ArePlain k.arguments k.sizes.x c.groups.x.high body → (has_signed k.arguments body ≡ true → signed) → (st : State Both) → IsPlainState k st → IsTame h signed (claims k.arguments body) st.claims (drawn body st)
  body-tame none p g st o = (refl, refl)
  body-tame (one i others) (Plain num buffer site e f z v pi last pv, q) g st o =
      let lf = factor-below e f z pi in
      let b = last_below f z k.sizes.x m n c.groups.x.high em en last in
      let rs : List Bool = claims k.arguments others in
      let vs : List Bool = ranges k.arguments v (false ∷ false ∷ rs) in
      let array : Array = record { space = Global; number = buffer } in
      let before = minus (once (Length buffer)) (constant (pos 1)) in
      allowed (is_lawful e) (index-covered (λ sp. true) e f z pi) (ranges k.arguments e vs) st _
      (index-tame k c notes.is_wide notes.joins h m n em en lm ln signed e f z pi b vs (stand (spot_of num) st) _ o (λ f' z' lf' u st1 o1.
      let form = id_multiple (suc m) (pos f') (pos z') in
      let l : size form ≤ 4402341478400 = small k c notes.is_wide notes.joins h m n em en lm ln signed f' z' lf' (omega (arith, u, b)) in
      let on : State Both → Tree Both = λ st3. drawn others st3 in
      let at : Value = value Uint form in
      let room : size (minus before form) ≤ most = less before form most (omega (arith, l, less (once (Length buffer)) (constant (pos 1)) 2 (omega arith))) in
      allowed (is_lawful v) (value-covered (λ sp. true) k.arguments v pv) vs st1 _
      (value-tame k c notes.is_wide notes.joins h m n em en lm ln signed v pv (λ e. g (left (is_signed k.arguments v) (has_signed k.arguments others) e)) (false ∷ false ∷ rs) (stand (spot_of num) st1) (λ x st2. stored s array site at x st2 on) o1 (λ x st2 o2.
      subst (IsTame h signed (false ∷ false ∷ rs) st2.claims) (sym (narrow-store s (ap (map buffer_bound) free) array site at x st2 on)) (omega (arith, l), tt, (room, tt, (omega (arith, l), body-tame others q (λ e. g (right (is_signed k.arguments v) (has_signed k.arguments others) e)) (claimed_once (claimed_once (at_site site st2))) o2)))))))

  pub tree-tame : ArePlain k.arguments k.sizes.x c.groups.x.high k.body → (has_signed k.arguments k.body ≡ true → signed) → IsTame h signed (claims k.arguments k.body) 0 (tree_of domain k c notes 0 (own_place None))
  tree-tame p g = body-tame k.body p g (root_state domain (known domain k.sizes c) k notes 0 None None) (narrowed_none notes.is_wide, refl)
