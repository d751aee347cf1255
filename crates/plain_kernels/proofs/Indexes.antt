-- The forms of an index, and what the domain settles of them.
use Rattle.std.proofs.Common.{mul-le-mul, ◌≡◌, ℕ, suc, ◌+◌, ◌*◌, ◌≤◌, true, Bool, [], ◌∷◌, arith, sym, ap, subst, ◌∙◌, inl, inr}
use Rattle.std.specs.Prelude.{◌^◌, ℤ, pos, negsuc, ◌≤ℤ◌, ◌+ℤ◌, ◌-ℤ◌, ◌*ℤ◌, neg_ℤ}
use Rattle.std.proofs.lemmas.Int.{ints}
use Rattle.semantics.proofs.Integers.{mul_assoc}
use Rattle.semantics.specs.Launch.{Kernel}
use Rattle.semantics.specs.Conditions.{Conditions}
use Rattle.semantics.specs.Word.{Uint}
use Rattle.semantics.specs.Core.{GlobalId}
use Rattle.linear.specs.Exact.{Terms, put, merge, multiple, sum}
use Rattle.facts.specs.Symbols.{First, Symbol, Local, Group, number, symbol_of, Fact, constant, once, minus}
use Rattle.facts.specs.Elements.{Known, Elements, element}
use Rattle.facts.specs.Launching.{known, below}
use Rattle.facts.proofs.Naming.{symbol_of-number}
use Rattle.walk_trees.specs.Held.{Held, latest, element_held, element_number}
use Rattle.walk_trees.specs.Walks.{Setting, State, element_of, settles, low_end, known_form}
use Rattle.walk_trees.specs.Terms.{id_form}
use Rattle.walk_trees.specs.Statements.{setting, opening_values}
use Rattle.domain.specs.Ends.{all, at_least, at_most}
use Rattle.plain_kernels.specs.Domains.{domain}
use Rattle.plain_kernels.proofs.Ends.{EndsIn, IsEnd, Scales, wider, counts, one-number}
use Rattle.plain_kernels.proofs.Terms.{Both, FirstIn, IsKnown, known-in, settled, scales_up, scales_down, one_more, merge-nil, multiples-put}

below-in : (z : ℤ) (n : ℕ) → z ≡ pos (suc n) → n ≤ 65536 → FirstIn (pos 0) (pos n) (below domain z)
below-in z n e h =
    let d : z -ℤ pos 1 ≡ pos n = omega (arith, ints, e) in
    subst (λ y. EndsIn (pos 0) (pos n) (at_most (at_least all (pos 0)) y)) (sym d) (counts n (omega arith))

-- a state of a walk along which nothing was tested or set: the domain narrowed nothing, and variables are as at first
abbrev pub IsPlainState : {E : Type 0} → Kernel → State E → Type 0
IsPlainState k st = (st.held.narrowed ≡ []) × (st.variables ≡ opening_values k)

-- where nothing is narrowed, a symbol has the element that it had at first
held-plain : (kn : Known Both) (h : Held Both) (x : Symbol) → h.narrowed ≡ [] → element_held domain kn h (number x) ≡ element domain (record { known = kn; first = h.news; second = [] }) x
held-plain kn h x e =
    let es : Elements Both = record { known = kn; first = h.news; second = [] } in
    ap (λ ns. latest (element domain es (symbol_of (number x))) ns (number x)) e ∙ ap (element domain es) (symbol_of-number x)

-- the numbers of an item's ids in the first dimension
abbrev pub local : ℕ
local = number (Local First 0)

abbrev pub group : ℕ
group = number (Group First 0)

-- the terms of a multiple of the global id
abbrev pub id_terms : (size : ℕ) (factor : ℤ) → Terms
id_terms size k = put (k *ℤ pos 1) local (put (k *ℤ pos size) group [])

abbrev pub id_multiple : (size : ℕ) (factor constant : ℤ) → Fact
id_multiple size k z = record { terms = id_terms size k; constant = z }

-- a number that is not far out; three of these together are one that an end can have
abbrev pub IsNear : ℤ → Type 0
IsNear z = (neg_ℤ (pos (2 ^ 60)) ≤ℤ z) × (z ≤ℤ pos (2 ^ 60))

near : (z : ℤ) → IsNear z → IsEnd z
near z h = (omega (arith, ints, h), omega (arith, ints, h))

near_two : (x y : ℤ) → IsNear x → IsNear y → IsEnd (x +ℤ y)
near_two x y h i = (omega (arith, ints, h, i), omega (arith, ints, h, i))

near_three : (x y z : ℤ) → IsNear x → IsNear y → IsNear z → IsEnd (x +ℤ y +ℤ z)
near_three x y z h i j = (omega (arith, ints, h, i, j), omega (arith, ints, h, i, j))

module _ (k : Kernel) (c : Conditions) (w j : Bool) (h : ℕ → Bool) (m n : ℕ) (em : k.sizes.x ≡ suc m) (en : c.groups.x.high ≡ pos (suc n)) (lm : m ≤ 1023) (ln : n ≤ 65535) where
  abbrev s : Setting Both
  s = setting domain k c w j h

  abbrev element_now : State Both → ℕ → Both
  element_now st i = element_number domain s.known st.held i

  local-in : (st : State Both) → IsPlainState k st → FirstIn (pos 0) (pos m) (element_now st local)
  local-in st o =
      subst (FirstIn (pos 0) (pos m)) (sym (held-plain (known domain k.sizes c) st.held (Local First 0) o.0)) (below-in (pos k.sizes.x) m (ap pos em) (omega arith))

  group-in : (st : State Both) → IsPlainState k st → FirstIn (pos 0) (pos n) (element_now st group)
  group-in st o =
      subst (FirstIn (pos 0) (pos n)) (sym (held-plain (known domain k.sizes c) st.held (Group First 0) o.0)) (below-in c.groups.x.high n en (omega arith))

  -- a multiple of the id and a number, none of whose numbers is far out
  multiple-in : (st : State Both) → IsPlainState k st → (f z low high low' high' : ℤ) → Scales (f *ℤ pos 1) (pos 0) (pos m) low high → Scales (f *ℤ pos (suc m)) (pos 0) (pos n) low' high' →
      IsNear z → IsNear (f *ℤ pos 1) → IsNear (f *ℤ pos (suc m)) → IsNear low → IsNear high → IsNear low' → IsNear high' →
      FirstIn (z +ℤ low +ℤ low') (z +ℤ high +ℤ high') (element_of s st (id_multiple (suc m) f z))
  multiple-in st o f z low high low' high' s1 s2 i1 i2 i3 i4 i5 i6 i7 =
      let x = one_more (element_now st) (f *ℤ pos 1) local m (put (f *ℤ pos (suc m)) group []) (domain.number_of z) z z low high (one-number z (near z i1)) (local-in st o) s1 (near _ i2) (near _ i4) (near _ i5) (near_two z low i1 i4) (near_two z high i1 i5) in
      let y = one_more (element_now st) (f *ℤ pos (suc m)) group n [] x.0 (z +ℤ low) (z +ℤ high) low' high' x.2 (group-in st o) s2 (near _ i3) (near _ i6) (near _ i7) (near_three z low low' i1 i4 i6) (near_three z high high' i1 i5 i7) in
      subst (FirstIn (z +ℤ low +ℤ low') (z +ℤ high +ℤ high')) (sym (x.1 ∙ y.1)) y.2

  module _ (f z : ℕ) (lf : f ≤ 4294967295) (b : f * m + f * suc m * n + z ≤ 4294967295) where
    few : f * suc m ≤ 4294967295 * 1024
    few = let size : suc m ≤ 1024 = omega (arith, lm) in mul-le-mul lf size

    e1 : pos f *ℤ pos 1 ≡ pos f
    e1 = omega (arith, ints)

    e2 : pos f *ℤ pos (suc m) ≡ pos (f * suc m)
    e2 = omega (arith, ints)

    -- from a number on, upwards and downwards
    up-in : (st : State Both) → IsPlainState k st → FirstIn (pos z +ℤ pos 0 +ℤ pos 0) (pos z +ℤ pos (f * m) +ℤ pos (f * suc m * n)) (element_of s st (id_multiple (suc m) (pos f) (pos z)))
    up-in st o =
        multiple-in st o (pos f) (pos z) (pos 0) (pos (f * m)) (pos 0) (pos (f * suc m * n)) (scales_up _ f m e1) (scales_up _ (f * suc m) n e2)
        (omega (arith, ints, b), omega (arith, ints, b)) (omega (arith, ints, lf), omega (arith, ints, lf)) (omega (arith, ints, few), omega (arith, ints, few)) (omega (arith, ints, b), omega (arith, ints, b)) (omega (arith, ints, b), omega (arith, ints, b)) (omega (arith, ints, b), omega (arith, ints, b)) (omega (arith, ints, b), omega (arith, ints, b))

    pub settles_up : (st : State Both) → IsPlainState k st → settles s st (id_multiple (suc m) (pos f) (pos z)) ≡ true
    settles_up st o = settled _ _ (element_of s st (id_multiple (suc m) (pos f) (pos z))) (omega (arith, ints)) (up-in st o)

    pub settles_down : (st : State Both) → IsPlainState k st → settles s st (id_multiple (suc m) (negsuc 0 *ℤ pos f) (pos 4294967295 -ℤ pos z)) ≡ true
    settles_down st o =
        let d1 : (negsuc 0 *ℤ pos f) *ℤ pos 1 ≡ neg_ℤ (pos f) = omega (arith, ints) in
        let d2 : (negsuc 0 *ℤ pos f) *ℤ pos (suc m) ≡ neg_ℤ (pos (f * suc m)) = mul_assoc (negsuc 0) (pos f) (pos (suc m)) ∙ omega (arith, ints) in
        let r = multiple-in st o (negsuc 0 *ℤ pos f) (pos 4294967295 -ℤ pos z) (neg_ℤ (pos (f * m))) (pos 0) (neg_ℤ (pos (f * suc m * n))) (pos 0) (scales_down _ f m d1) (scales_down _ (f * suc m) n d2)
        (omega (arith, ints, b), omega (arith, ints, b)) (omega (arith, ints, d1, lf), omega (arith, ints, d1, lf)) (omega (arith, ints, d2, few), omega (arith, ints, d2, few)) (omega (arith, ints, b), omega (arith, ints, b)) (omega (arith, ints), omega (arith, ints)) (omega (arith, ints, b), omega (arith, ints, b)) (omega (arith, ints), omega (arith, ints)) in
        settled _ _ (element_of s st (id_multiple (suc m) (negsuc 0 *ℤ pos f) (pos 4294967295 -ℤ pos z))) (omega (arith, ints, b)) r

  -- a number is known to be itself, and the id to be itself or one of its numbers
  pub number-known : (st : State Both) (z : ℕ) → z ≤ 4294967295 → known_form s st (constant (pos z)) ≡ constant (pos z)
  number-known st z l =
      let x = domain.number_of (pos z) in
      by (known-in (pos z) (pos z) x (constant (pos z)) w (one-number (pos z) (near (pos z) (omega (arith, ints, l), omega (arith, ints, l)))))
    where
      by : {f : Fact} → IsKnown (pos z) (pos z) (constant (pos z)) f → f ≡ constant (pos z)
      by (inl e) = e
      by (inr p) = p.3 ∙ ap constant (omega (arith, ints, p.1, p.2))

  pub id-known : (st : State Both) → IsPlainState k st → IsKnown (pos 0) (pos (m + suc m * n)) (id_multiple (suc m) (pos 1) (pos 0)) (known_form s st (id_multiple (suc m) (pos 1) (pos 0)))
  id-known st o =
      let r = up-in 1 0 (omega arith) (omega (arith, lm, ln, mul-le-mul ms ln)) st o in
      let form = id_multiple (suc m) (pos 1) (pos 0) in
      known-in (pos 0) (pos (m + suc m * n)) (element_of s st form) form w (wider _ _ (pos 0) (pos (m + suc m * n)) (element_of s st form).first.first r (omega (arith, ints)) (omega (arith, ints)))
    where
      ms : suc m ≤ 1024
      ms = omega (arith, lm)

-- the low end of a multiple's range is the multiple itself, and what is left to the high end the turned multiple
pub low-multiple : (size : ℕ) (f z : ℤ) → low_end Uint (id_multiple size f z) ≡ id_multiple size f z
low-multiple size f z =
    let e : z +ℤ pos 0 ≡ z = omega (arith, ints) in
    λ i. record { terms = merge-nil (id_terms size f) i; constant = e i }

pub minus-multiple : (size : ℕ) (top f z : ℤ) → minus (constant top) (id_multiple size f z) ≡ id_multiple size (negsuc 0 *ℤ f) (top -ℤ z)
minus-multiple size top f z =
    let e : top +ℤ (negsuc 0 *ℤ z) ≡ top -ℤ z = omega (arith, ints) in
    let t = multiples-put (negsuc 0) (f *ℤ pos 1) local (put (f *ℤ pos size) group []) ∙ ap (put (negsuc 0 *ℤ (f *ℤ pos 1)) local) (multiples-put (negsuc 0) (f *ℤ pos size) group []) in
    let u : put (negsuc 0 *ℤ (f *ℤ pos 1)) local (put (negsuc 0 *ℤ (f *ℤ pos size)) group []) ≡ id_terms size (negsuc 0 *ℤ f) =
    λ i. put (sym (mul_assoc (negsuc 0) f (pos 1)) i) local (put (sym (mul_assoc (negsuc 0) f (pos size)) i) group []) in
    λ i. record { terms = (t ∙ u) i; constant = e i }

id-merge : (n : ℕ) → merge (put (pos (suc n) *ℤ pos 1) group []) (record { coefficient = pos 1; symbol = local } ∷ []) ≡ record { coefficient = pos 1; symbol = local } ∷ record { coefficient = pos (suc n); symbol = group } ∷ []
id-merge n =
    let e : pos (suc n) *ℤ pos 1 ≡ pos (suc n) = omega (arith, ints) in
    ap (λ z. merge (put z group []) (record { coefficient = pos 1; symbol = local } ∷ [])) e

-- the id itself, its multiples, and a number more
pub id-form : {E : Type 0} (s : Setting E) (m : ℕ) → s.sizes.x ≡ suc m → id_form s GlobalId 0 ≡ record { terms = record { coefficient = pos 1; symbol = local } ∷ record { coefficient = pos (suc m); symbol = group } ∷ []; constant = pos 0 }
id-form s m d =
    (λ i. sum (multiple (pos (d i)) (once (Group First 0))) (once (Local First 0)))
    ∙ (λ i. record { terms = id-merge m i; constant = zero_more i })
  where
    zero_more : pos (suc m) *ℤ pos 0 +ℤ pos 0 ≡ pos 0
    zero_more = omega (arith, ints)

pub multiple-id : (m f : ℕ) → multiple (pos f) (record { terms = record { coefficient = pos 1; symbol = local } ∷ record { coefficient = pos (suc m); symbol = group } ∷ []; constant = pos 0 }) ≡ id_multiple (suc m) (pos f) (pos 0)
multiple-id m f = let e : pos f *ℤ pos 0 ≡ pos 0 = omega (arith, ints) in λ i. record { terms = id_terms (suc m) (pos f); constant = e i }

-- the id alone is one time the id
pub id-alone : {E : Type 0} (s : Setting E) (m : ℕ) → s.sizes.x ≡ suc m → id_form s GlobalId 0 ≡ id_multiple (suc m) (pos 1) (pos 0)
id-alone s m d =
    let one : pos (suc m) ≡ pos 1 *ℤ pos (suc m) = omega (arith, ints) in
    id-form s m d ∙ ap (λ z. record { terms = put (pos 1) local (put z group []); constant = pos 0 }) one

pub sum-multiple : (size : ℕ) (f z c : ℤ) → sum (id_multiple size f z) (constant c) ≡ id_multiple size f (z +ℤ c)
sum-multiple size f z c = λ i. record { terms = merge-nil (id_terms size f) i; constant = z +ℤ c }

pub number-multiple : (size : ℕ) (z : ℤ) → constant z ≡ id_multiple size (pos 0) z
number-multiple size z =
    let e : pos 0 ≡ pos 0 *ℤ pos size = omega (arith, ints) in
    ap (λ c. record { terms = put c group []; constant = z }) e
