-- The walk of a plain kernel's terms: its forms are small, and the claims of ranges in its indexes are settled.
use Rattle.std.proofs.Common.{◌≡◌, ℕ, zero, suc, ◌+◌, ◌*◌, ◌<◌, ◌≤◌, Bool, true, false, List, [], ◌∷◌, ◌++◌, length, slice_index_or, inl, inr, arith, refl, sym, ap, subst, ◌∙◌, mul-le-mul, mul-add, mul_assoc}
use Rattle.std.specs.Prelude.{pos, negsuc, ◌+ℤ◌, ◌*ℤ◌, map}
use Rattle.std.proofs.lemmas.Int.{ints}
use Rattle.std.proofs.lemmas.Bool.Decides.{nat_tests}
use Rattle.semantics.specs.Word.{Kind, Int, Uint, Size, in_kind, Add, Multiply}
use Rattle.semantics.specs.Core.{Term, GlobalId}
use Rattle.semantics.specs.Launch.{Kernel}
use Rattle.semantics.specs.Conditions.{Conditions}
use Rattle.linear.specs.Exact.{put, multiple, sum}
use Rattle.linear.specs.Sizes.{size}
use Rattle.linear.proofs.Sizes.{size-put}
use Rattle.facts.specs.Symbols.{ArgumentOf, Fact, constant, once}
use Rattle.walk_trees.specs.Held.{with_new}
use Rattle.walk_trees.specs.Trees.{Tree}
use Rattle.walk_trees.specs.Values.{Value, value}
use Rattle.walk_trees.specs.Walks.{Setting, State, newest, holding, any_of, Onward, settles, claimed_once, at_site, ranged, kept_or_new, brought, brought_from, both_brought, known_form}
use Rattle.walk_trees.specs.Operators.{operate, binary}
use Rattle.walk_trees.specs.Terms.{no_value, variable, id_form, walk}
use Rattle.walk_trees.specs.Statements.{setting, argument_values, zero_value}
use Rattle.plain_kernels.specs.Domains.{domain}
use Rattle.plain_kernels.specs.Claims.{brings, ranges}
use Rattle.plain_kernels.specs.Kernels.{is_int, is_signed, IsPlainValue, Number, BroughtNumber, Parameter, BroughtParameter, IsPlainIndex, Alone, Times, Plus, TimesPlus}
use Rattle.plain_kernels.proofs.Terms.{Both, IsKnown}
use Rattle.plain_kernels.proofs.Indexes.{IsPlainState, local, group, id_multiple, number-known, id-known, settles_up, settles_down, low-multiple, minus-multiple, id-form, id-alone, multiple-id, sum-multiple, number-multiple}
use Rattle.plain_kernels.proofs.Trees.{most, less, IsTame, range-tame, range-asked}

-- how large a multiple of the id is
multiple-size : (size' f z : ℕ) → size (id_multiple size' (pos f) (pos z)) ≡ z + (f * 1 + (f * size' + 0))
multiple-size size' f z = ap (λ n. z + n) (size-put (pos f *ℤ pos 1) local (put (pos f *ℤ pos size') group []) ∙ ap (λ n. f * 1 + n) (size-put (pos f *ℤ pos size') group []))

int_below : (z : ℕ) → in_kind Int (pos z) ≡ true → z ≤ 4294967295
int_below z h = grind (arith, nat_tests)

below : (kd : Kind) (z : ℕ) → in_kind kd (pos z) ≡ true → z ≤ 4294967295
below Int z h = int_below z h
below Uint z h = grind (arith, nat_tests)
below Size z h = grind (arith, nat_tests)

pub factor-below : (e : Term) (f z : ℕ) → IsPlainIndex e f z → f ≤ 4294967295
factor-below _ _ _ Alone = omega arith
factor-below _ _ _ (Times p kf f hf) = below kf f hf
factor-below _ _ _ (Plus a kc z hz) = omega arith
factor-below _ _ _ (TimesPlus a p kf kc f z hf hz) = below kf f hf

-- a value parameter is its argument, whatever variables stand behind
argument-value : (n : ℕ) (ks : List Kind) (more : List Value) (x : ℕ) → x < length ks → slice_index_or (argument_values n ks ++ more) x no_value ≡ value (slice_index_or ks x Int) (once (ArgumentOf (n + x)))
argument-value n [] more x l = absurd (omega arith)
argument-value n (kd ∷ ks) more zero l = let e : n ≡ n + 0 = omega arith in ap (λ j. value kd (once (ArgumentOf j))) e
argument-value n (kd ∷ ks) more (suc x) l =
    let e : suc n + x ≡ n + suc x = omega arith in
    argument-value (suc n) ks more x (omega arith) ∙ ap (λ j. value (slice_index_or ks x Int) (once (ArgumentOf j))) e

variable-is : {E : Type 0} (k : Kernel) (st : State E) (x : ℕ) → IsPlainState k st → x < length k.arguments → variable st x ≡ value (slice_index_or k.arguments x Int) (once (ArgumentOf x))
variable-is k st x o l =
    let e : 0 + x ≡ x = omega arith in
    ap (λ vs. slice_index_or vs x no_value) o.1 ∙ argument-value 0 k.arguments (map zero_value k.variables) x l ∙ ap (λ j. value (slice_index_or k.arguments x Int) (once (ArgumentOf j))) e

module _ (k : Kernel) (c : Conditions) (w j : Bool) (h : ℕ → Bool) (m n : ℕ) (em : k.sizes.x ≡ suc m) (en : c.groups.x.high ≡ pos (suc n)) (lm : m ≤ 1023) (ln : n ≤ 65535) (signed : Type 0) where
  abbrev s : Setting Both
  s = setting domain k c w j h

  abbrev Tame : List Bool → State Both → Tree Both → Type 0
  Tame rs st t = IsTame h signed rs st.claims t

  -- what goes on is tame from this value, in each state that the walk of a plain kernel can have
  abbrev GoesOn : List Bool → Value → Onward Both → Type 0
  GoesOn rs x go = (st : State Both) → IsPlainState k st → Tame rs st (go x st)

  module _ (f z : ℕ) (lf : f ≤ 4294967295) (b : f * m + f * suc m * n + z ≤ 4294967295) where
    abbrev form : Fact
    form = id_multiple (suc m) (pos f) (pos z)

    pub small : size form ≤ 4402341478400
    small = let l : suc m ≤ 1024 = omega (arith, lm) in omega (arith, multiple-size (suc m) f z, lf, b, mul-le-mul lf l)

    multiple-tame : (rs : List Bool) (st : State Both) (go : Onward Both) → IsPlainState k st → GoesOn rs (value Uint form) go → Tame (true ∷ true ∷ rs) st (ranged s Uint form st go)
    multiple-tame rs st go o t =
        range-tame s h signed rs form st go
        (ap (settles s st) (low-multiple (suc m) (pos f) (pos z)) ∙ settles_up k c w j h m n em en lm ln f z lf b st o)
        (ap (settles s st) (minus-multiple (suc m) (pos 4294967295) (pos f) (pos z)) ∙ settles_down k c w j h m n em en lm ln f z lf b st o)
        (less form (constant (pos 0)) most (omega (arith, small))) (less (constant (pos 4294967295)) form most (omega (arith, small))) (t (claimed_once (claimed_once st)) o)

  number-tame : (kd : Kind) (z : ℕ) → z ≤ 4294967295 → (rs : List Bool) (st : State Both) (go : Onward Both) → IsPlainState k st → GoesOn rs (value Uint (constant (pos z))) go → Tame (brings Uint kd rs) st (brought_from s Uint kd (constant (pos z)) st go)
  number-tame Uint z l rs st go o t = t st o
  number-tame Size z l rs st go o t = t st o
  number-tame Int z l rs st go o t =
      let e = number-multiple (suc m) (pos z) in
      subst (λ x. Tame (true ∷ true ∷ rs) st (ranged s Uint x st go)) (sym e) (multiple-tame 0 z (omega arith) (omega (arith, l)) rs st go o (subst (λ x. GoesOn rs (value Uint x) go) e t))

  -- from each multiple of the id and a number more that is nowhere larger
  abbrev GoesOnWithin : List Bool → (f z : ℕ) → Onward Both → Type 0
  GoesOnWithin rs f z go = (f' z' : ℕ) → f' ≤ 4294967295 → f' * m + f' * suc m * n + z' ≤ f * m + f * suc m * n + z → GoesOn rs (value Uint (id_multiple (suc m) (pos f') (pos z'))) go

  -- a product of the id, or of the number that it is known to be
  product-known : (f : ℕ) → f ≤ 4294967295 → f * m + f * suc m * n ≤ 4294967295 → (g : Fact) → IsKnown (pos 0) (pos (m + suc m * n)) (id_multiple (suc m) (pos 1) (pos 0)) g → (rs : List Bool) (st : State Both) (go : Onward Both) → IsPlainState k st → GoesOnWithin rs f 0 go →
      Tame (true ∷ true ∷ rs) st (ranged s Uint (multiple (pos f) g) st go)
  product-known f lf b g (inl e) rs st go o t =
      subst (λ x. Tame (true ∷ true ∷ rs) st (ranged s Uint x st go)) (sym (ap (multiple (pos f)) (e ∙ sym (id-alone s m em) ∙ id-form s m em) ∙ multiple-id m f))
      (multiple-tame f 0 lf (omega (arith, b)) rs st go o (t f 0 lf (omega arith)))
  product-known f lf b g (inr (pos j, l, u, e)) rs st go o t =
      let x : multiple (pos f) (constant (pos j)) ≡ constant (pos (f * j)) = ap constant (omega (arith, ints)) in
      let y : f * j ≤ f * m + f * suc m * n = let q : j ≤ m + suc m * n = omega (arith, ints, u) in let r : f ≤ f = omega arith in omega (arith, mul-le-mul r q, mul-add f m (suc m * n), mul_assoc f (suc m) n) in
      let z0 : 0 ≤ 4294967295 = omega arith in
      subst (λ x. Tame (true ∷ true ∷ rs) st (ranged s Uint x st go)) (sym (ap (multiple (pos f)) e ∙ x ∙ number-multiple (suc m) (pos (f * j))))
      (multiple-tame 0 (f * j) z0 (omega (arith, y, b)) rs st go o (t 0 (f * j) z0 (omega (arith, y))))
  product-known f lf b g (inr (negsuc j, l, u, e)) rs st go o t = absurd (omega (arith, ints, l))

  product-tame : (f : ℕ) → f ≤ 4294967295 → f * m + f * suc m * n ≤ 4294967295 → (rs : List Bool) (st : State Both) (go : Onward Both) → IsPlainState k st → GoesOnWithin rs f 0 go → Tame (true ∷ true ∷ rs) st (binary s Multiply Uint (id_form s GlobalId 0) (constant (pos f)) st go)
  product-tame f lf b rs st go o t =
      let one = id_multiple (suc m) (pos 1) (pos 0) in
      subst (λ x. Tame (true ∷ true ∷ rs) st (operate s Multiply Uint (known_form s st x) (known_form s st (constant (pos f))) st go)) (sym (id-alone s m em))
      (subst (λ x. Tame (true ∷ true ∷ rs) st (operate s Multiply Uint (known_form s st one) x st go)) (sym (number-known k c w j h m n em en lm ln st f lf))
      (product-known f lf b (known_form s st one) (id-known k c w j h m n em en lm ln st o) rs st go o t))

  pub index-tame : (e : Term) (f z : ℕ) → IsPlainIndex e f z → f * m + f * suc m * n + z ≤ 4294967295 → (rs : List Bool) (st : State Both) (go : Onward Both) → IsPlainState k st → GoesOnWithin rs f z go → Tame (ranges k.arguments e rs) st ((walk s e).value st go)
  index-tame _ _ _ Alone b rs st go o t = subst (λ x. Tame rs st (go (value Uint x) st)) (sym (id-alone s m em)) (t 1 0 (omega arith) (omega arith) st o)
  index-tame _ _ _ (Times p kf f hf) b rs st go o t =
      let lf = below kf f hf in
      number-tame kf f lf (true ∷ true ∷ rs) (at_site p st) (λ y st1. binary s Multiply Uint (id_form s GlobalId 0) y.form st1 go) o (λ st1 o1. product-tame f lf (omega (arith, b)) rs st1 go o1 t)
  index-tame _ _ _ (Plus a kc z hz) b rs st go o t =
      let z0 : pos 0 +ℤ pos z ≡ pos z = omega (arith, ints) in
      let one : 1 ≤ 4294967295 = omega arith in
      number-tame kc z (below kc z hz) (true ∷ true ∷ rs) (at_site a st) (λ y st1. binary s Add Uint (id_form s GlobalId 0) y.form st1 go) o (λ st1 o1.
      subst (λ x. Tame (true ∷ true ∷ rs) st1 (ranged s Uint x st1 go))
      (sym (ap (λ g. sum g (constant (pos z))) (id-alone s m em) ∙ sum-multiple (suc m) (pos 1) (pos 0) (pos z) ∙ ap (id_multiple (suc m) (pos 1)) z0))
      (multiple-tame 1 z one b rs st1 go o1 (t 1 z one (omega arith))))
  index-tame _ _ _ (TimesPlus a p kf kc f z hf hz) b rs st go o t =
      let lf = below kf f hf in
      let rs2 : List Bool = brings Uint kc (true ∷ true ∷ rs) in
      let on1 : Onward Both = λ x st2. both_brought s Uint x (value kc (constant (pos z))) (at_site a st2) (λ x' y' st3. binary s Add Uint x'.form y'.form st3 go) in
      number-tame kf f lf (true ∷ true ∷ rs2) (at_site p st) (λ y st1. binary s Multiply Uint (id_form s GlobalId 0) y.form st1 on1) o (λ st1 o1.
      product-tame f lf (omega (arith, b)) rs2 st1 on1 o1 (λ f' z' l' u st2 o2.
      let b' : f' * m + f' * suc m * n + (z' + z) ≤ 4294967295 = omega (arith, b, u) in
      number-tame kc z (omega (arith, b)) (true ∷ true ∷ rs) (at_site a st2) (λ y st3. binary s Add Uint (id_multiple (suc m) (pos f') (pos z')) y.form st3 go) o2 (λ st3 o3.
      subst (λ x. Tame (true ∷ true ∷ rs) st3 (ranged s Uint x st3 go)) (sym (sum-multiple (suc m) (pos f') (pos z') (pos z)))
      (multiple-tame f' (z' + z) l' b' rs st3 go o3 (t f' (z' + z) l' (omega (arith, u)))))))

  -- from each value
  abbrev GoesOnAny : List Bool → Onward Both → Type 0
  GoesOnAny rs go = (x : Value) → GoesOn rs x go

  new-tame : (rs : List Bool) (f : Fact) (st : State Both) (go : Onward Both) → IsPlainState k st → GoesOnAny rs go → (b : Bool) → Tame rs st (kept_or_new s b f st go)
  new-tame rs f st go o t true = t (value Uint f) st o
  new-tame rs f st go o t false =
      let new = newest st in
      (less new (constant (pos 0)) most (omega arith), (less (constant (pos 4294967295)) new most (omega arith), t (value Uint new) (holding (with_new (any_of domain Uint) st.held) st) o))

  given-tame : (kd : Kind) (x : ℕ) → (is_int kd ≡ true → signed) → (rs : List Bool) (st : State Both) (go : Onward Both) → IsPlainState k st → GoesOnAny rs go → Tame (brings Uint kd rs) st (brought_from s Uint kd (once (ArgumentOf x)) st go)
  given-tame Uint x g rs st go o t = t (value Uint (once (ArgumentOf x))) st o
  given-tame Size x g rs st go o t = t (value Uint (once (ArgumentOf x))) st o
  given-tame Int x g rs st go o t =
      let f = once (ArgumentOf x) in
      range-asked s h signed rs f st go (λ i. refl) (g refl) (less f (constant (pos 0)) most (omega arith)) (less (constant (pos 4294967295)) f most (omega arith)) (new-tame rs f (claimed_once (claimed_once st)) go o t)

  pub value-tame : (v : Term) → IsPlainValue k.arguments v → (is_signed k.arguments v ≡ true → signed) → (rs : List Bool) (st : State Both) (go : Onward Both) → IsPlainState k st → GoesOnAny rs go → Tame (ranges k.arguments v rs) st ((walk s v).value st go)
  value-tame v (Number z l) g rs st go o t = t (value Uint (constant (pos z))) st o
  value-tame v (BroughtNumber site z l) g rs st go o t = number-tame Int z (int_below z l) rs (at_site site st) go o (t (value Uint (constant (pos z))))
  value-tame v (Parameter x l) g rs st go o t = t (variable st x) st o
  value-tame v (BroughtParameter site x l) g rs st go o t =
      subst (λ y. Tame (brings Uint (slice_index_or k.arguments x Int) rs) st (brought s Uint y (at_site site st) go)) (sym (variable-is k st x o l))
      (given-tame (slice_index_or k.arguments x Int) x g rs (at_site site st) go o t)
