-- The forms of ids have their numbers, which a `uint` has.
use Rattle.std.proofs.Common.{◌≡◌, ℕ, zero, suc, ◌+◌, ◌*◌, ◌-◌, ◌<◌, ◌≤◌, ◌^◌, ◌&&◌, Bool, true, false, cond, nat_lt, nat_le, List, arith, refl, sym, ap, ◌∙◌, subst, ltb-true, ltb-false}
use Rattle.std.specs.Prelude.{ℤ, pos, ◌*ℤ◌}
use Rattle.std.proofs.lemmas.Int.{ints}
use Rattle.std.proofs.lemmas.Bool.{and_parts, leb-true}
use Rattle.semantics.specs.Core.{Function, GlobalId, LocalId, GroupId, GlobalSize, LocalSize, NumGroups}
use Rattle.semantics.specs.Launch.{Three, IsCount}
use Rattle.semantics.specs.Setup.{along, local_id, group_id, identity}
use Rattle.linear.specs.Exact.{sum, multiple}
use Rattle.facts.specs.Symbols as symbols
use Rattle.facts.specs.Symbols.{First, Local, Group, Fact, constant, once}
use Rattle.facts.specs.Launching.{are_sizes}
use Rattle.walk_trees.specs.Terms.{id_form}
use Rattle.facts.proofs.Worlds.{View, setup}
use Rattle.walk_trees.proofs.Standing.{walks}
use Rattle.facts.proofs.Launched.{local-below, group_id-below}
use Rattle.walk_trees.proofs.Ranges.{IsForm, form-is, form_constant, form_once, form-sum, form-multiple}

along-past : (t : Three ℕ) (d past : ℕ) → 3 ≤ d → along t d past ≡ past
along-past t zero past h = absurd (omega arith)
along-past t (suc zero) past h = absurd (omega arith)
along-past t (suc (suc zero)) past h = absurd (omega arith)
along-past t (suc (suc (suc d))) past h = refl

-- sizes and counts
size_most : (t : Three ℕ) → are_sizes t ≡ true → (d : ℕ) → along t d 1 ≤ 1024
size_most t h d =
    let p = and_parts (nat_le t.x 1024) (nat_le t.y 1024 && nat_le t.z 1024) h in
    let q = and_parts (nat_le t.y 1024) (nat_le t.z 1024) p.1 in
    at d (leb-true t.x 1024 p.0) (leb-true t.y 1024 q.0) (leb-true t.z 1024 q.1)
  where
    at : (d : ℕ) → t.x ≤ 1024 → t.y ≤ 1024 → t.z ≤ 1024 → along t d 1 ≤ 1024
    at zero x y z = x
    at (suc zero) x y z = y
    at (suc (suc zero)) x y z = z
    at (suc (suc (suc d))) x y z = omega arith

count_most : (t : Three ℕ) → IsCount t.x → IsCount t.y → IsCount t.z → (d : ℕ) → along t d 1 ≤ 65536
count_most t x y z zero = x.1
count_most t x y z (suc zero) = y.1
count_most t x y z (suc (suc zero)) = z.1
count_most t x y z (suc (suc (suc d))) = omega arith

product-most : (g k n m : ℕ) → g + k ≡ 65536 → n + m ≡ 1024 → g * n ≤ 67108864
product-most g k n m h j =
    let e = ap (λ x. x * n) h in
    omega (arith, e, j)

-- an id is one of a `uint`
pub id-below : {E : Type 0} (c : View E) (f : Function) (d : ℕ) → identity (setup c) c.item f d < 2 ^ 32
id-below {E} c f d = by f (size_most c.kernel.sizes c.sized d) (count_most c.launch.groups c.fits.count_x c.fits.count_y c.fits.count_z d) (local (nat_lt d 3) refl) (group (nat_lt d 3) refl)
  where
    local : (b : Bool) → nat_lt d 3 ≡ b → local_id (setup c) c.item d ≤ 1024
    local true e = let l = local-below (setup c) c.item c.place d (ltb-true d 3 e) in let m = size_most c.kernel.sizes c.sized d in omega (arith, l, m)
    local false e = let l : local_id (setup c) c.item d ≡ 0 = along-past _ d 0 (ltb-false d 3 e) in omega (arith, l)

    group : (b : Bool) → nat_lt d 3 ≡ b → group_id (setup c) c.item d ≤ 65536
    group true e = let l = group_id-below (setup c) c.item c.place d (ltb-true d 3 e) in let m = count_most c.launch.groups c.fits.count_x c.fits.count_y c.fits.count_z d in omega (arith, l, m)
    group false e = let l : group_id (setup c) c.item d ≡ 0 = along-past _ d 0 (ltb-false d 3 e) in omega (arith, l)

    by : (f : Function) → along c.kernel.sizes d 1 ≤ 1024 → along c.launch.groups d 1 ≤ 65536 → local_id (setup c) c.item d ≤ 1024 → group_id (setup c) c.item d ≤ 65536 → identity (setup c) c.item f d < 2 ^ 32
    by GlobalId n g l k = let p = product-most (group_id (setup c) c.item d) (65536 - group_id (setup c) c.item d) (along c.kernel.sizes d 1) (1024 - along c.kernel.sizes d 1) (omega arith) (omega arith) in omega (arith, p, l)
    by LocalId n g l k = omega (arith, l)
    by GroupId n g l k = omega (arith, k)
    by GlobalSize n g l k = let p = product-most (along c.launch.groups d 1) (65536 - along c.launch.groups d 1) (along c.kernel.sizes d 1) (1024 - along c.kernel.sizes d 1) (omega arith) (omega arith) in omega (arith, p)
    by LocalSize n g l k = omega (arith, n)
    by NumGroups n g l k = omega (arith, g)

chosen : {E : Type 0} (c : View E) (news : List ℤ) (d : ℕ) (b : Bool) → nat_lt d 3 ≡ b → (f g : Fact) (z : ℤ) → IsForm c news f z → (3 ≤ d → IsForm c news g z) → IsForm c news (cond b f g) z
chosen c news d true e f g z mf mg = mf
chosen c news d false e f g z mf mg = mg (ltb-false d 3 e)

is_past : {E : Type 0} (c : View E) (news : List ℤ) (n m : ℕ) → n ≡ m → IsForm c news (constant (pos m)) (pos n)
is_past c news n m e = subst (λ k. IsForm c news (constant (pos m)) (pos k)) (sym e) (form_constant c news (pos m))

pub form_id : {E : Type 0} (c : View E) (news : List ℤ) (f : Function) (d : ℕ) → IsForm c news (id_form (walks c) f d) (pos (identity (setup c) c.item f d))
form_id c news GlobalId d =
    let n = along c.kernel.sizes d 1 in
    let group = form-multiple c (pos n) (once (Group First d)) (pos (group_id (setup c) c.item d)) (form_once c news (Group First d) (pos (group_id (setup c) c.item d)) (λ v a. a.group d)) in
    let local = form_once c news (Local First d) (pos (local_id (setup c) c.item d)) (λ v a. a.local d) in
    chosen c news d (nat_lt d 3) refl (sum (multiple (pos n) (once (Group First d))) (once (Local First d))) (constant (pos 0)) _
    (form-is c (pos (identity (setup c) c.item GlobalId d)) (omega (arith, ints)) (form-sum c (multiple (pos n) (once (Group First d))) (once (Local First d)) (pos n *ℤ pos (group_id (setup c) c.item d)) (pos (local_id (setup c) c.item d)) group local))
    (λ h. is_past c news _ 0 (let g : group_id (setup c) c.item d ≡ 0 = along-past _ d 0 h in let l : local_id (setup c) c.item d ≡ 0 = along-past _ d 0 h in let e = ap (λ m. m * n) g in omega (arith, e, l)))
form_id c news LocalId d = chosen c news d (nat_lt d 3) refl (once (Local First d)) (constant (pos 0)) _ (form_once c news (Local First d) (pos (local_id (setup c) c.item d)) (λ v a. a.local d)) (λ h. is_past c news _ 0 (along-past _ d 0 h))
form_id c news GroupId d = chosen c news d (nat_lt d 3) refl (once (Group First d)) (constant (pos 0)) _ (form_once c news (Group First d) (pos (group_id (setup c) c.item d)) (λ v a. a.group d)) (λ h. is_past c news _ 0 (along-past _ d 0 h))
form_id c news GlobalSize d =
    let n = along c.kernel.sizes d 1 in
    let m = along c.launch.groups d 1 in
    chosen c news d (nat_lt d 3) refl (multiple (pos n) (once (symbols.Groups d))) (constant (pos 1)) _
    (form-is c (pos (m * n)) (omega (arith, ints)) (form-multiple c (pos n) (once (symbols.Groups d)) (pos m) (form_once c news (symbols.Groups d) (pos m) (λ v a. a.groups d))))
    (λ h. is_past c news _ 1 (ap (λ m. along c.launch.groups d 1 * m) (along-past c.kernel.sizes d 1 h) ∙ ap (λ m. m * 1) (along-past c.launch.groups d 1 h)))
form_id c news LocalSize d = chosen c news d (nat_lt d 3) refl (constant (pos (along c.kernel.sizes d 1))) (constant (pos 1)) _ (form_constant c news _) (λ h. is_past c news _ 1 (along-past c.kernel.sizes d 1 h))
form_id c news NumGroups d = chosen c news d (nat_lt d 3) refl (once (symbols.Groups d)) (constant (pos 1)) _ (form_once c news (symbols.Groups d) (pos (along c.launch.groups d 1)) (λ v a. a.groups d)) (λ h. is_past c news _ 1 (along-past c.launch.groups d 1 h))
