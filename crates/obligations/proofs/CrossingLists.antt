-- Of any two accesses, one way round or the other, all crossings in an array are in the list.
use Rattle.std.proofs.Common.{◌≡◌, ℕ, zero, suc, ◌+◌, ◌<◌, Bool, List, [], ◌∷◌, length, arith, sym, subst, inl, inr}
use Rattle.std.specs.Prelude.{◌⊎◌}
use Rattle.semantics.specs.Core.{Space, Global, Local, Array}
use Rattle.semantics.specs.Launch.{Three, Kernel}
use Rattle.semantics.specs.Conditions.{Conditions}
use Rattle.walk_trees.specs.Trees.{Access}
use Rattle.walk_trees.specs.Pairs.{Scope, Within, Across}
use Rattle.walk_trees.proofs.Each.{Has, Each, each-left, each-right}
use Rattle.obligations.specs.Listing.{Of}
use Rattle.obligations.specs.Crossings.{Crossing, array, with_one, with_each, crossings_in, crossings_of, crossings_from, is_fenced, crossings}

-- an array of the kernel
abbrev pub IsNumbered : Kernel → Space → ℕ → Type 0
IsNumbered k Global n = n < length k.buffers
IsNumbered k Local n = n < length k.arrays

abbrev pub IsOf : Kernel → Array → Type 0
IsOf k a = IsNumbered k a.space a.number

module _ {E : Type 0} (P : Crossing E → Type 0) (sizes : Three ℕ) (c : Conditions) where
  -- all crossings of an access with another one
  abbrev pub Crossed : Bool → Array → Scope → Of (Access E) → Of (Access E) → Type 0
  Crossed fenced a s u v = Each P (with_one sizes c fenced a s u v)

  with_each-has : (fenced : Bool) (a : Array) (s : Scope) (u : Of (Access E)) (vs : List (Of (Access E))) → Each P (with_each sizes c fenced a s u vs) → (v : Of (Access E)) → Has v vs → Crossed fenced a s u v
  with_each-has fenced a s u [] h v k = absurd k
  with_each-has fenced a s u (x ∷ vs) h v (inl e) = subst (Crossed fenced a s u) (sym e) (each-left P (with_one sizes c fenced a s u x) (with_each sizes c fenced a s u vs) h)
  with_each-has fenced a s u (x ∷ vs) h v (inr k) = with_each-has fenced a s u vs (each-right P (with_one sizes c fenced a s u x) (with_each sizes c fenced a s u vs) h) v k

  crossings_in-has : (fenced : Bool) (a : Array) (s : Scope) (us : List (Of (Access E))) → Each P (crossings_in sizes c fenced a s us) → (u v : Of (Access E)) → Has u us → Has v us → Crossed fenced a s u v ⊎ Crossed fenced a s v u
  crossings_in-has fenced a s [] h u v i j = absurd i
  crossings_in-has fenced a s (x ∷ us) h u v (inl e) j = inl (subst (λ y. Crossed fenced a s y v) (sym e) (with_each-has fenced a s x (x ∷ us) (each-left P (with_each sizes c fenced a s x (x ∷ us)) (crossings_in sizes c fenced a s us) h) v j))
  crossings_in-has fenced a s (x ∷ us) h u v (inr i) (inl e) = inr (subst (λ y. Crossed fenced a s y u) (sym e) (with_each-has fenced a s x (x ∷ us) (each-left P (with_each sizes c fenced a s x (x ∷ us)) (crossings_in sizes c fenced a s us) h) u (inr i)))
  crossings_in-has fenced a s (x ∷ us) h u v (inr i) (inr j) = crossings_in-has fenced a s us (each-right P (with_each sizes c fenced a s x (x ∷ us)) (crossings_in sizes c fenced a s us) h) u v i j

  -- array by array
  from-has : {A : Type 0} (fenced : Space → Bool) (us : List (Of (Access E))) (sp : Space) (b : ℕ) (ks : List A) → Each P (crossings_from sizes c fenced us sp b ks) → (n : ℕ) → n < length ks → Each P (crossings_of sizes c fenced us sp (b + n))
  from-has fenced us sp b [] h n l = absurd (omega arith)
  from-has fenced us sp b (k ∷ ks) h zero l =
      let e : b ≡ b + 0 = omega arith in
      subst (λ m. Each P (crossings_of sizes c fenced us sp m)) e (each-left P (crossings_of sizes c fenced us sp b) (crossings_from sizes c fenced us sp (suc b) ks) h)
  from-has fenced us sp b (k ∷ ks) h (suc n) l =
      let e : suc b + n ≡ b + suc n = omega arith in
      subst (λ m. Each P (crossings_of sizes c fenced us sp m)) e (from-has fenced us sp (suc b) ks (each-right P (crossings_of sizes c fenced us sp b) (crossings_from sizes c fenced us sp (suc b) ks) h) n (omega (arith, l)))

  number-has : {A : Type 0} (fenced : Space → Bool) (us : List (Of (Access E))) (sp : Space) (ks : List A) → Each P (crossings_from sizes c fenced us sp 0 ks) → (n : ℕ) → n < length ks → Each P (crossings_of sizes c fenced us sp n)
  number-has fenced us sp ks h n l =
      let e : 0 + n ≡ n = omega arith in
      subst (λ m. Each P (crossings_of sizes c fenced us sp m)) e (from-has fenced us sp 0 ks h n l)

  within-of : (fenced : Space → Bool) (us : List (Of (Access E))) (sp : Space) (n : ℕ) → Each P (crossings_of sizes c fenced us sp n) → Each P (crossings_in sizes c (fenced sp) (array sp n) Within us)
  within-of fenced us Global n h = each-left P (crossings_in sizes c (fenced Global) (array Global n) Within us) (crossings_in sizes c (fenced Global) (array Global n) Across us) h
  within-of fenced us Local n h = h

  across-of : (fenced : Space → Bool) (us : List (Of (Access E))) (n : ℕ) → Each P (crossings_of sizes c fenced us Global n) → Each P (crossings_in sizes c (fenced Global) (array Global n) Across us)
  across-of fenced us n h = each-right P (crossings_in sizes c (fenced Global) (array Global n) Within us) (crossings_in sizes c (fenced Global) (array Global n) Across us) h

module _ {E : Type 0} (P : Crossing E → Type 0) (k : Kernel) (c : Conditions) (us : List (Of (Access E))) (h : Each P (crossings k c us)) where
  abbrev from : Space → Type 0
  from Global = Each P (crossings_from k.sizes c (is_fenced k.body) us Global 0 k.buffers)
  from Local = Each P (crossings_from k.sizes c (is_fenced k.body) us Local 0 k.arrays)

  of_space : (sp : Space) → from sp
  of_space Global = each-left P (crossings_from k.sizes c (is_fenced k.body) us Global 0 k.buffers) (crossings_from k.sizes c (is_fenced k.body) us Local 0 k.arrays) h
  of_space Local = each-right P (crossings_from k.sizes c (is_fenced k.body) us Global 0 k.buffers) (crossings_from k.sizes c (is_fenced k.body) us Local 0 k.arrays) h

  of_array : (sp : Space) (n : ℕ) → IsNumbered k sp n → Each P (crossings_of k.sizes c (is_fenced k.body) us sp n)
  of_array Global n l = number-has P k.sizes c (is_fenced k.body) us Global k.buffers (of_space Global) n l
  of_array Local n l = number-has P k.sizes c (is_fenced k.body) us Local k.arrays (of_space Local) n l

  abbrev pub Either : Array → Scope → Of (Access E) → Of (Access E) → Type 0
  Either a s u v = Crossed P k.sizes c (is_fenced k.body a.space) a s u v ⊎ Crossed P k.sizes c (is_fenced k.body a.space) a s v u

  -- of one group, in each array
  pub within-has : (a : Array) → IsOf k a → (u v : Of (Access E)) → Has u us → Has v us → Either a Within u v
  within-has a l u v i j = crossings_in-has P k.sizes c (is_fenced k.body a.space) a Within us (within-of P k.sizes c (is_fenced k.body) us a.space a.number (of_array a.space a.number l)) u v i j

  -- of two groups, in each buffer
  pub across-has : (a : Array) → a.space ≡ Global → IsOf k a → (u v : Of (Access E)) → Has u us → Has v us → Either a Across u v
  across-has a e l u v i j = subst (λ sp. Either (array sp a.number) Across u v) (sym e) (crossings_in-has P k.sizes c (is_fenced k.body Global) (array Global a.number) Across us (across-of P k.sizes c (is_fenced k.body) us a.number (of_array Global a.number (subst (λ sp. IsNumbered k sp a.number) e l))) u v i j)
