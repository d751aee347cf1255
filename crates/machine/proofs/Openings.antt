-- Memory as a launch begins.
use Rattle.std.proofs.Common.{◌≡◌, ◌≤◌, ℕ, zero, suc, List, [], ◌∷◌, Bool, true, false, refl, sym, ap, ◌∙◌, subst, arith, nat_lt, length, map, ltb-true}
use Rattle.std.specs.Prelude.{ℤ, pos, replicate, slice_index_or}
use Rattle.std.proofs.lemmas.Bool.Decides.{nat_tests}
use Rattle.std.proofs.lemmas.List.{get_or-replicate, get_or_past, length-replicate}
use Rattle.std.proofs.Math.Path.{fun_ext}
use Rattle.semantics.specs.Setup.{Setup}
use Rattle.semantics.specs.Memory.{Cell, opening_at, opening_memory}
use Rattle.core_code.specs.View.{local_array}
use Rattle.core_code.specs.declared.tree.LocalArray.{LocalArray}
use Rattle.machine.specs.Memories.{element_or, arrays_in, past_of}

pub same : {A : Type 0} (n i : ℕ) (v : A) → slice_index_or (replicate n v) i v ≡ v
same n i v = by (nat_lt i n) refl
  where
    by : (t : Bool) → nat_lt i n ≡ t → slice_index_or (replicate n v) i v ≡ v
    by true e = get_or-replicate n i v v (ltb-true i n e)
    by false e = get_or_past (replicate n v) i v (subst (λ m. m ≤ i) (sym (length-replicate n v)) (grind (arith, nat_tests)))

abbrev filled : List LocalArray → ℤ → List (List ℤ)
filled arrays v = map (λ (a : LocalArray). replicate a.length v) arrays

in_arrays : (arrays : List LocalArray) (a k : ℕ) (v : ℤ) → element_or (filled arrays v) a k v ≡ v
in_arrays [] a k v = refl
in_arrays (x ∷ arrays) zero k v = same x.length k v
in_arrays (x ∷ arrays) (suc a) k v = in_arrays arrays a k v

in_groups : (n g : ℕ) (arrays : List LocalArray) (a k : ℕ) (v : ℤ) → element_or (slice_index_or (replicate n (filled arrays v)) g []) a k v ≡ v
in_groups n g arrays a k v = by (nat_lt g n) refl
  where
    by : (t : Bool) → nat_lt g n ≡ t → element_or (slice_index_or (replicate n (filled arrays v)) g []) a k v ≡ v
    by true e = ap (λ rows. element_or rows a k v) (get_or-replicate n g (filled arrays v) [] (ltb-true g n e)) ∙ in_arrays arrays a k v
    by false e = ap (λ rows. element_or rows a k v) (get_or_past (replicate n (filled arrays v)) g [] (subst (λ m. m ≤ g) (sym (length-replicate n (filled arrays v))) (grind (arith, nat_tests))))

pub opens : (s : Setup) (n : ℕ) (arrays : List LocalArray) (buffers : List (List ℤ)) (groups : List (List (List ℤ))) → buffers ≡ s.launch.buffers → groups ≡ replicate n (filled arrays (pos s.launch.fill))
    → (λ (d : Cell). element_or (arrays_in buffers groups d.owner) d.array d.index (past_of s.launch.fill d.owner)) ≡ opening_memory s
opens s n arrays buffers groups b h = fun_ext (λ d. at d.owner d.array d.index)
  where
    at : (o a k : ℕ) → element_or (arrays_in buffers groups o) a k (past_of s.launch.fill o) ≡ opening_at s o a k
    at zero a k = ap (λ rows. element_or rows a k (pos 0)) b
    at (suc g) a k = ap (λ gs. element_or (slice_index_or gs g []) a k (pos s.launch.fill)) h ∙ in_groups n g arrays a k (pos s.launch.fill)

lengths : (arrays : List LocalArray) (v : ℤ) → map length (filled arrays v) ≡ map (λ a. a.length) (map local_array arrays)
lengths [] v = refl
lengths (a ∷ arrays) v = ap (λ n. n ∷ map length (filled arrays v)) (length-replicate a.length v) ∙ ap (λ ns. a.length ∷ ns) (lengths arrays v)

of_all : {A B C : Type 0} (f : A → B) (g : B → C) (xs : List A) (n : ℕ) (y : B) (z : C) → map f xs ≡ replicate n y → g y ≡ z → map (λ x. g (f x)) xs ≡ replicate n z
of_all {A} f g xs n y z h e = both xs ∙ ap (map g) h ∙ each n
  where
    both : (ys : List A) → map (λ x. g (f x)) ys ≡ map g (map f ys)
    both [] = refl
    both (x ∷ ys) = ap (λ zs. g (f x) ∷ zs) (both ys)

    each : (m : ℕ) → map g (replicate m y) ≡ replicate m z
    each zero = refl
    each (suc m) = ap (λ a. a ∷ map g (replicate m y)) e ∙ ap (λ zs. z ∷ zs) (each m)

pub shapes : {A : Type 0} (f : A → List (List ℤ)) (xs : List A) (n : ℕ) (arrays : List LocalArray) (v : ℤ) → map f xs ≡ replicate n (filled arrays v) → map (λ x. map length (f x)) xs ≡ replicate n (map (λ a. a.length) (map local_array arrays))
shapes f xs n arrays v h = of_all f (map length) xs n (filled arrays v) _ h (lengths arrays v)
